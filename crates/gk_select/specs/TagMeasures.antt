-- The check of the words of an expression: they are read from the last to the first, with the depth of each open part.
use Rattle.std.specs.Prelude.{ℕ, ◌+◌, ◌-◌, ◌==◌, nat_le, max, List, [], ◌∷◌, ◌++◌, length, take, slice_index, Option, Some, None, option_and_then, if◌then◌else◌}
use Rattle.gk_select.specs.TagWords.{WordValue, open_word, close_word, not_word, and_word, or_word, tag_word}
use Rattle.gk_select.specs.declared.tag_grammar.Built.{Built}

-- The depths of what is built. `factor` is that of the factor just read, if any; `behind` is that of what comes after it in its group. `outer` has those of the parts of the enclosing groups, the innermost last. No depth counts past 101.
pub record Measure : Type 0 where
  pub factor : Option ℕ
  pub behind : ℕ
  pub outer : List ℕ

-- The value of a `Built`.
abbrev pub built_value : Built → Measure
built_value b = record { factor = b.factor; behind = b.behind; outer = b.outer.items }

-- One deeper, but not past 101.
abbrev pub deeper : ℕ → ℕ
deeper n = if nat_le n 100 then n + 1 else n

-- What is built once the word before those read so far is read too; `None` if it can't come there.
abbrev pub measure_before : WordValue → Option ℕ → ℕ → List ℕ → Option Measure
measure_before open_word None behind outer = None
measure_before open_word (Some factor) behind outer =
    if length outer == 0 then None else Some (record { factor = Some (deeper (max factor behind)); behind = slice_index outer (length outer - 1); outer = take (length outer - 1) outer })
measure_before close_word None behind outer = Some (record { factor = None; behind = 0; outer = outer ++ behind ∷ [] })
measure_before close_word (Some factor) behind outer = None
measure_before not_word None behind outer = None
measure_before not_word (Some factor) behind outer = Some (record { factor = Some (deeper factor); behind = behind; outer = outer })
measure_before and_word None behind outer = None
measure_before and_word (Some factor) behind outer = Some (record { factor = None; behind = max factor behind; outer = outer })
measure_before or_word None behind outer = None
measure_before or_word (Some factor) behind outer = Some (record { factor = None; behind = max factor behind; outer = outer })
measure_before (tag_word tag) None behind outer = Some (record { factor = Some 0; behind = behind; outer = outer })
measure_before (tag_word tag) (Some factor) behind outer = None

-- What is built once these words are read.
abbrev pub measure_of : List WordValue → Option Measure
measure_of [] = Some (record { factor = None; behind = 0; outer = [] })
measure_of (word ∷ words) = option_and_then (λ m. measure_before word m.factor m.behind m.outer) (measure_of words)
