-- The values of tag expressions for a set of tags.
use Rattle.std.specs.Prelude.{not, ℕ, ◌+◌, ◌-◌, Bool, true, false, ◌==◌, ◌||◌, ◌&&◌, List, [], ◌∷◌, if◌then◌else◌}
use Rattle.std.specs.List.{list_any}
use Rattle.std.specs.Str.{bytes_eq}
use Rattle.gk_select.specs.TagWords.{WordValue, open_word, close_word, not_word, and_word, or_word, tag_word}
use Rattle.gk_select.specs.TagGrammar.{Expression, one_term, or_terms, Term, one_factor, and_factors, Factor, tagged, negated, grouped}
use Rattle.gk_select.specs.declared.tag_values.Seen.{Seen}
use Rattle.gk_select.specs.declared.tag_values.Seen.TheVariants.{Value, Failed, Held}

-- Whether an expression holds for a set of tags. (Cucumber's tag expressions)
abbrev mutual
  pub holds : Expression → List (List ℕ) → Bool
  holds (one_term t) tags = term_holds t tags
  holds (or_terms t e) tags = term_holds t tags || holds e tags

  pub term_holds : Term → List (List ℕ) → Bool
  term_holds (one_factor f) tags = factor_holds f tags
  term_holds (and_factors f t) tags = factor_holds f tags && term_holds t tags

  pub factor_holds : Factor → List (List ℕ) → Bool
  factor_holds (tagged tag) tags = list_any (bytes_eq tag) tags
  factor_holds (negated f) tags = not (factor_holds f tags)
  factor_holds (grouped e) tags = holds e tags

-- Proof machinery: the state of the evaluation once the word before those read so far is read too. Words are read from the last to the first.
abbrev pub seen_before : List (List ℕ) → WordValue → Seen → Seen
seen_before tags open_word (Value v) = Value v
seen_before tags close_word (Value v) = Value v
seen_before tags not_word (Value v) = Value (not v)
seen_before tags and_word (Value v) = if v then Value v else Failed 0
seen_before tags or_word (Value v) = if v then Held 0 else Value v
seen_before tags (tag_word tag) (Value v) = Value (list_any (bytes_eq tag) tags)
seen_before tags open_word (Failed depth) = if depth == 0 then Value false else Failed (depth - 1)
seen_before tags close_word (Failed depth) = Failed (depth + 1)
seen_before tags not_word (Failed depth) = Failed depth
seen_before tags and_word (Failed depth) = Failed depth
seen_before tags or_word (Failed depth) = if depth == 0 then Value false else Failed depth
seen_before tags (tag_word tag) (Failed depth) = Failed depth
seen_before tags open_word (Held depth) = if depth == 0 then Value true else Held (depth - 1)
seen_before tags close_word (Held depth) = Held (depth + 1)
seen_before tags not_word (Held depth) = Held depth
seen_before tags and_word (Held depth) = Held depth
seen_before tags or_word (Held depth) = Held depth
seen_before tags (tag_word tag) (Held depth) = Held depth

-- Proof machinery: the state of the evaluation once these words are read.
abbrev pub seen_of : List (List ℕ) → List WordValue → Seen
seen_of tags [] = Value false
seen_of tags (word ∷ words) = seen_before tags word (seen_of tags words)

-- Proof machinery: the value in a state.
abbrev pub seen_value : Seen → Bool
seen_value (Value v) = v
seen_value (Failed depth) = false
seen_value (Held depth) = true

-- Proof machinery: how many groups deep the skipped words are.
abbrev pub seen_depth : Seen → ℕ
seen_depth (Value v) = 0
seen_depth (Failed depth) = depth
seen_depth (Held depth) = depth
