-- Sets of texts.
use Rattle.std.specs.Prelude.{ℕ, Bool, List}
use Rattle.std.specs.List.{list_any}
use Rattle.std.specs.Str.{bytes_eq}
use Rattle.gk_lint.specs.declared.text_sets.TextSet.{TextSet}

-- Whether a text is one of some texts.
abbrev pub is_one_of : List (List ℕ) → List ℕ → Bool
is_one_of texts text = list_any (λ t. bytes_eq t text) texts

-- Proof machinery: whether a set has a text.
abbrev pub in_set : TextSet → List ℕ → Bool
in_set set text = list_any (λ k. bytes_eq text k.now) set.texts.keys
