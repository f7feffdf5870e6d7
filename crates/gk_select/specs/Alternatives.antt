-- The old form of a tag rule: alternatives separated by commas.
use Rattle.std.specs.Prelude.{codes, not, ◌≡◌, ℕ, Bool, true, false, ◌==◌, ◌||◌, List, [], ◌∷◌, ◌++◌, length, map, drop, slice_index_or, Option, Some, None, IsSome, option_map, if◌then◌else◌}
use Rattle.std.specs.List.{list_any, slice_split}
use Rattle.std.specs.String.{string_bytes}
use Rattle.std.specs.Str.{bytes_eq}
use Rattle.gk_gherkin.specs.Text.{begins}
use Rattle.gk_gherkin.specs.Tags.{is_tag}
use Rattle.gk_select.specs.declared.alternatives.Alternative.{Alternative}
use Rattle.gk_select.specs.TagWords.{WordValue, not_word, or_word, tag_word, is_of_new_form}
use Rattle.gk_select.specs.TagGrammar.{Expression, one_term, or_terms, one_factor, Factor, tagged, negated}

-- An alternative: its tag has to be present or, if `negated`, absent. (behave's documentation: tag expressions)
pub record AlternativeValue : Type 0 where
  pub negated : Bool
  pub tag : List ℕ

-- The value of an `Alternative`.
abbrev pub alternative_value : Alternative → AlternativeValue
alternative_value a = record { negated = a.negated; tag = string_bytes a.tag }

-- Whether an alternative holds for a set of tags. (behave's documentation: tag expressions)
abbrev pub alternative_holds : List (List ℕ) → AlternativeValue → Bool
alternative_holds tags a = if a.negated then not (list_any (bytes_eq a.tag) tags) else list_any (bytes_eq a.tag) tags

-- The tag of an alternative without its `~`. With `@` at the beginning, the text must be a tag. Without, it must be a name that begins with neither `~` nor `-` and isn't empty; the `@` is added.
abbrev pub tag_named : List ℕ → Option (List ℕ)
tag_named text =
    if begins text (codes "@") then (if is_tag text then Some text else None) else
    (if (length text == 0) || (begins text (codes "~") || begins text (codes "-")) then None else Some (codes "@" ++ text))

-- The alternative that a text spells: its tag has to be present or, with `~` before it, absent. (behave's documentation: tag expressions)
abbrev pub alternative : List ℕ → Option AlternativeValue
alternative text =
    if begins text (codes "~") then option_map (λ tag. record { negated = true; tag = tag }) (tag_named (drop 1 text))
    else option_map (λ tag. record { negated = false; tag = tag }) (tag_named text)

-- The pieces of a text between its commas.
abbrev pub pieces : List ℕ → List (List ℕ)
pieces text = slice_split (λ b. b == 44) text

-- A text of alternatives: it has no space, tab or parenthesis, and the pieces between its commas are the alternatives. (behave's documentation: tag expressions)
pub record ReadsAlternatives (text : List ℕ) (alternatives : List AlternativeValue) : Type 0 where
  pub old_form : list_any is_of_new_form text ≡ false
  pub says : map alternative (pieces text) ≡ map Some alternatives

-- A text of the old form whose first alternative is valid. If it isn't, memory can't run out.
abbrev pub FirstAlternativeSays : List ℕ → Type 0
FirstAlternativeSays text = (list_any is_of_new_form text ≡ false) × IsSome (alternative (slice_index_or (pieces text) 0 []))

-- An alternative as a factor of an expression.
abbrev pub factor_of : AlternativeValue → Factor
factor_of a = if a.negated then negated (tagged a.tag) else tagged a.tag

-- The `or` of the first alternative and the others.
abbrev pub or_of : AlternativeValue → List AlternativeValue → Expression
or_of first [] = one_term (one_factor (factor_of first))
or_of first (second ∷ others) = or_terms (one_factor (factor_of first)) (or_of second others)

-- Proof machinery: the words of an alternative, as they are pushed.
abbrev pub alternative_words : AlternativeValue → List WordValue
alternative_words a = if a.negated then not_word ∷ tag_word a.tag ∷ [] else tag_word a.tag ∷ []

-- Proof machinery: words, followed by those of one more alternative.
abbrev pub words_with : List WordValue → AlternativeValue → List WordValue
words_with words a = if length words == 0 then alternative_words a else words ++ or_word ∷ alternative_words a
