-- Tag rules, and the texts that spell them. The value of a tag rule is an expression.
use Rattle.std.specs.Prelude.{◌≡◌, ◌⊎◌, ◌≤◌, ℕ, true, List, [], ◌∷◌, slice_index_or, IsSome}
use Rattle.std.specs.List.{list_any}
use Rattle.gk_select.specs.TagWords.{is_of_new_form, words_of_text, word_said, AreWords}
use Rattle.gk_select.specs.TagGrammar.{Expression, spelling, depth, depth_limit}
use Rattle.gk_select.specs.Alternatives.{AlternativeValue, ReadsAlternatives, FirstAlternativeSays, or_of}

-- A text of the old form: the tag rule is the `or` of its alternatives. (behave's documentation: tag expressions)
pub record ReadsOldForm (text : List ℕ) (rule : Expression) : Type 0 where
  pub first : AlternativeValue
  pub others : List AlternativeValue
  pub reads : ReadsAlternatives text (first ∷ others)
  pub is : rule ≡ or_of first others

-- A text of the new form: it has a space, a tab or a parenthesis, its words spell the tag rule, and at most 100 `not` and `(` are nested. (Cucumber's tag expressions)
pub record ReadsNewForm (text : List ℕ) (rule : Expression) : Type 0 where
  pub new_form : list_any is_of_new_form text ≡ true
  pub says : AreWords text (spelling rule)
  pub shallow : depth rule ≤ depth_limit

-- The text of a tag rule, in either form. (behave's documentation: tag expressions; Cucumber's tag expressions)
abbrev pub ReadsTags : List ℕ → Expression → Type 0
ReadsTags text rule = ReadsOldForm text rule ⊎ ReadsNewForm text rule

-- A text that spells no tag rule. (behave's documentation: tag expressions; Cucumber's tag expressions)
abbrev pub SpellsNone : List ℕ → Type 0
SpellsNone text = (rule : Expression) → ReadsTags text rule → ⊥

-- A text of the new form whose first word is valid in an expression. If it isn't, or there is no word, memory can't run out.
abbrev pub FirstWordSays : List ℕ → Type 0
FirstWordSays text = (list_any is_of_new_form text ≡ true) × IsSome (word_said (slice_index_or (words_of_text text) 0 []))

-- A text for which memory can run out: its first alternative or, in the new form, its first word is valid.
abbrev pub NeedsMemory : List ℕ → Type 0
NeedsMemory text = FirstAlternativeSays text ⊎ FirstWordSays text
