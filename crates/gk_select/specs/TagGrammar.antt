-- The grammar of tag expressions.
use Rattle.std.specs.Prelude.{◌≡◌, ℕ, ◌+◌, max, List, [], ◌∷◌, ◌++◌}
use Rattle.gk_select.specs.TagWords.{WordValue, open_word, close_word, not_word, and_word, or_word, tag_word}

-- An expression is terms joined by `or`, a term is factors joined by `and`, and a factor is a tag, the negation of a factor, or an expression in parentheses. (Cucumber's tag expressions)
mutual
  -- Terms joined by `or`.
  pub data Expression : Type 0 where
    one_term : Term → Expression
    or_terms : Term → Expression → Expression

  -- Factors joined by `and`.
  pub data Term : Type 0 where
    one_factor : Factor → Term
    and_factors : Factor → Term → Term

  -- A tag, the negation of a factor, or an expression in parentheses.
  pub data Factor : Type 0 where
    tagged : List ℕ → Factor
    negated : Factor → Factor
    grouped : Expression → Factor

-- The words that spell an expression. (Cucumber's tag expressions)
abbrev mutual
  pub spelling : Expression → List WordValue
  spelling (one_term t) = term_spelling t
  spelling (or_terms t e) = term_spelling t ++ or_word ∷ spelling e

  pub term_spelling : Term → List WordValue
  term_spelling (one_factor f) = factor_spelling f
  term_spelling (and_factors f t) = factor_spelling f ++ and_word ∷ term_spelling t

  pub factor_spelling : Factor → List WordValue
  factor_spelling (tagged tag) = tag_word tag ∷ []
  factor_spelling (negated f) = not_word ∷ factor_spelling f
  factor_spelling (grouped e) = open_word ∷ (spelling e ++ close_word ∷ [])

-- The depth of nested `not` and `(`, counted together, in an expression.
abbrev mutual
  pub depth : Expression → ℕ
  depth (one_term t) = term_depth t
  depth (or_terms t e) = max (term_depth t) (depth e)

  pub term_depth : Term → ℕ
  term_depth (one_factor f) = factor_depth f
  term_depth (and_factors f t) = max (factor_depth f) (term_depth t)

  pub factor_depth : Factor → ℕ
  factor_depth (tagged tag) = 0
  factor_depth (negated f) = factor_depth f + 1
  factor_depth (grouped e) = depth e + 1

-- The maximum depth of nested `not` and `(`, counted together.
abbrev pub depth_limit : ℕ
depth_limit = 100

-- An expression that these words spell.
abbrev pub SpeltBy : List WordValue → Type 0
SpeltBy words = (e : Expression) × (spelling e ≡ words)

-- The tags that an expression names, in the order in which they occur, each as often as it occurs.
abbrev mutual
  pub tags_in : Expression → List (List ℕ)
  tags_in (one_term t) = term_tags t
  tags_in (or_terms t e) = term_tags t ++ tags_in e

  pub term_tags : Term → List (List ℕ)
  term_tags (one_factor f) = factor_tags f
  term_tags (and_factors f t) = factor_tags f ++ term_tags t

  pub factor_tags : Factor → List (List ℕ)
  factor_tags (tagged tag) = tag ∷ []
  factor_tags (negated f) = factor_tags f
  factor_tags (grouped e) = tags_in e
