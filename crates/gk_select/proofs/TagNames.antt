-- The tags among the words of an expression are those that it names.
use Rattle.gk_select.proofs.Common.{◌≡◌, ℕ, List, [], ◌∷◌, ◌++◌, refl, ap, ap₂, sym, ◌∙◌, append-nil, WordValue, open_word, close_word, not_word, and_word, or_word, tag_word, tags_among, Expression, one_term, or_terms, Term, one_factor, and_factors, Factor, tagged, negated, grouped, spelling, term_spelling, factor_spelling, tags_in, term_tags, factor_tags}

among-append : (before after : List WordValue) → tags_among (before ++ after) ≡ tags_among before ++ tags_among after
among-append [] after = refl
among-append (tag_word tag ∷ before) after = ap (λ (tags : List (List ℕ)). tag ∷ tags) (among-append before after)
among-append (open_word ∷ before) after = among-append before after
among-append (close_word ∷ before) after = among-append before after
among-append (not_word ∷ before) after = among-append before after
among-append (and_word ∷ before) after = among-append before after
among-append (or_word ∷ before) after = among-append before after

both : (before after : List WordValue) (x y : List (List ℕ)) → tags_among before ≡ x → tags_among after ≡ y → tags_among (before ++ after) ≡ x ++ y
both before after x y left right = among-append before after ∙ ap₂ (λ (l m : List (List ℕ)). l ++ m) left right

mutual
  among_spelling : (e : Expression) → tags_among (spelling e) ≡ tags_in e
  among_spelling (one_term t) = among_term t
  among_spelling (or_terms t e) = both (term_spelling t) (or_word ∷ spelling e) (term_tags t) (tags_in e) (among_term t) (among_spelling e)

  among_term : (t : Term) → tags_among (term_spelling t) ≡ term_tags t
  among_term (one_factor f) = among_factor f
  among_term (and_factors f t) = both (factor_spelling f) (and_word ∷ term_spelling t) (factor_tags f) (term_tags t) (among_factor f) (among_term t)

  among_factor : (f : Factor) → tags_among (factor_spelling f) ≡ factor_tags f
  among_factor (tagged tag) = refl
  among_factor (negated f) = among_factor f
  among_factor (grouped e) = both (spelling e) (close_word ∷ []) (tags_in e) [] (among_spelling e) refl ∙ append-nil (tags_in e)

-- So words that spell an expression have its tags.
pub among_words : (e : Expression) (words : List WordValue) → spelling e ≡ words → tags_among words ≡ tags_in e
among_words e words says = ap tags_among (sym says) ∙ among_spelling e
