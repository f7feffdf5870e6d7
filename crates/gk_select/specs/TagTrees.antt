-- The proof that words spell at most one expression: read from the last to the first, they build it.
use Rattle.std.specs.Coded.{Coded, code_by, coded×, coded_list, coded_ℕ}
use Rattle.std.specs.Prelude.{◌≡◌, ℕ, zero, suc, List, [], ◌∷◌, ◌++◌, Option, Some, None, option_and_then}
use Rattle.std.proofs.Common.{refl, ap, sym, ◌∙◌, append_assoc, append-nil}
use mathlib.Core.HLevel.{Σ_prop_path}
use mathlib.Core.List.{is_set as List-set}
use native.Mathlib.Nat.{ℕ_set}
use Rattle.gk_select.specs.TagWords.{WordValue, word_value_set, open_word, close_word, not_word, and_word, or_word, tag_word}
use Rattle.gk_select.specs.TagGrammar.{Expression, one_term, or_terms, Term, one_factor, and_factors, Factor, tagged, negated, grouped, spelling, term_spelling, factor_spelling, SpeltBy}

-- The rest of a group after a factor: what is joined to the factor by `and`, and what comes after the next `or`.
pub record GroupRest : Type 0 where
  pub joined : Option Term
  pub later : Option Expression

-- What is built: the part of the innermost group, with the factor before it if one is read, and the parts of the enclosing groups.
pub data State : Type 0 where
  waiting : GroupRest → List GroupRest → State
  ready : Factor → GroupRest → List GroupRest → State

-- The part of a group in which nothing is read yet.
abbrev pub empty : GroupRest
empty = record { joined = None; later = None }

-- The term of a factor and what is joined to it.
abbrev pub term_from : Factor → Option Term → Term
term_from f None = one_factor f
term_from f (Some t) = and_factors f t

-- The expression of a term and what comes after the next `or`.
abbrev pub expression_from : Term → Option Expression → Expression
expression_from t None = one_term t
expression_from t (Some e) = or_terms t e

-- The expression of a factor and the part after it.
abbrev pub closed : Factor → GroupRest → Expression
closed f p = expression_from (term_from f p.joined) p.later

-- What is built once a word is read before those that built a state; `None` if it can't come there.
abbrev pub step : WordValue → State → Option State
step open_word (waiting p ps) = None
step open_word (ready f p []) = None
step open_word (ready f p (q ∷ ps)) = Some (ready (grouped (closed f p)) q ps)
step close_word (waiting p ps) = Some (waiting empty (p ∷ ps))
step close_word (ready f p ps) = None
step not_word (waiting p ps) = None
step not_word (ready f p ps) = Some (ready (negated f) p ps)
step and_word (waiting p ps) = None
step and_word (ready f p ps) = Some (waiting (record { joined = Some (term_from f p.joined); later = p.later }) ps)
step or_word (waiting p ps) = None
step or_word (ready f p ps) = Some (waiting (record { joined = None; later = Some (closed f p) }) ps)
step (tag_word t) (waiting p ps) = Some (ready (tagged t) p ps)
step (tag_word t) (ready f p ps) = None

-- What words build, if they build anything.
abbrev pub run : List WordValue → Option State
run [] = Some (waiting empty [])
run (w ∷ ws) = option_and_then (step w) (run ws)

-- From here on: the words of an expression build that expression. The first factor of a term.
abbrev pub first : Term → Factor
first (one_factor f) = f
first (and_factors f t) = f

-- The factors after the first one.
abbrev pub others : Term → Option Term
others (one_factor f) = None
others (and_factors f t) = Some t

-- The first term.
abbrev pub head : Expression → Term
head (one_term t) = t
head (or_terms t e) = t

-- The terms after the first one.
abbrev pub tail : Expression → Option Expression
tail (one_term t) = None
tail (or_terms t e) = Some e

term_again : (t : Term) → term_from (first t) (others t) ≡ t
term_again (one_factor f) = refl
term_again (and_factors f t) = refl

-- An expression without its first factor.
abbrev pub part_of : Expression → GroupRest
part_of e = record { joined = others (head e); later = tail e }

-- The first factor and the rest make the expression again.
pub expression_again : (e : Expression) → closed (first (head e)) (part_of e) ≡ e
expression_again (one_term t) = ap one_term (term_again t)
expression_again (or_terms t e) = ap (λ (t : Term). or_terms t e) (term_again t)

mutual
  run_factor : (f : Factor) (ws : List WordValue) (p : GroupRest) (ps : List GroupRest) → run ws ≡ Some (waiting p ps) → run (factor_spelling f ++ ws) ≡ Some (ready f p ps)
  run_factor (tagged t) ws p ps h = ap (option_and_then (step (tag_word t))) h
  run_factor (negated f) ws p ps h = ap (option_and_then (step not_word)) (run_factor f ws p ps h)
  run_factor (grouped e) ws p ps h =
      let inner : run (spelling e ++ close_word ∷ ws) ≡ Some (ready (first (head e)) (part_of e) (p ∷ ps)) = run_expression e (close_word ∷ ws) (p ∷ ps) (ap (option_and_then (step close_word)) h) in
      ap (λ (r : List WordValue). run (open_word ∷ r)) (append_assoc (spelling e) (close_word ∷ []) ws)
      ∙ ap (option_and_then (step open_word)) inner
      ∙ ap (λ (e : Expression). Some (ready (grouped e) p ps)) (expression_again e)

  run_term : (t : Term) (ws : List WordValue) (l : Option Expression) (ps : List GroupRest) → run ws ≡ Some (waiting (record { joined = None; later = l }) ps)
      → run (term_spelling t ++ ws) ≡ Some (ready (first t) (record { joined = others t; later = l }) ps)
  run_term (one_factor f) ws l ps h = run_factor f ws (record { joined = None; later = l }) ps h
  run_term (and_factors f t) ws l ps h =
      let after : run (and_word ∷ (term_spelling t ++ ws)) ≡ Some (waiting (record { joined = Some t; later = l }) ps) =
      ap (option_and_then (step and_word)) (run_term t ws l ps h) ∙ ap (λ (t : Term). Some (waiting (record { joined = Some t; later = l }) ps)) (term_again t) in
      ap run (append_assoc (factor_spelling f) (and_word ∷ term_spelling t) ws) ∙ run_factor f (and_word ∷ (term_spelling t ++ ws)) (record { joined = Some t; later = l }) ps after

  run_expression : (e : Expression) (ws : List WordValue) (ps : List GroupRest) → run ws ≡ Some (waiting empty ps) → run (spelling e ++ ws) ≡ Some (ready (first (head e)) (part_of e) ps)
  run_expression (one_term t) ws ps h = run_term t ws None ps h
  run_expression (or_terms t e) ws ps h =
      let after : run (or_word ∷ (spelling e ++ ws)) ≡ Some (waiting (record { joined = None; later = Some e }) ps) =
      ap (option_and_then (step or_word)) (run_expression e ws ps h) ∙ ap (λ (e : Expression). Some (waiting (record { joined = None; later = Some e }) ps)) (expression_again e) in
      ap run (append_assoc (term_spelling t) (or_word ∷ spelling e) ws) ∙ run_term t (or_word ∷ (spelling e ++ ws)) (Some e) ps after

-- The words of an expression build it.
pub run_whole : (e : Expression) → run (spelling e) ≡ Some (ready (first (head e)) (part_of e) [])
run_whole e = ap run (sym (append-nil (spelling e))) ∙ run_expression e [] [] refl

-- An expression is what its words build, so words spell at most one expression.
abbrev pub built : Option State → Expression
built None = one_term (one_factor (tagged []))
built (Some (waiting p ps)) = one_term (one_factor (tagged []))
built (Some (ready f p ps)) = closed f p

-- The words that spell an expression build it.
pub built_from : (e : Expression) (ws : List WordValue) → spelling e ≡ ws → e ≡ built (run ws)
built_from e ws says = sym (ap built (ap run (sym says) ∙ run_whole e) ∙ expression_again e)

-- Expressions with the same words are equal.
pub one_expression : (d e : Expression) → spelling d ≡ spelling e → d ≡ e
one_expression d e same = built_from d (spelling e) same ∙ sym (built_from e (spelling e) refl)

-- A word as a number and a text, and back.
abbrev pub word_as_pair : WordValue → ℕ × List ℕ
word_as_pair open_word = (0, [])
word_as_pair close_word = (1, [])
word_as_pair not_word = (2, [])
word_as_pair and_word = (3, [])
word_as_pair or_word = (4, [])
word_as_pair (tag_word tag) = (5, tag)

-- The word of such a pair.
abbrev pub word_of_pair : ℕ × List ℕ → WordValue
word_of_pair (zero, text) = open_word
word_of_pair (suc zero, text) = close_word
word_of_pair (suc (suc zero), text) = not_word
word_of_pair (suc (suc (suc zero)), text) = and_word
word_of_pair (suc (suc (suc (suc zero))), text) = or_word
word_of_pair (suc (suc (suc (suc (suc n)))), text) = tag_word text

-- A word that was made a pair is itself again.
pub word_again : (word : WordValue) → word_of_pair (word_as_pair word) ≡ word
word_again open_word = refl
word_again close_word = refl
word_again not_word = refl
word_again and_word = refl
word_again or_word = refl
word_again (tag_word tag) = refl

-- Words are stored as such pairs.
abbrev pub words_code : Coded (List WordValue)
words_code = coded_list (code_by (ℕ × List ℕ) (coded× coded_ℕ (coded_list coded_ℕ)) word_as_pair word_of_pair word_again)

-- An expression is stored as its words.
abbrev pub expression_code : Coded Expression
expression_code = code_by (List WordValue) words_code spelling (λ ws. built (run ws)) (λ e. sym (built_from e (spelling e) refl))

-- Words spell at most one expression, in one way.
pub spelt_once : (ws : List WordValue) → IsProp (SpeltBy ws)
spelt_once ws x y = Σ_prop_path (λ (e : Expression). List-set (word_value_set (List-set ℕ_set)) (spelling e) ws) (built_from x.0 ws x.1 ∙ sym (built_from y.0 ws y.1))
