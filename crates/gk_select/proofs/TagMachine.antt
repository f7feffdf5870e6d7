-- What words of an expression have built has those words.
use Rattle.gk_select.proofs.Common.{◌≡◌, List, [], ◌∷◌, ◌++◌, Option, Some, None, option_and_then, refl, ap, sym, ◌∙◌, append_assoc, append-nil, arith, common_steps, WordValue, open_word, close_word, not_word, and_word, or_word, tag_word, Expression, Term, Factor, tagged, negated, spelling, term_spelling, factor_spelling, SpeltBy, GroupRest, State, waiting, ready, empty, closed, step, run, built_from}

-- What is built has the words taken so far.
abbrev pub joined_words : Option Term → List WordValue
joined_words None = []
joined_words (Some t) = and_word ∷ term_spelling t

abbrev pub later_words : Option Expression → List WordValue
later_words None = []
later_words (Some e) = or_word ∷ spelling e

abbrev pub part_words : GroupRest → List WordValue
part_words p = joined_words p.joined ++ later_words p.later

abbrev pub outer_words : List GroupRest → List WordValue
outer_words [] = []
outer_words (p ∷ ps) = close_word ∷ (part_words p ++ outer_words ps)

abbrev pub state_words : State → List WordValue
state_words (waiting p ps) = part_words p ++ outer_words ps
state_words (ready f p ps) = factor_spelling f ++ (part_words p ++ outer_words ps)

closed_words : (f : Factor) (p : GroupRest) → spelling (closed f p) ≡ factor_spelling f ++ part_words p
closed_words f p = grind (arith, common_steps, append_assoc)

step_words : (w : WordValue) (s s' : State) → step w s ≡ Some s' → state_words s' ≡ w ∷ state_words s
step_words open_word (waiting p ps) s' e = let no : ⊥ = cc e in absurd no
step_words open_word (ready f p []) s' e = let no : ⊥ = cc e in absurd no
step_words open_word (ready f p (q ∷ ps)) s' e = grind (arith, common_steps)
step_words close_word (waiting p ps) s' e = let is : waiting empty (p ∷ ps) ≡ s' = cc e in ap state_words (sym is)
step_words close_word (ready f p ps) s' e = let no : ⊥ = cc e in absurd no
step_words not_word (waiting p ps) s' e = let no : ⊥ = cc e in absurd no
step_words not_word (ready f p ps) s' e = let is : ready (negated f) p ps ≡ s' = cc e in ap state_words (sym is)
step_words and_word (waiting p ps) s' e = let no : ⊥ = cc e in absurd no
step_words and_word (ready f p ps) s' e = grind (arith, common_steps)
step_words or_word (waiting p ps) s' e = let no : ⊥ = cc e in absurd no
step_words or_word (ready f p ps) s' e = grind (arith, common_steps)
step_words (tag_word t) (waiting p ps) s' e = let is : ready (tagged t) p ps ≡ s' = cc e in ap state_words (sym is)
step_words (tag_word t) (ready f p ps) s' e = let no : ⊥ = cc e in absurd no

-- Each turn.
pub taken : (w : WordValue) (s : State) (ws : List WordValue) → run ws ≡ Some s → run (w ∷ ws) ≡ step w s
taken w s ws h = ap (option_and_then (step w)) h

some_words : (w : WordValue) (ws : List WordValue) (r : Option State) (s' : State) → ((s : State) → r ≡ Some s → state_words s ≡ ws) → option_and_then (step w) r ≡ Some s' → state_words s' ≡ w ∷ ws
some_words w ws None s' before e = let no : ⊥ = cc e in absurd no
some_words w ws (Some s) s' before e = step_words w s s' e ∙ ap (λ (x : List WordValue). w ∷ x) (before s refl)

pub run_words : (ws : List WordValue) (s : State) → run ws ≡ Some s → state_words s ≡ ws
run_words [] s e = let is : waiting empty [] ≡ s = cc e in ap state_words (sym is)
run_words (w ∷ ws) s e = some_words w ws (run ws) s (run_words ws) e

pub spelt_by : (ws : List WordValue) (f : Factor) (p : GroupRest) → run ws ≡ Some (ready f p []) → spelling (closed f p) ≡ ws
spelt_by ws f p e = closed_words f p ∙ ap (λ (x : List WordValue). factor_spelling f ++ x) (sym (append-nil (part_words p))) ∙ run_words ws (ready f p []) e

-- What is spelt is the one expression that the words spell.
pub spelt_is : (ws : List WordValue) (s : SpeltBy ws) (e : Expression) → spelling e ≡ ws → s.0 ≡ e
spelt_is ws s e says = built_from s.0 ws s.1 ∙ sym (built_from e ws says)
