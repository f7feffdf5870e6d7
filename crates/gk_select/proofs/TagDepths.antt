-- What the words taken so far have built is as deep as it is measured.
use Rattle.gk_select.proofs.Common.{◌≡◌, ◌⊎◌, ◌≤◌, ◌<◌, ◌+◌, ◌-◌, ◌==◌, ℕ, zero, suc, max, min, false, List, [], ◌∷◌, ◌++◌, length, take, get_or, Option, Some, None, option_and_then, refl, ap, sym, subst, ◌∙◌, arith, map, drop, inl, inr, Err, common_steps, map-append, take-append-drop, get_or-append_seam, nat_tests, WordValue, word_value, open_word, close_word, not_word, and_word, or_word, tag_word, Expression, Term, Factor, spelling, depth, term_depth, factor_depth, depth_limit, GroupRest, State, waiting, ready, closed, step, run, run_whole, expression_again, first, head, part_of, Measure, measure_before, measure_of, built_value, Word, SelectFault, TooMany, BadTagText, Memory, AnswersOrLacksMemory}
use Rattle.std.proofs.Common.{length-append}
use Rattle.gk_select.proofs.TagMachine.{spelt_by}

abbrev pub capped : ℕ → ℕ
capped n = min n 101

abbrev joined_depth : Option Term → ℕ
joined_depth None = 0
joined_depth (Some t) = term_depth t

abbrev later_depth : Option Expression → ℕ
later_depth None = 0
later_depth (Some e) = depth e

abbrev pub part_depth : GroupRest → ℕ
part_depth p = max (joined_depth p.joined) (later_depth p.later)

abbrev outer_depths : List GroupRest → List ℕ
outer_depths [] = []
outer_depths (p ∷ ps) = outer_depths ps ++ capped (part_depth p) ∷ []

abbrev measured : State → Measure
measured (waiting p ps) = record { factor = None; behind = capped (part_depth p); outer = outer_depths ps }
measured (ready f p ps) = record { factor = Some (capped (factor_depth f)); behind = capped (part_depth p); outer = outer_depths ps }

abbrev made : Option ℕ → ℕ → List ℕ → Option Measure
made f b o = Some (record { factor = f; behind = b; outer = o })

closed_deep : (f : Factor) (p : GroupRest) → depth (closed f p) ≡ max (factor_depth f) (part_depth p)
closed_deep f p = grind (arith, common_steps)

seam : (xs : List ℕ) (x : ℕ) → length (xs ++ x ∷ []) - 1 ≡ length xs
seam xs x = omega (arith, length-append xs (x ∷ []))

last_of : (xs : List ℕ) (x : ℕ) → get_or (xs ++ x ∷ []) (length (xs ++ x ∷ []) - 1) 0 ≡ x
last_of xs x = ap (λ (k : ℕ). get_or (xs ++ x ∷ []) k 0) (seam xs x) ∙ get_or-append_seam xs x [] 0

long : (n m : ℕ) → n ≡ m + 1 → (n == 0) ≡ false
long n m e = grind (arith, nat_tests)

pub map_state : Option State → Option Measure
map_state None = None
map_state (Some s) = Some (measured s)

step_measured : (w : WordValue) (s : State) → measure_before w (measured s).factor (measured s).behind (measured s).outer ≡ map_state (step w s)
unfolding map_state
step_measured open_word (waiting p ps) = refl
step_measured open_word (ready f p []) = refl
step_measured open_word (ready f p (q ∷ ps)) = grind (arith, common_steps)
step_measured close_word (waiting p ps) = refl
step_measured close_word (ready f p ps) = refl
step_measured not_word (waiting p ps) = refl
step_measured not_word (ready f p ps) = grind (arith, common_steps)
step_measured and_word (waiting p ps) = refl
step_measured and_word (ready f p ps) = grind (arith, common_steps)
step_measured or_word (waiting p ps) = refl
step_measured or_word (ready f p ps) = grind (arith, common_steps)
step_measured (tag_word t) (waiting p ps) = refl
step_measured (tag_word t) (ready f p ps) = refl

goes_measured : (w : WordValue) (r : Option State) → option_and_then (λ (m : Measure). measure_before w m.factor m.behind m.outer) (map_state r) ≡ map_state (option_and_then (step w) r)
unfolding map_state
goes_measured w None = refl
goes_measured w (Some s) = step_measured w s

run_measured : (ws : List WordValue) → measure_of ws ≡ map_state (run ws)
unfolding map_state
run_measured [] = refl
run_measured (w ∷ ws) = ap (option_and_then (λ (m : Measure). measure_before w m.factor m.behind m.outer)) (run_measured ws) ∙ goes_measured w (run ws)

abbrev factor_of : Option Measure → Option ℕ
factor_of None = None
factor_of (Some m) = m.factor

abbrev behind_of : Option Measure → ℕ
behind_of None = 0
behind_of (Some m) = m.behind

abbrev outer_of : Option Measure → List ℕ
outer_of None = []
outer_of (Some m) = m.outer

-- What is accepted is spelt.
abbrev pub Accepted : List WordValue → Type 0
Accepted ws = (e : Expression) × (spelling e ≡ ws) × (depth e ≤ depth_limit)

shallow : (f p d n b : ℕ) → d ≡ max f p → n ≡ min f 101 → b ≡ min p 101 → max n b ≤ 100 → d ≤ 100
shallow f p d n b x y z h = omega arith

accepted_at : (ws : List WordValue) (r : Option State) → run ws ≡ r → (n b : ℕ) (o : List ℕ) → map_state r ≡ made (Some n) b o → length o ≡ 0 → max n b ≤ 100 → Accepted ws
unfolding map_state
accepted_at ws None is n b o e none low = let no : ⊥ = cc e in absurd no
accepted_at ws (Some (waiting p ps)) is n b o e none low = let other : ◌≡◌ {A = Option ℕ} None (Some n) = ap factor_of e in let no : ⊥ = cc other in absurd no
accepted_at ws (Some (ready f p [])) is n b o e none low =
    let some : ◌≡◌ {A = Option ℕ} (Some (capped (factor_depth f))) (Some n) = ap factor_of e in
    let first : capped (factor_depth f) ≡ n = cc some in
    let second : capped (part_depth p) ≡ b = ap behind_of e in
    (closed f p, spelt_by ws f p is, shallow (factor_depth f) (part_depth p) (depth (closed f p)) n b (closed_deep f p) (sym first) (sym second) low)
accepted_at ws (Some (ready f p (q ∷ ps))) is n b o e none low = grind (arith, common_steps)

pub accepted : (ws : List WordValue) (m : Measure) (n : ℕ) → measure_of ws ≡ Some m → m.factor ≡ Some n → length m.outer ≡ 0 → max n m.behind ≤ 100 → Accepted ws
accepted ws m n is factor none low = accepted_at ws (run ws) refl n m.behind m.outer (sym (run_measured ws) ∙ is ∙ ap (λ (o : Option ℕ). made o m.behind m.outer) factor) none low

-- What is spelt is accepted.
low_enough : (f p d : ℕ) → d ≡ max f p → d ≤ 100 → max (min f 101) (min p 101) ≤ 100
low_enough f p d x h = omega arith

measure_whole : (ws : List WordValue) (e : Expression) → spelling e ≡ ws → measure_of ws ≡ Some (measured (ready (first (head e)) (part_of e) []))
unfolding map_state
measure_whole ws e says = run_measured ws ∙ ap map_state (ap run (sym says) ∙ run_whole e)

pub refused : (ws : List WordValue) (m : Measure) → measure_of ws ≡ Some m → (m.factor ≡ None) ⊎ ((n : ℕ) × (m.factor ≡ Some n) × ((length m.outer ≡ 0) → max n m.behind ≤ 100 → ⊥)) → (e : Expression) → spelling e ≡ ws → depth e ≤ depth_limit → ⊥
refused ws m is (inl none) e says low = let same : Some (measured (ready (first (head e)) (part_of e) [])) ≡ Some m = sym (measure_whole ws e says) ∙ is in cc (same, none)
refused ws m is (inr bad) e says low =
    let same : measured (ready (first (head e)) (part_of e) []) ≡ m = cc (sym (measure_whole ws e says) ∙ is) in
    let n_is : capped (factor_depth (first (head e))) ≡ bad.0 = cc (same, bad.1) in
    let b_is : capped (part_depth (part_of e)) ≡ m.behind = cc same in
    let o_is : [] ≡ m.outer = cc same in
    bad.2 (ap length (sym o_is)) (subst (λ (k : ℕ). k ≤ 100) (ap (λ (k : ℕ). max k (capped (part_depth (part_of e)))) n_is ∙ ap (λ (k : ℕ). max bad.0 k) b_is)
    (low_enough (factor_depth (first (head e))) (part_depth (part_of e)) (depth e) (sym (ap depth (expression_again e)) ∙ closed_deep (first (head e)) (part_of e)) low))

-- Where a word can't stand, nothing is spelt.
none_on : (front ws : List WordValue) → measure_of ws ≡ None → measure_of (front ++ ws) ≡ None
none_on [] ws e = e
none_on (w ∷ front) ws e = ap (option_and_then (λ (m : Measure). measure_before w m.factor m.behind m.outer)) (none_on front ws e)

pub stopped : (ws : List Word) (i : ℕ) → measure_of (map word_value (drop i ws)) ≡ None → (e : Expression) → spelling e ≡ map word_value ws → ⊥
stopped ws i none e says =
    let whole : measure_of (map word_value ws) ≡ None = ap (λ (xs : List Word). measure_of (map word_value xs)) (sym (take-append-drop i ws)) ∙ ap measure_of (map-append word_value (take i ws) (drop i ws)) ∙ none_on (map word_value (take i ws)) (map word_value (drop i ws)) none in
    let no : ⊥ = cc (sym whole ∙ measure_whole (map word_value ws) e says) in no

word_stops : (ws : List Word) (i : ℕ) (w : Word) (m : Measure) → 0 < i → i ≤ length ws → w ≡ get_or ws (i - 1) w → measure_of (map word_value (drop i ws)) ≡ Some m → measure_before (word_value w) m.factor m.behind m.outer ≡ None
    → measure_of (map word_value (drop (i - 1) ws)) ≡ None
word_stops ws zero w m some within is h none = absurd (omega arith)
word_stops ws (suc i) w m some within is h none = grind (arith, common_steps)

pub before_errs : (ws : List Word) (i : ℕ) (w : Word) (m : Measure) → 0 < i → i ≤ length ws → w ≡ get_or ws (i - 1) w → measure_of (map word_value (drop i ws)) ≡ Some m
    → (e : SelectFault) → AnswersOrLacksMemory built_value (Err e) (measure_before (word_value w) m.factor m.behind m.outer)
    → (e ≡ Memory) ⊎ ((e ≡ BadTagText) × ((x : Expression) → spelling x ≡ map word_value ws → depth x ≤ depth_limit → ⊥))
before_errs ws i w m some within is h Memory g = inl refl
before_errs ws i w m some within is h BadTagText g = inr (refl, λ x says low. stopped ws (i - 1) (word_stops ws i w m some within is h g) x says)
before_errs ws i w m some within is h TooMany g = absurd g

pub unspelt : (ws : List WordValue) → measure_of ws ≡ None → (e : Expression) → spelling e ≡ ws → ⊥
unspelt ws none e says = let no : ⊥ = cc (sym none ∙ measure_whole ws e says) in no
