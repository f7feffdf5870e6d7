-- The room that is left, part after part, and how many steps the cases have.
use Rattle.gk_select.proofs.Common.{◌≡◌, ◌≤◌, ◌<◌, ℕ, ◌+◌, ◌*◌, nat_lt, true, false, List, [], ◌∷◌, ◌++◌, length, map, flat_map, drop, get_or, suc, Option, Some, is_some, not, refl, sym, ap, ◌∙◌, arith, inl, inr, common_steps, cases_Bool, cond-true, cond-false, nat_tests, at_drop_more, drop_all, length-append, length-map, sum_by-cons, sum_by-append, suc-mul, sum_by, enumerate_from, RowValue, ExamplesValue, ScenarioValue, RuleValue, FeatureValue, CaseValue, InheritedValue, background_steps, inherited_in_rule, is_outline, row_case, examples_cases, scenario_cases, rule_cases, cases, step_count, left, left_of, examples_steps, scenario_steps, rule_steps, feature_steps, filled, filled_step}

pub left_add : (room a b : ℕ) → left_of (left room a) b ≡ left room (a + b)
left_add room a b = grind (arith, nat_tests)

pub left-none : (room : ℕ) → left room 0 ≡ Some room
left-none room = grind (arith, nat_tests)

-- A loop over parts, each of which takes some room.
module _ {X Y : Type 0} (F : X → ℕ) (v : Y → X) (ys : List Y) (i : ℕ) where
  pub room_next : (y : Y) (room : ℕ) (total r : Option ℕ) → i < length ys → y ≡ get_or ys i y → r ≡ left room (F (v y))
      → left room (sum_by F (map v (drop i ys))) ≡ total → left_of r (sum_by F (map v (drop (i + 1) ys))) ≡ total
  room_next y room total r l is took so_far =
      let first : sum_by F (map v (drop i ys)) ≡ F (v y) + sum_by F (map v (drop (i + 1) ys))
      = at_drop_more (λ (ys : List Y). sum_by F (map v ys)) ys i y l ∙ ap (λ (y : Y). sum_by F (v y ∷ map v (drop (i + 1) ys))) (sym is) ∙ sum_by-cons F (v y) (map v (drop (i + 1) ys)) in
      rw took (left_add room (F (v y)) (sum_by F (map v (drop (i + 1) ys))) ∙ ap (left room) (sym first) ∙ so_far)

  pub room_done : (room : ℕ) (total : Option ℕ) → length ys ≤ i → left room (sum_by F (map v (drop i ys))) ≡ total → Some room ≡ total
  room_done room total l so_far = sym (left-none room) ∙ ap (λ (ys : List Y). left room (sum_by F (map v ys))) (sym (drop_all i ys l)) ∙ so_far

-- Sums over lists that are made part by part.
sum_flat_map : {A B : Type 0} (g : B → ℕ) (F : A → List B) (G : A → ℕ) → ((x : A) → sum_by g (F x) ≡ G x) → (xs : List A) → sum_by g (flat_map F xs) ≡ sum_by G xs
sum_flat_map g F G e [] = refl
sum_flat_map g F G e (x ∷ xs) = sum_by-append g (F x) (flat_map F xs) ∙ rw (e x, sum_flat_map g F G e xs) (sym (sum_by-cons G x xs))

sum_enumerate : {A : Type 0} (G : A → ℕ) (n : ℕ) (xs : List A) → sum_by (λ (p : ℕ × A). G p.1) (enumerate_from n xs) ≡ sum_by G xs
sum_enumerate G n [] = refl
sum_enumerate {A} G n (x ∷ xs) = sum_by-cons (λ (p : ℕ × A). G p.1) (n, x) (enumerate_from (n + 1) xs) ∙ ap (λ (m : ℕ). G x + m) (sum_enumerate G (n + 1) xs) ∙ sym (sum_by-cons G x xs)

times : (n m : ℕ) → m + n * m ≡ suc n * m
times n m = rw (suc-mul n m) (omega arith)

sum_same : {A B : Type 0} (g : B → ℕ) (F : ℕ × A → B) (m : ℕ) → ((x : ℕ × A) → g (F x) ≡ m) → (n : ℕ) (xs : List A) → sum_by g (map F (enumerate_from n xs)) ≡ length xs * m
sum_same g F m e n [] = omega arith
sum_same g F m e n (x ∷ xs) = sum_by-cons g (F (n, x)) (map F (enumerate_from (n + 1) xs)) ∙ rw (e (n, x), sum_same g F m e (n + 1) xs) (times (length xs) m)

abbrev steps_of : CaseValue → ℕ
steps_of c = length c.steps

row_steps : (inherited : InheritedValue) (s : ScenarioValue) (e : ℕ) (examples : ExamplesValue) (r : ℕ × RowValue) → steps_of (row_case inherited s e examples r.0 r.1) ≡ length inherited.steps + length s.steps
row_steps inherited s e examples r = length-append inherited.steps _ ∙ ap (λ (m : ℕ). length inherited.steps + m) (length-map s.steps (filled_step (filled examples.header r.1.cells)))

examples_counted : (inherited : InheritedValue) (s : ScenarioValue) (e : ℕ × ExamplesValue) → sum_by steps_of (examples_cases inherited s e) ≡ examples_steps (length inherited.steps + length s.steps) e.1
examples_counted inherited s e = sum_same steps_of (λ (r : ℕ × RowValue). row_case inherited s e.0 e.1 r.0 r.1) _ (row_steps inherited s e.0 e.1) 1 e.1.rows

pub alone : (n : ℕ) → 0 + n ≡ n
alone n = omega arith

scenario_counted : (inherited : InheritedValue) (s : ScenarioValue) → sum_by steps_of (scenario_cases inherited s) ≡ scenario_steps (length inherited.steps) s
scenario_counted inherited s = elim (cases_Bool (is_outline s)) [
  | inl t ↦ rw t (sum_flat_map steps_of (examples_cases inherited s) (λ (e : ℕ × ExamplesValue). examples_steps (length inherited.steps + length s.steps) e.1) (examples_counted inherited s) (enumerate_from 1 s.examples)
      ∙ sum_enumerate (examples_steps (length inherited.steps + length s.steps)) 1 s.examples)
  | inr f ↦ rw f (alone (length (inherited.steps ++ s.steps)) ∙ length-append inherited.steps s.steps)
]

rule_counted : (f : FeatureValue) (r : ℕ × RuleValue) → sum_by steps_of (rule_cases f r) ≡ rule_steps (length (background_steps f.background)) r.1
rule_counted f r =
    let inherited = inherited_in_rule f r.0 r.1 in
    sum_flat_map steps_of (scenario_cases inherited) (scenario_steps (length inherited.steps)) (scenario_counted inherited) r.1.scenarios
    ∙ ap (λ (n : ℕ). sum_by (scenario_steps n) r.1.scenarios) (length-append (background_steps f.background) (background_steps r.1.background))

pub counted : (f : FeatureValue) → step_count f ≡ feature_steps f
unfolding cases
counted f = grind (arith, common_steps, sum_by-append, flat_map, sum_flat_map, scenario_counted, rule_counted, sum_enumerate)

-- What the loop over Examples has to come to.
pub outline_total : (inherited own : ℕ) (s : ScenarioValue) → own ≡ length s.steps → is_outline s ≡ true → sum_by (examples_steps (inherited + own)) s.examples ≡ scenario_steps inherited s
outline_total inherited own s e t = ap (λ (own : ℕ). sum_by (examples_steps (inherited + own)) s.examples) e ∙ sym (cond-true (is_outline s) _ _ t)

pub plain_total : (inherited own : ℕ) (s : ScenarioValue) → own ≡ length s.steps → is_outline s ≡ false → 1 * (inherited + own) ≡ scenario_steps inherited s
plain_total inherited own s e f = let one : 1 * (inherited + own) ≡ inherited + own = omega arith in one ∙ ap (λ (own : ℕ). inherited + own) e ∙ sym (cond-false (is_outline s) _ _ f)

pub is_some-left : (room n : ℕ) (r : Option ℕ) → r ≡ left room n → is_some r ≡ not (nat_lt room n)
is_some-left room n r e = rw e (grind (arith, nat_tests))
