-- The cases of a feature fall into its rules.
use Rattle.gk_select.proofs.Common.{◌≡◌, ℕ, ◌+◌, ◌≤◌, List, [], ◌∷◌, ◌++◌, length, map, flat_map, Option, refl, arith, inl, inr, common_steps, cases_Bool, map-append, AllByRecursion, enumerate_from, RowValue, ExamplesValue, ScenarioValue, RuleValue, FeatureValue, CaseValue, rank, FallFrom, FallIntoRules, InheritedValue, is_outline, row_case, examples_cases, scenario_cases, rule_cases, cases}

-- What holds of each element of lists that are made part by part.
all_map : {A B : Type 0} (P : B → Type 0) (F : A → B) → ((x : A) → P (F x)) → (xs : List A) → AllByRecursion P (map F xs)
all_map P F each [] = tt
all_map P F each (x ∷ xs) = (each x, all_map P F each xs)

all_flat_map : {A B : Type 0} (P : B → Type 0) (F : A → List B) → ((x : A) → AllByRecursion P (F x)) → (xs : List A) → AllByRecursion P (flat_map F xs)
all_flat_map P F each [] = tt
all_flat_map P F each (x ∷ xs) = grind (arith, common_steps, flat_map, all_flat_map P F each xs)

-- A case stands in the rule of its scenario.
abbrev IsIn : Option ℕ → CaseValue → Type 0
IsIn rule c = c.rule ≡ rule

scenario_is_in : (i : InheritedValue) (s : ScenarioValue) → AllByRecursion (IsIn i.rule) (scenario_cases i s)
scenario_is_in i s = elim (cases_Bool (is_outline s)) [
  | inl t ↦ rw t (all_flat_map (IsIn i.rule) (examples_cases i s) (λ (e : ℕ × ExamplesValue). all_map (IsIn i.rule) (λ (r : ℕ × RowValue). row_case i s e.0 e.1 r.0 r.1) (λ r. refl) (enumerate_from 1 e.1.rows)) (enumerate_from 1 s.examples))
  | inr f ↦ rw f (refl, tt)
]

scenarios_are_in : (i : InheritedValue) (scenarios : List ScenarioValue) → AllByRecursion (IsIn i.rule) (flat_map (scenario_cases i) scenarios)
scenarios_are_in i scenarios = all_flat_map (IsIn i.rule) (scenario_cases i) (scenario_is_in i) scenarios

abbrev rules_of : List CaseValue → List (Option ℕ)
rules_of cs = map (λ (c : CaseValue). c.rule) cs

fall_from_less : (count least more : ℕ) (rules : List (Option ℕ)) → least ≤ more → FallFrom count more rules → FallFrom count least rules
fall_from_less count least more [] l falls = tt
fall_from_less count least more (rule ∷ rules) l falls = (omega (arith, l, falls.0), falls.1, falls.2)

-- Cases of one rule before others.
fall_on : (count least : ℕ) (rule : Option ℕ) (cs : List CaseValue) (rest : List (Option ℕ)) → AllByRecursion (IsIn rule) cs → least ≤ rank rule → rank rule ≤ count
    → FallFrom count (rank rule) rest → FallFrom count least (rules_of cs ++ rest)
fall_on count least rule [] rest all l within falls = fall_from_less count least (rank rule) rest l falls
fall_on count least rule (c ∷ cs) rest all l within falls = grind (arith, common_steps, fall_on count (rank rule) rule cs rest all.1 (omega arith) within falls)

rules_fall : (f : FeatureValue) (count n : ℕ) (rules : List RuleValue) → n + length rules ≤ count → FallFrom count n (rules_of (flat_map (rule_cases f) (enumerate_from n rules)))
rules_fall f count n [] within = tt
rules_fall f count n (r ∷ rules) within = grind (arith, common_steps, flat_map, map-append, fall_on, scenarios_are_in, rules_fall f count (n + 1) rules (omega (arith, within)))

pub cases_fall : (f : FeatureValue) → FallIntoRules (length f.rules) (rules_of (cases f))
unfolding cases
cases_fall f = grind (arith, common_steps, flat_map, map-append, fall_on, scenarios_are_in, rules_fall)
