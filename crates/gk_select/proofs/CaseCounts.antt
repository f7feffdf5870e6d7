-- The cases of features without outlines, and how many cases a feature has.
use Rattle.gk_select.proofs.Common.{◌≡◌, ℕ, ◌+◌, List, [], ◌∷◌, length, map, flat_map, refl, sym, ap, ◌∙◌, arith, common_steps, cases_Bool, length-append, sum_by-cons, AllByRecursion, sum_by, enumerate_from, ScenarioValue, RuleValue, FeatureValue, InheritedValue, inherited_in_feature, inherited_in_rule, plain_case, scenario_cases, rule_cases, cases, ArePlain, HasNoOutline, plain_cases, case_count_of, case_count}

plain_scenarios : (i : InheritedValue) (scenarios : List ScenarioValue) → ArePlain scenarios → flat_map (scenario_cases i) scenarios ≡ map (plain_case i) scenarios
plain_scenarios i [] plain = refl
plain_scenarios i (s ∷ scenarios) plain = rw (plain.0, plain_scenarios i scenarios plain.1) refl

plain_rules : (f : FeatureValue) (n : ℕ) (rules : List RuleValue) → AllByRecursion (λ (r : RuleValue). ArePlain r.scenarios) rules
    → flat_map (rule_cases f) (enumerate_from n rules) ≡ flat_map (λ (r : ℕ × RuleValue). map (plain_case (inherited_in_rule f r.0 r.1)) r.1.scenarios) (enumerate_from n rules)
plain_rules f n [] plain = refl
plain_rules f n (r ∷ rules) plain = rw (plain_scenarios (inherited_in_rule f n r) r.scenarios plain.0, plain_rules f (n + 1) rules plain.1) refl

pub without_outlines : (f : FeatureValue) → HasNoOutline f → cases f ≡ plain_cases f
unfolding cases
without_outlines f plain = rw (plain_scenarios (inherited_in_feature f) f.scenarios plain.0, plain_rules f 0 f.rules plain.1) refl

-- The length of a list that is made part by part.
length-flat_map : {A B : Type 0} (F : A → List B) (G : A → ℕ) → ((x : A) → length (F x) ≡ G x) → (xs : List A) → length (flat_map F xs) ≡ sum_by G xs
length-flat_map F G e [] = refl
length-flat_map F G e (x ∷ xs) = length-append (F x) (flat_map F xs) ∙ rw (e x, length-flat_map F G e xs) (sym (sum_by-cons G x xs))

length-enumerate : {A B : Type 0} (F : ℕ × A → B) (n : ℕ) (xs : List A) → length (map F (enumerate_from n xs)) ≡ length xs
length-enumerate F n [] = refl
length-enumerate F n (x ∷ xs) = let ih = length-enumerate F (n + 1) xs in omega (arith, ih)

sum_enumerate : {A : Type 0} (G : A → ℕ) (n : ℕ) (xs : List A) → sum_by (λ (p : ℕ × A). G p.1) (enumerate_from n xs) ≡ sum_by G xs
sum_enumerate G n [] = refl
sum_enumerate {A} G n (x ∷ xs) = sum_by-cons (λ (p : ℕ × A). G p.1) (n, x) (enumerate_from (n + 1) xs) ∙ ap (λ (m : ℕ). G x + m) (sum_enumerate G (n + 1) xs) ∙ sym (sum_by-cons G x xs)

scenario_counted : (i : InheritedValue) (s : ScenarioValue) → length (scenario_cases i s) ≡ case_count_of s
scenario_counted i s = grind (arith, common_steps, cases_Bool, length-flat_map, length-enumerate, sum_enumerate)

abbrev rule_count : RuleValue → ℕ
rule_count r = sum_by case_count_of r.scenarios

rule_counted : (f : FeatureValue) (r : ℕ × RuleValue) → length (rule_cases f r) ≡ rule_count r.1
rule_counted f r = let inherited = inherited_in_rule f r.0 r.1 in length-flat_map (scenario_cases inherited) case_count_of (scenario_counted inherited) r.1.scenarios

pub cases_counted : (f : FeatureValue) → length (cases f) ≡ case_count f
unfolding cases
cases_counted f = grind (arith, common_steps, length-append, flat_map, length-flat_map, scenario_counted, rule_counted, sum_enumerate)
