-- The cases of a feature without its tags.
use Rattle.gk_select.proofs.Common.{◌≡◌, ℕ, ◌+◌, List, [], ◌∷◌, length, map, flat_map, refl, sym, ap, ◌∙◌, arith, common_steps, cases_Bool, map-append, length-map, AllByRecursion, sum_by, enumerate_from, RowValue, ExamplesValue, ScenarioValue, RuleValue, FeatureValue, CaseValue, InheritedValue, inherited_in_feature, inherited_in_rule, row_case, examples_cases, scenario_cases, rule_cases, cases, RowsFit, with_own_tags, untagged_rule, HasSameCasesUntagged}
use Rattle.gk_select.specs.OwnTags.{untagged}

abbrev untagged_part : InheritedValue → InheritedValue
untagged_part i = record { rule = i.rule; tags = []; steps = i.steps }

rows_kept : (i : InheritedValue) (s : ScenarioValue) (k : ℕ) (e : ExamplesValue) (n : ℕ) (rows : List RowValue) →
    map (λ (r : ℕ × RowValue). row_case (untagged_part i) s k e r.0 r.1) (enumerate_from n rows) ≡ map with_own_tags (map (λ (r : ℕ × RowValue). row_case i s k e r.0 r.1) (enumerate_from n rows))
rows_kept i s k e n [] = refl
rows_kept i s k e n (row ∷ rows) = ap (λ (cs : List CaseValue). row_case (untagged_part i) s k e n row ∷ cs) (rows_kept i s k e (n + 1) rows)

examples_kept : (i : InheritedValue) (s : ScenarioValue) (k : ℕ) (es : List ExamplesValue) →
    flat_map (examples_cases (untagged_part i) s) (enumerate_from k es) ≡ map with_own_tags (flat_map (examples_cases i s) (enumerate_from k es))
examples_kept i s k [] = refl
examples_kept i s k (e ∷ es) =
    rw (rows_kept i s k e 1 e.rows, examples_kept i s (k + 1) es) refl
    ∙ sym (map-append with_own_tags (examples_cases i s (k, e)) (flat_map (examples_cases i s) (enumerate_from (k + 1) es)))

scenario_kept : (i : InheritedValue) (s : ScenarioValue) → scenario_cases (untagged_part i) s ≡ map with_own_tags (scenario_cases i s)
scenario_kept i s = grind (arith, common_steps, cases_Bool, examples_kept)

scenarios_kept : (i : InheritedValue) (ss : List ScenarioValue) → flat_map (scenario_cases (untagged_part i)) ss ≡ map with_own_tags (flat_map (scenario_cases i) ss)
scenarios_kept i [] = refl
scenarios_kept i (s ∷ ss) = rw (scenario_kept i s, scenarios_kept i ss) refl ∙ sym (map-append with_own_tags (scenario_cases i s) (flat_map (scenario_cases i) ss))

rules_kept : (f : FeatureValue) (n : ℕ) (rules : List RuleValue) →
    flat_map (rule_cases (untagged f)) (enumerate_from n (map untagged_rule rules)) ≡ map with_own_tags (flat_map (rule_cases f) (enumerate_from n rules))
rules_kept f n [] = refl
rules_kept f n (r ∷ rules) =
    rw (scenarios_kept (inherited_in_rule f n r) r.scenarios, rules_kept f (n + 1) rules) refl
    ∙ sym (map-append with_own_tags (rule_cases f (n, r)) (flat_map (rule_cases f) (enumerate_from (n + 1) rules)))

cases_kept : (f : FeatureValue) → cases (untagged f) ≡ map with_own_tags (cases f)
unfolding cases
cases_kept f =
    rw (scenarios_kept (inherited_in_feature f) f.scenarios, rules_kept f 0 f.rules) refl
    ∙ sym (map-append with_own_tags (flat_map (scenario_cases (inherited_in_feature f)) f.scenarios) (flat_map (rule_cases f) (enumerate_from 0 f.rules)))

abbrev steps_in : List CaseValue → ℕ
steps_in cs = sum_by (λ (c : CaseValue). length c.steps) cs

steps_kept : (cs : List CaseValue) → steps_in (map with_own_tags cs) ≡ steps_in cs
steps_kept [] = refl
steps_kept (c ∷ cs) = grind (arith, common_steps)

rows_fit : (rules : List RuleValue) → AllByRecursion (λ (r : RuleValue). RowsFit r.scenarios) rules → AllByRecursion (λ (r : RuleValue). RowsFit r.scenarios) (map untagged_rule rules)
rows_fit [] fit = tt
rows_fit (r ∷ rules) fit = (fit.0, rows_fit rules fit.1)

pub same_untagged : (f : FeatureValue) → HasSameCasesUntagged f
same_untagged f = grind (arith, common_steps, cases_kept, steps_kept, rows_fit, length-map)
