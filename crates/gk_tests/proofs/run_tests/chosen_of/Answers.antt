use Rattle.std.proofs.Common.{◌≡◌, ℕ, List, Option, map, length, ap, subst, sym, ◌∙◌}
use Rattle.std.proofs.lemmas.List.{length-map}
use Rattle.gk_gherkin.specs.Feature.{feature_value, rule_value}
use Rattle.gk_select.specs.declared.case.Case.{Case}
use Rattle.gk_select.specs.Case.{CaseValue}
use Rattle.gk_select.specs.Expansion.{cases}
use Rattle.gk_select.specs.RuleOrder.{FallIntoRules}
use Rattle.gk_tests.proofs.ChosenLemmas.{rules_said}
use Rattle.gk_tests.proofs.run_tests.chosen_of.Goals as goal

pub returns : goal.returns
returns c =
    let feature = feature_value c.args.feature in
    let cs = c.in_ok-cases.cases.items in
    let count : length feature.rules ≡ length c.in_ok-rules.rules.items = length-map c.args.feature.rules.items rule_value ∙ sym c.in_ok-rules.ensures in
    let rules : map (λ (x : CaseValue). x.rule) (cases feature) ≡ map (λ (x : Case). x.rule) cs = ap (map (λ (x : CaseValue). x.rule)) (sym c.in_ok-cases.ensures.ok) ∙ rules_said cs in
    record {
      paired = c.in_ok-selected.ensures ∙ ap length c.deref.ensures.value;
      falls = subst (λ (n : ℕ). FallIntoRules n (map (λ (x : Case). x.rule) cs)) count (subst (λ (rs : List (Option ℕ)). FallIntoRules (length feature.rules) rs) rules (c.cases_fall_into_rules.ensures feature));
    }
