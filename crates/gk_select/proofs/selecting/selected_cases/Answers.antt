use Rattle.gk_select.proofs.Common.{◌≡◌, ◌<◌, ◌++◌, ◌∙◌, ap, subst, ℕ, List, Bool, length, map, flat_map, arith, append-nil, common_steps, Scenario, RuleValue, rule_value, scenario_value, feature_value, scenario_selected, rules_selected}
use Rattle.gk_select.proofs.Selected.{all_selected, if_err, one_part, some_own}
use Rattle.gk_select.proofs.selecting.selected_cases.Goals as goal

pub loop-rule-init : goal.loop-rule-init
loop-rule-init c =
    let choice = c.args.choice.now in
    let f = feature_value c.args.feature.now in
    let own = map scenario_value c.deref-2.result.now in
    let inherited : c.lookup-tags.result ++ c.scanned-none.result ≡ f.tags = grind (arith, common_steps, append-nil) in
    ap (λ (bs : List Bool). bs ++ rules_selected choice f.tags f.rules) (
    c.in_ok-select_scenarios.ensures.chosen
    ∙ ap (λ (bs : List Bool). bs ++ flat_map (scenario_selected choice (c.lookup-tags.result ++ c.scanned-none.result)) own) c.new-selected.ensures.items
    ∙ ap (λ (tags : List (List ℕ)). flat_map (scenario_selected choice tags) own) inherited
    ∙ ap (λ (ss : List Scenario). flat_map (scenario_selected choice f.tags) (map scenario_value ss)) c.deref-2.ensures.value
    )
    ∙ all_selected choice f

pub loop-rule-preserved : goal.loop-rule-preserved
loop-rule-preserved c =
    let choice = c.args.choice.now in
    let f = feature_value c.args.feature.now in
    let r = rule_value c.rule-item.result in
    let items = c.deref-rule-items in
    let own = map scenario_value c.deref-in-loop-rule-2.result.now in
    let less : c.loop-rule.rule-index < length items.result.now = omega (arith, c.loop-rule.auto.rule-index-end, c.loop-rule-test.true) in
    let inherited : c.lookup-tags.result ++ c.lookup-own.result ≡ f.tags ++ r.tags = grind (arith, common_steps) in
    one_part (λ (r : RuleValue). flat_map (scenario_selected choice (f.tags ++ r.tags)) r.scenarios) rule_value items.result.now c.args.feature.now.rules.items
    c.loop-rule.rule-index c.rule-item.result items.ensures.value less c.rule-item.is c.loop-rule.selected.items c.select_scenarios-in-loop-rule.new.selected.items _
    (c.in_ok-select_scenarios-2.ensures.chosen
    ∙ ap (λ (tags : List (List ℕ)). c.loop-rule.selected.items ++ flat_map (scenario_selected choice tags) own) inherited
    ∙ ap (λ (ss : List Scenario). c.loop-rule.selected.items ++ flat_map (scenario_selected choice (f.tags ++ r.tags)) (map scenario_value ss)) c.deref-in-loop-rule-2.ensures.value) c.loop-rule.invariant

pub returns-in_err-select_scenarios-clause-memory : goal.returns-in_err-select_scenarios-clause-memory
returns-in_err-select_scenarios-clause-memory c =
    let choice = c.args.choice.now in
    let f = feature_value c.args.feature.now in
    let inherited : c.lookup-tags.result ++ c.scanned-none.result ≡ f.tags = grind (arith, common_steps, append-nil) in
    if_err c.from_residual.result (some_own choice f
    (subst (λ (ss : List Scenario). 0 < length (flat_map (scenario_selected choice f.tags) (map scenario_value ss))) c.deref-2.ensures.value
    (subst (λ (tags : List (List ℕ)). 0 < length (flat_map (scenario_selected choice tags) (map scenario_value c.deref-2.result.now))) inherited c.in_err-select_scenarios.ensures.memory)))
