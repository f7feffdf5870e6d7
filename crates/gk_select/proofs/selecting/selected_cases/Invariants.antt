use Rattle.gk_select.proofs.Common.{◌≡◌, ◌++◌, drop, map, rule_value, feature_value, chosen_by, cases, rules_selected}
use Rattle.gk_select.proofs.selecting.selected_cases.Given as goal

abbrev pub invariant-loop-rule : goal.invariant-loop-rule
invariant-loop-rule l = l.selected.items ++ rules_selected l.choice (feature_value l.feature).tags (map rule_value (drop l.rule-index l.feature.rules.items))
    ≡ map (chosen_by l.choice) (cases (feature_value l.feature))
