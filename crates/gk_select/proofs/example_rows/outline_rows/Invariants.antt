use Rattle.gk_select.proofs.Common.{◌≡◌, ◌++◌, drop, flat_map, map, RuleValue, rule_value, feature_value, entry_value, outline_rows, rows_of_scenario}
use Rattle.gk_select.proofs.example_rows.outline_rows.Given as goal

abbrev pub invariant-loop-rule : goal.invariant-loop-rule
invariant-loop-rule l = map entry_value l.rows.items ++ flat_map (λ (r : RuleValue). flat_map rows_of_scenario r.scenarios) (map rule_value (drop l.rule-index l.feature.rules.items))
    ≡ outline_rows (feature_value l.feature)
