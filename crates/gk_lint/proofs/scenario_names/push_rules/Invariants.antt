use Rattle.gk_lint.proofs.Common.{◌≡◌, ◌++◌, map, drop, scenario_value, rule_value, scenarios_of_rules}
use Rattle.gk_lint.proofs.scenario_names.push_rules.Given as goal

abbrev pub invariant-loop-rule : goal.invariant-loop-rule
invariant-loop-rule l = map (λ s. scenario_value s.now) l.all.items ++ scenarios_of_rules (map rule_value (drop l.rule-index l.rules)) ≡ map (λ s. scenario_value s.now) l.fn.all.items ++ scenarios_of_rules (map rule_value l.rules)
