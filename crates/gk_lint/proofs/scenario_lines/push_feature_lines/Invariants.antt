use Rattle.gk_lint.proofs.Common.{◌≡◌, ◌++◌, map, drop, scenario_value, feature_value, lines_of_feature, lines_of_scenarios}
use Rattle.gk_lint.proofs.scenario_lines.push_feature_lines.Given as goal

abbrev pub invariant-loop-scenario : goal.invariant-loop-scenario
invariant-loop-scenario l = l.lines.items ++ lines_of_scenarios (map (λ s. scenario_value s.now) (drop l.scenario-index l.scenario-items)) ≡ l.fn.lines.items ++ lines_of_feature (feature_value l.feature)
