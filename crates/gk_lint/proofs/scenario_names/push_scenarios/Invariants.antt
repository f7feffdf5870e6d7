use Rattle.gk_lint.proofs.Common.{◌≡◌, ◌++◌, map, drop, scenario_value}
use Rattle.gk_lint.proofs.scenario_names.push_scenarios.Given as goal

abbrev pub invariant-loop-scenario : goal.invariant-loop-scenario
invariant-loop-scenario l = map (λ s. scenario_value s.now) l.all.items ++ map scenario_value (drop l.scenario-index l.scenarios) ≡ map (λ s. scenario_value s.now) l.fn.all.items ++ map scenario_value l.scenarios
