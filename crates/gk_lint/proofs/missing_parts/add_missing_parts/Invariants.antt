use Rattle.gk_lint.proofs.Common.{◌≡◌, ◌++◌, map, flat_map, drop, scenario_value, finding_values, missing_in_scenario, missing_parts}
use Rattle.gk_lint.proofs.missing_parts.add_missing_parts.Given as goal

abbrev pub invariant-loop-scenario : goal.invariant-loop-scenario
invariant-loop-scenario l = finding_values l.findings.items ++ flat_map missing_in_scenario (map (λ s. scenario_value s.now) (drop l.scenario-index l.scenarios)) ≡ finding_values l.fn.findings.items ++ missing_parts l.line (map (λ s. scenario_value s.now) l.scenarios)
