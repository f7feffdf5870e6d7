use Rattle.gk_lint.proofs.Common.{◌≡◌, ◌++◌, map, drop, scenario_value, of_scenarios, RowsFit, finding_values, found_in, used_in}
use Rattle.gk_lint.proofs.written_steps.add_scenarios.Given as goal

abbrev pub invariant-loop-scenario : goal.invariant-loop-scenario
invariant-loop-scenario l = record {
  fit : RowsFit (map (λ s. scenario_value s.now) (drop l.scenario-index l.scenarios));
  found : finding_values l.found.findings.items ++ found_in l.hints (of_scenarios (map (λ s. scenario_value s.now) (drop l.scenario-index l.scenarios))) ≡ finding_values l.fn.found.findings.items ++ found_in l.hints (of_scenarios (map (λ s. scenario_value s.now) l.scenarios));
  used : l.found.used.items ++ used_in l.hints (of_scenarios (map (λ s. scenario_value s.now) (drop l.scenario-index l.scenarios))) ≡ l.fn.found.used.items ++ used_in l.hints (of_scenarios (map (λ s. scenario_value s.now) l.scenarios));
}
