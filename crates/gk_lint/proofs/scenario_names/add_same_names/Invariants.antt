use Rattle.gk_lint.proofs.Common.{◌≡◌, ◌++◌, false, map, drop, scenario_value, in_set, finding_values, named_again}
use Rattle.gk_lint.proofs.scenario_names.add_same_names.Given as goal

abbrev pub invariant-loop-scenario : goal.invariant-loop-scenario
invariant-loop-scenario l = finding_values l.findings.items ++ named_again (in_set l.seen) (map (λ s. scenario_value s.now) (drop l.scenario-index l.scenarios)) ≡ finding_values l.fn.findings.items ++ named_again (λ name. false) (map (λ s. scenario_value s.now) l.scenarios)
