use Rattle.gk_lint.proofs.Common.{◌≡◌, ◌++◌, map, drop, step_value, all_written, runs_value, finding_values, found_in, used_in}
use Rattle.gk_lint.proofs.written_steps.add_steps.Given as goal

abbrev pub invariant-loop-step : goal.invariant-loop-step
invariant-loop-step l = record {
  found : finding_values l.found.findings.items ++ found_in l.hints (all_written l.site (runs_value l.runs) (map step_value (drop l.step-index l.steps))) ≡ finding_values l.fn.found.findings.items ++ found_in l.hints (all_written l.site (runs_value l.runs) (map step_value l.steps));
  used : l.found.used.items ++ used_in l.hints (all_written l.site (runs_value l.runs) (map step_value (drop l.step-index l.steps))) ≡ l.fn.found.used.items ++ used_in l.hints (all_written l.site (runs_value l.runs) (map step_value l.steps));
}
