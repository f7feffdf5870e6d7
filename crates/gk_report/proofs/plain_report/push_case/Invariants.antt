use Rattle.gk_report.proofs.Common.{◌≡◌, ◌++◌, drop, map, string_bytes, flat_map, step_line, step_row}
use Rattle.gk_report.proofs.plain_report.push_case.Given as goal

abbrev pub invariant-loop-step : goal.invariant-loop-step
invariant-loop-step l = string_bytes l.out ++ flat_map step_line (map step_row (drop l.step-index l.case.steps.items)) ≡ string_bytes l.initial.out ++ flat_map step_line (map step_row l.case.steps.items)
