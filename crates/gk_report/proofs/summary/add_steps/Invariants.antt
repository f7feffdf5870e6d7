use Rattle.gk_report.proofs.Common.{◌≡◌, drop, map, fold, step_row, one_status_more}
use Rattle.gk_report.proofs.summary.add_steps.Given as goal

abbrev pub invariant-loop-step : goal.invariant-loop-step
invariant-loop-step l =
    fold one_status_more l.counts (map (λ s. s.status) (map step_row (drop l.step-index l.steps))) ≡ fold one_status_more l.initial.counts (map (λ s. s.status) (map step_row l.steps))
