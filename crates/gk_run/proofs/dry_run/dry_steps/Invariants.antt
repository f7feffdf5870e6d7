use Rattle.gk_run.proofs.Common.{◌≡◌, ◌+◌, ◌≤◌, map, length, vec_len, vec_capacity, into_iter_items, into_iter_len, step_value, library_value, step_row}
use Rattle.gk_run.proofs.DryRunLemmas.{GoesDrySteps}
use Rattle.gk_run.proofs.dry_run.dry_steps.Given as goal

-- whatever the steps that are left come to, all come to, with these rows before theirs
abbrev pub invariant-loop-step : goal.invariant-loop-step
invariant-loop-step l = record {
  goes : GoesDrySteps (library_value l.library) l.is_refused (map step_value (into_iter_items l.step-iterator)) (map step_row l.results.items) (map step_value l.fn.steps.list.items);
  room : vec_len l.results + length (into_iter_items l.step-iterator) ≤ vec_capacity l.results;
  counted : length (into_iter_items l.step-iterator) ≡ into_iter_len l.step-iterator;
}
