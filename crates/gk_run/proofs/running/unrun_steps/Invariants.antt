use Rattle.gk_run.proofs.Common.{◌≡◌, ◌+◌, ◌≤◌, ◌++◌, map, length, vec_len, vec_capacity, into_iter_items, into_iter_len, StepValue, step_value, step_row, row_of_step}
use Rattle.gk_run.proofs.running.unrun_steps.Given as goal

-- the rows so far and those of the steps that are left are those of all
abbrev pub invariant-loop-step : goal.invariant-loop-step
invariant-loop-step l = record {
  rows : map step_row l.results.items ++ map (λ (s : StepValue). row_of_step s l.mark) (map step_value (into_iter_items l.step-iterator)) ≡ map (λ (s : StepValue). row_of_step s l.mark) (map step_value l.fn.steps.list.items);
  room : vec_len l.results + length (into_iter_items l.step-iterator) ≤ vec_capacity l.results;
  counted : length (into_iter_items l.step-iterator) ≡ into_iter_len l.step-iterator;
}
