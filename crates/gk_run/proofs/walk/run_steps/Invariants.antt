use Rattle.gk_run.proofs.Common.{◌≡◌, ◌+◌, ◌≤◌, map, length, vec_len, vec_capacity, into_iter_items, into_iter_len, step_value, library_value, KeepsLayers, section_now, step_row}
use Rattle.gk_run.proofs.WalkLemmas.{StepsSoFar}
use Rattle.gk_run.proofs.walk.run_steps.Given as goal

-- the events so far, and that the rows so far are those of them
abbrev pub invariant-loop-step : goal.invariant-loop-step
invariant-loop-step g l = record {
  goes : StepsSoFar g.O.Observer.hears (library_value l.run.library.now) l.fn.before (section_now l.fn.sandbox l.fn.cleanups) (map step_value l.fn.steps.list.items) l.ending (section_now l.sandbox l.cleanups) (map step_value (into_iter_items l.step-iterator)) (map step_row l.results.items) l.fn.observer l.observer;
  layers : KeepsLayers l.fn.sandbox l.sandbox;
  room : vec_len l.results + length (into_iter_items l.step-iterator) ≤ vec_capacity l.results;
  counted : length (into_iter_items l.step-iterator) ≡ into_iter_len l.step-iterator;
}
