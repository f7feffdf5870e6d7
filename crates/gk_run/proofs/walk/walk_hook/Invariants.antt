use Rattle.gk_run.proofs.Common.{[], cond, drop, map, step_value, library_value, state_of, KeepsLayers, section_now, has_passed, walk, Goes}
use Rattle.gk_run.specs.declared.ending.Ending.TheVariants as endings
use Rattle.gk_run.proofs.walk.walk_hook.Given as goal

-- if the steps so far passed, those that are left are to be walked through
abbrev pub invariant-loop-step : goal.invariant-loop-step
invariant-loop-step g l = record {
  goes : Goes g.O.Observer.hears endings.Passed (walk (library_value l.fn.run.library.now) l.fn.stage (state_of l.fn.sandbox.now) (map step_value l.fn.steps))
      (cond (has_passed l.ending) (walk (library_value l.fn.run.library.now) l.fn.stage (state_of l.sandbox.now) (map step_value (drop l.step-index l.fn.steps))) []) (section_now l.fn.sandbox l.fn.cleanups) (section_now l.sandbox l.cleanups) l.ending l.fn.observer l.observer;
  layers : KeepsLayers l.fn.sandbox l.sandbox;
}
