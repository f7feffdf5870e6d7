use Rattle.gk_run.proofs.Common.{◌+◌, ◌∙◌, List, [], cond, drop, map, refl, subst, sym, arith, StepValue, step_value, library_value, state_of, section_now, Ending, has_passed, walk, Goes, common_steps}
use Rattle.gk_run.specs.declared.ending.Ending.TheVariants as endings
use Rattle.gk_run.proofs.GoesLemmas.{begin, nothing_after, passing}
use Rattle.gk_run.proofs.WalkLemmas.{at, drop_next, drop_none, walk_on}
use Rattle.gk_run.proofs.walk.walk_hook.Goals as goal

pub loop-step-init : goal.loop-step-init
loop-step-init g c = record { goes = begin g.O.Observer.hears endings.Passed _ _ _; layers = record { layers = refl; starts = refl } }

pub loop-step-preserved : goal.loop-step-preserved
loop-step-preserved g c =
    let hears = g.O.Observer.hears in
    let library = library_value c.args.run.now.library.now in
    let place = c.args.stage in
    let steps = c.args.steps.now in
    let i = c.loop-step.step-index in
    let step = c.step-item.result in
    let left = map step_value (drop (i + 1) steps) in
    let s = state_of c.loop-step.sandbox.now in
    let cs = c.loop-step.cleanups in
    let m = c.run_step.result in
    let new = state_of c.run_step.new.sandbox.now in
    let new_cleanups = c.run_step.new.cleanups in
    let all = walk library place (state_of c.args.sandbox.now.now) (map step_value steps) in
    let start = section_now c.args.sandbox.now c.args.cleanups.now in
    let first = c.args.observer.now in
    let last = c.run_step.new.observer in
    let is = drop_next step_value steps i step c.loop-step-test.true c.step-item.is in
    let goes = passing (walk library place s (map step_value (drop i steps))) c.loop-step.ending (sym c.has_passed.ensures ∙ c.if-not-has_passed.false) c.loop-step.invariant.goes in
    let here = subst (λ (xs : List StepValue). Goes hears endings.Passed all (walk library place s xs) start (at s cs) endings.Passed first c.loop-step.observer) is goes in
    let gone = walk_on hears library place (step_value step) left s new cs new_cleanups m all start first c.loop-step.observer last here c.run_step.ensures.ran (last, c.run_step.ensures.notified, refl) in
    record {
      goes = subst (λ (e : Ending). Goes hears endings.Passed all (cond (has_passed e) (walk library place new left) []) start (at new new_cleanups) e first last) (sym c.ending_of-ending.ensures) gone;
      layers = record { layers = c.run_step.ensures.layers.layers ∙ c.loop-step.invariant.layers.layers; starts = c.run_step.ensures.layers.starts ∙ c.loop-step.invariant.layers.starts };
    }

pub returns-then-not-has_passed-clause-walked : goal.returns-then-not-has_passed-clause-walked
returns-then-not-has_passed-clause-walked g c = grind (arith, common_steps)

pub returns-clause-walked : goal.returns-clause-walked
returns-clause-walked g c = grind (arith, common_steps, nothing_after, drop_none)
