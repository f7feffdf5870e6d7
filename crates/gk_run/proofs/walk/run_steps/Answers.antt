use Rattle.gk_run.proofs.Common.{◌≡◌, ◌∷◌, [], ◌++◌, List, length, map, arith, ap, sym, subst, ◌∙◌, refl, into_iter_items, map_push, StepValue, step_value, library_value, state_of, section_now, worse, StepRow, step_row, row_of_step}
use Rattle.gk_run.proofs.Nothing.{nothing_in}
use Rattle.gk_run.proofs.WalkLemmas.{StepsSoFar, at, steps_first, steps_last, steps_on}
use Rattle.gk_run.proofs.walk.run_steps.Goals as goal

pub loop-step-init : goal.loop-step-init
loop-step-init g c =
    let here : into_iter_items c.into_iter-step-iterator.result ≡ c.args.steps.list.items = c.into_iter-step-iterator.ensures.into_iter_gives.0 in
    let hears = g.O.Observer.hears in
    let library = library_value c.args.run.now.library.now in
    let before = c.args.before in
    let start = section_now c.args.sandbox.now c.args.cleanups.now in
    let first = c.args.observer.now in
    let steps = map step_value c.args.steps.list.items in
    record {
      goes = subst (λ (rows : List StepRow). StepsSoFar hears library before start steps before start (map step_value (into_iter_items c.into_iter-step-iterator.result)) rows first first) (sym (ap (map step_row) c.args.steps.empty))
          (subst (λ (left : List StepValue). StepsSoFar hears library before start steps before start left [] first first) (sym (ap (map step_value) here)) (steps_first hears library before start steps first));
      layers = record { layers = refl; starts = refl };
      room = let e : length c.args.steps.results.items ≡ 0 = ap length c.args.steps.empty in let f = ap length here in let v = c.args.steps.results.ok.0 in omega arith;
      counted = let l = c.into_iter-step-iterator.ensures.into_iter_gives.1 in let v = c.args.steps.list.ok.0 in let f = ap length here in omega arith;
    }

pub next_step-mark-requires : goal.next_step-mark-requires
next_step-mark-requires g c = record { in_layer = rw (ap length c.loop-step.invariant.layers.layers) c.requires.in_layer }

pub loop-step-preserved : goal.loop-step-preserved
loop-step-preserved g c =
    let hears = g.O.Observer.hears in
    let library = library_value c.args.run.now.library.now in
    let before = c.args.before in
    let start = section_now c.args.sandbox.now c.args.cleanups.now in
    let all = map step_value c.args.steps.list.items in
    let s = c.in-Some.ensures.steps in
    let f = ap length s.0 in
    let step = step_value c.in-Some.step in
    let left = map step_value (into_iter_items c.next.new.self) in
    let rows = map step_row c.loop-step.results.items in
    let now = state_of c.loop-step.sandbox.now in
    let new = state_of c.next_step-mark.new.sandbox.now in
    let cs = c.loop-step.cleanups in
    let ls = c.next_step-mark.new.cleanups in
    let mark = c.next_step-mark.result in
    let first = c.args.observer.now in
    let ends = c.worse-ending.ensures ∙ ap (worse c.loop-step.ending) c.ending_of.ensures in
    let more : map step_row c.push_reserved.new.self.items ≡ rows ++ row_of_step step mark ∷ [] =
    ap (map step_row) c.push_reserved.ensures.items ∙ map_push step_row c.loop-step.results.items c.row_of.result ∙ ap (λ (row : StepRow). rows ++ row ∷ []) c.row_of.ensures in
    let whole = subst (λ (xs : List StepValue). StepsSoFar hears library before start all c.loop-step.ending (at now cs) xs rows first c.loop-step.observer) (ap (map step_value) s.0) c.loop-step.invariant.goes in
    record {
      goes = steps_on hears library before start all c.loop-step.ending c.worse-ending.result now new cs ls step left mark rows (map step_row c.push_reserved.new.self.items) first c.loop-step.observer c.next_step-mark.new.observer c.next_step-mark.ensures.next c.next_step-mark.ensures.notified ends more whole;
      layers = record { layers = c.next_step-mark.ensures.layers.layers ∙ c.loop-step.invariant.layers.layers; starts = c.next_step-mark.ensures.layers.starts ∙ c.loop-step.invariant.layers.starts };
      room = omega arith;
      counted = omega arith;
    }

pub returns-clause-stepped : goal.returns-clause-stepped
returns-clause-stepped g c =
    let none : into_iter_items c.loop-step.step-iterator ≡ [] = nothing_in (into_iter_items c.loop-step.step-iterator) (c.loop-step.invariant.counted ∙ c.in-None.ensures.steps.0) in
    let all = steps_last g.O.Observer.hears (library_value c.args.run.now.library.now) c.args.before (section_now c.args.sandbox.now c.args.cleanups.now) (section_now c.loop-step.sandbox c.loop-step.cleanups) (map step_value c.args.steps.list.items) c.loop-step.ending
    (map step_value (into_iter_items c.loop-step.step-iterator)) (map step_row c.loop-step.results.items) c.args.observer.now c.loop-step.observer (ap (map step_value) none) c.loop-step.invariant.goes in
    record { goes = all.goes; rows = all.rows_are }
