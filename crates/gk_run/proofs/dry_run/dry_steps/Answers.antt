use Rattle.gk_run.proofs.Common.{◌≡◌, ◌∷◌, [], ◌++◌, List, length, map, arith, ap, subst, ◌∙◌, Bool, ◌||◌, into_iter_items, map_push, StepValue, step_value, library_value, StepRow, step_row, row_of_step, common_steps}
use Rattle.gk_run.proofs.DryRunLemmas.{GoesDrySteps, dry_steps_first, dry_steps_on, dry_steps_last}
use Rattle.gk_run.proofs.Nothing.{nothing_in}
use Rattle.gk_run.proofs.dry_run.dry_steps.Goals as goal

pub loop-step-init : goal.loop-step-init
loop-step-init c = grind (arith, common_steps, dry_steps_first)

pub loop-step-preserved : goal.loop-step-preserved
loop-step-preserved c =
    let library = library_value c.args.library.now in
    let all = map step_value c.args.steps.list.items in
    let s = c.in-Some.ensures.steps in
    let f = ap length s.0 in
    let step = step_value c.in-Some.step in
    let left = map step_value (into_iter_items c.next.new.self) in
    let rows = map step_row c.loop-step.results.items in
    let mark = c.dry_step-mark.result in
    let refused = c.either-is_refused.ensures ∙ ap (λ (b : Bool). c.loop-step.is_refused || b) c.is_memory_mark.ensures in
    let more : map step_row c.push_reserved.new.self.items ≡ rows ++ row_of_step step mark ∷ [] =
    ap (map step_row) c.push_reserved.ensures.items ∙ map_push step_row c.loop-step.results.items c.row_of.result ∙ ap (λ (row : StepRow). rows ++ row ∷ []) c.row_of.ensures in
    let whole : GoesDrySteps library c.loop-step.is_refused (step ∷ left) rows all =
    subst (λ (xs : List StepValue). GoesDrySteps library c.loop-step.is_refused xs rows all) (ap (map step_value) s.0) c.loop-step.invariant.goes in
    record {
      goes = dry_steps_on library all c.loop-step.is_refused c.either-is_refused.result step left mark rows (map step_row c.push_reserved.new.self.items) c.dry_step-mark.ensures refused more whole;
      room = omega arith;
      counted = omega arith;
    }

pub returns : goal.returns
returns c = grind (arith, common_steps, nothing_in, dry_steps_last)
