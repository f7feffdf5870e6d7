use Rattle.gk_lint.proofs.Common.{◌≡◌, ◌+◌, ◌∷◌, drop, map, List, ap, common_steps, part_value, Part, step_value, step_hint, cleanup_hint, in_rows, in_examples}
use native.Mathlib.Omega.{arith}
use Rattle.gk_lint.proofs.FirstHints.{next_hints}
use Rattle.gk_lint.proofs.written_steps.look_up_examples.Goals as goal

pub loop-part-preserved : goal.loop-part-preserved
loop-part-preserved c =
    let i = c.loop-part.part-index in
    let parts = c.args.parts.now in
    let split : drop i parts ≡ c.part-item.result ∷ drop (i + 1) parts = grind (arith, common_steps) in
    let e = part_value c.part-item.result in
    let these = in_rows (step_value c.args.step.now) e.header e.rows in
    let later = in_examples (step_value c.args.step.now) (map part_value (drop (i + 1) parts)) in
    let steps = ap (λ (es : List Part). in_examples (step_value c.args.step.now) (map part_value es)) split in
    record {
      fit = grind (arith, common_steps);
      found = grind (arith, common_steps);
      used = grind (arith, common_steps);
      undefined = next_hints (step_hint c.args.hints.now) _ _ _ _ these later steps c.in_ok-look_up_rows.ensures.undefined c.loop-part.invariant.undefined;
      cleanup = next_hints (cleanup_hint c.args.hints.now) _ _ _ _ these later steps c.in_ok-look_up_rows.ensures.cleanup c.loop-part.invariant.cleanup;
    }
