use Rattle.gk_lint.proofs.Common.{◌≡◌, ◌+◌, ◌∷◌, drop, map, List, ap, common_steps, part_value, Row, step_value, row_value, faults_of, positions_of, step_hint, cleanup_hint, in_rows}
use native.Mathlib.Omega.{arith}
use Rattle.gk_lint.proofs.FirstHints.{next_hint, next_results}
use Rattle.gk_lint.proofs.written_steps.look_up_rows.Goals as goal

pub loop-row-preserved : goal.loop-row-preserved
loop-row-preserved c =
    let i = c.loop-row.row-index in
    let rows = c.args.part.now.examples.now.rows.items in
    let split : drop i rows ≡ c.row-item.result ∷ drop (i + 1) rows = grind (arith, common_steps) in
    let steps = ap (λ (rs : List Row). in_rows (step_value c.args.step.now) (part_value c.args.part.now).header (map row_value rs)) split in
    record {
      fit = grind (arith, common_steps);
      found = next_results (faults_of c.args.hints.now c.args.site) _ _ _ _ _ _ steps (grind (arith, common_steps)) c.loop-row.invariant.found;
      used = next_results (positions_of c.args.hints.now) _ _ _ _ _ _ steps (grind (arith, common_steps)) c.loop-row.invariant.used;
      undefined = next_hint (step_hint c.args.hints.now) _ _ _ _ _ _ steps (grind (arith, common_steps)) c.loop-row.invariant.undefined;
      cleanup = next_hint (cleanup_hint c.args.hints.now) _ _ _ _ _ _ steps (grind (arith, common_steps)) c.loop-row.invariant.cleanup;
    }
