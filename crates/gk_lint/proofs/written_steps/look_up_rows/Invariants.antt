use Rattle.gk_lint.proofs.Common.{◌≡◌, ◌++◌, map, drop, AllByRecursion, option_map, option_or, part_value, hint_value, step_value, row_value, FitsHeader, faults_in, positions_in, step_hint, cleanup_hint, first_hint, in_rows}
use Rattle.gk_lint.proofs.written_steps.look_up_rows.Given as goal

abbrev pub invariant-loop-row : goal.invariant-loop-row
invariant-loop-row l = record {
  fit : AllByRecursion (FitsHeader (part_value l.part)) (map row_value (drop l.row-index l.part.examples.now.rows.items));
  found : l.lookups.faults.items ++ faults_in l.hints l.site (in_rows (step_value l.step) (part_value l.part).header (map row_value (drop l.row-index l.part.examples.now.rows.items))) ≡ l.fn.lookups.faults.items ++ faults_in l.hints l.site (in_rows (step_value l.step) (part_value l.part).header (part_value l.part).rows);
  used : l.lookups.used.items ++ positions_in l.hints (in_rows (step_value l.step) (part_value l.part).header (map row_value (drop l.row-index l.part.examples.now.rows.items))) ≡ l.fn.lookups.used.items ++ positions_in l.hints (in_rows (step_value l.step) (part_value l.part).header (part_value l.part).rows);
  undefined : option_or (option_map hint_value l.lookups.undefined) (first_hint (step_hint l.hints) (in_rows (step_value l.step) (part_value l.part).header (map row_value (drop l.row-index l.part.examples.now.rows.items)))) ≡ option_or (option_map hint_value l.fn.lookups.undefined) (first_hint (step_hint l.hints) (in_rows (step_value l.step) (part_value l.part).header (part_value l.part).rows));
  cleanup : option_or (option_map hint_value l.lookups.cleanup) (first_hint (cleanup_hint l.hints) (in_rows (step_value l.step) (part_value l.part).header (map row_value (drop l.row-index l.part.examples.now.rows.items)))) ≡ option_or (option_map hint_value l.fn.lookups.cleanup) (first_hint (cleanup_hint l.hints) (in_rows (step_value l.step) (part_value l.part).header (part_value l.part).rows));
}
