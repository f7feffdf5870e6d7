use Rattle.gk_lint.proofs.Common.{◌≡◌, ◌++◌, map, drop, AllByRecursion, option_map, option_or, part_value, hint_value, step_value, AllFit, faults_in, positions_in, step_hint, cleanup_hint, first_hint, in_examples}
use Rattle.gk_lint.proofs.written_steps.look_up_examples.Given as goal

abbrev pub invariant-loop-part : goal.invariant-loop-part
invariant-loop-part l = record {
  fit : AllByRecursion AllFit (map part_value (drop l.part-index l.parts));
  found : l.lookups.faults.items ++ faults_in l.hints l.site (in_examples (step_value l.step) (map part_value (drop l.part-index l.parts))) ≡ l.fn.lookups.faults.items ++ faults_in l.hints l.site (in_examples (step_value l.step) (map part_value l.parts));
  used : l.lookups.used.items ++ positions_in l.hints (in_examples (step_value l.step) (map part_value (drop l.part-index l.parts))) ≡ l.fn.lookups.used.items ++ positions_in l.hints (in_examples (step_value l.step) (map part_value l.parts));
  undefined : option_or (option_map hint_value l.lookups.undefined) (first_hint (step_hint l.hints) (in_examples (step_value l.step) (map part_value (drop l.part-index l.parts)))) ≡ option_or (option_map hint_value l.fn.lookups.undefined) (first_hint (step_hint l.hints) (in_examples (step_value l.step) (map part_value l.parts)));
  cleanup : option_or (option_map hint_value l.lookups.cleanup) (first_hint (cleanup_hint l.hints) (in_examples (step_value l.step) (map part_value (drop l.part-index l.parts)))) ≡ option_or (option_map hint_value l.fn.lookups.cleanup) (first_hint (cleanup_hint l.hints) (in_examples (step_value l.step) (map part_value l.parts)));
}
