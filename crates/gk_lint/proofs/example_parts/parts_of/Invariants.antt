use Rattle.gk_lint.proofs.Common.{◌≡◌, ◌++◌, map, drop, examples_value, part_value}
use Rattle.gk_lint.proofs.example_parts.parts_of.Given as goal

abbrev pub invariant-loop-part : goal.invariant-loop-part
invariant-loop-part l = map part_value l.parts.items ++ map examples_value (drop l.part-index l.examples) ≡ map examples_value l.examples
