use Rattle.gk_lint.proofs.Common.{◌≡◌, map, drop, examples_value}
use Rattle.gk_lint.specs.MissingParts as spec
use Rattle.gk_lint.proofs.missing_parts.have_no_rows.Given as goal

abbrev pub invariant-loop-part : goal.invariant-loop-part
invariant-loop-part l = spec.have_no_rows (map examples_value (drop l.part-index l.examples)) ≡ spec.have_no_rows (map examples_value l.examples)
