use Rattle.gk_steps.proofs.Common.{length, arith, common_steps}
use Rattle.gk_steps.proofs.LibraryLineLemmas.{arrow_end, none_at, some_at, arrow_boundary, arrow_after, sides_from, whole_rest}
use Rattle.gk_steps.proofs.library_line.last_arrow.Goals as goal

pub loop-position-init : goal.loop-position-init
loop-position-init c = (omega arith, arrow_end c.as_bytes-bytes.result.now (length c.as_bytes-bytes.result.now) (omega arith))

pub range-requires-clause-end_boundary : goal.range-requires-clause-end_boundary
range-requires-clause-end_boundary c = grind (arith, common_steps, whole_rest, arrow_boundary)

pub range_from-requires : goal.range_from-requires
range_from-requires c = grind (arith, common_steps, whole_rest, arrow_after)

pub returns-then-is_arrow : goal.returns-then-is_arrow
returns-then-is_arrow c = grind (arith, common_steps, whole_rest, some_at, sides_from)

pub loop-position-preserved : goal.loop-position-preserved
loop-position-preserved c = grind (arith, common_steps, whole_rest, none_at)
