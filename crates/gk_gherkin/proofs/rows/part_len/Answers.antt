use Rattle.gk_gherkin.proofs.Common.{arith, common_steps}
use Rattle.gk_gherkin.proofs.RowParts.{at_bar, after_escape, no_mark, mark_within, to_mark, is_escape}
use Rattle.gk_gherkin.proofs.rows.part_len.Goals as goal

pub returns-then-text-place-eq124-clause-parts : goal.returns-then-text-place-eq124-clause-parts
returns-then-text-place-eq124-clause-parts c = grind (arith, common_steps, at_bar, mark_within, to_mark)

pub escapes-preserved : goal.escapes-preserved
escapes-preserved c = grind (arith, common_steps, after_escape, mark_within, is_escape, to_mark)

pub returns-clause-parts : goal.returns-clause-parts
returns-clause-parts c = no_mark c.args.text.now c.escapes.at c.escapes.invariant.0 c.escapes.invariant.1 (rw c.in_default.is at c.memchr2.ensures)
