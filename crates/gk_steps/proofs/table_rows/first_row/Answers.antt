use Rattle.gk_steps.proofs.Common.{◌≡◌, [], length, subst, arith, IsRowTo}
use Rattle.gk_steps.proofs.TableRowLemmas.{end_more}
use Rattle.gk_steps.proofs.FilledCellsLemmas.{one_more}
use Rattle.gk_steps.proofs.table_rows.first_row.Goals as goal

pub loop-column-preserved : goal.loop-column-preserved
loop-column-preserved c = record {
  row = λ text h. end_more text c.args.boundaries.now c.loop-column.column c.loop-column.row.items c.fill.new.row.items h c.loop-column-test.true c.in_ok-fill.ensures.items (c.loop-column.invariant.row text h);
  most = omega (arith, c.loop-column.invariant.most, c.in_ok-fill.ensures.most);
  least = omega (arith, c.loop-column.invariant.least, c.in_ok-fill.ensures.least);
  filled = one_more c.args.cells.now.filled c.loop-column.cells.filled c.fill.new.self.filled c.loop-column.column c.loop-column.invariant.filled c.in_ok-fill.ensures.filled;
}

pub returns-clause-row : goal.returns-clause-row
returns-clause-row c = λ text h. let end : c.loop-column.column ≡ length c.args.boundaries.now = omega arith in subst (λ k. IsRowTo k [] text c.args.boundaries.now c.loop-column.row.items) end (c.loop-column.invariant.row text h)
