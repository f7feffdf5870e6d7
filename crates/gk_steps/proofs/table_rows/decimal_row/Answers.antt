use Rattle.gk_steps.proofs.Common.{◌≡◌, ◌+◌, ◌-◌, subst, arith, KnowsDigits}
use Rattle.gk_steps.proofs.TableRowLemmas.{number_more}
use Rattle.gk_steps.proofs.FilledCellsLemmas.{one_more}
use Rattle.gk_steps.proofs.table_rows.decimal_row.Goals as goal

pub loop-column-preserved : goal.loop-column-preserved
loop-column-preserved c =
    let at : c.loop-column.column ≡ c.loop-column.column + 1 - 1 = omega arith in
    record {
      row = number_more c.loop-column.column c.args.text.now c.args.boundaries.now c.args.below.now c.loop-column.row.items c.fill.new.row.items c.has_number.result c.in_ok-fill.ensures.items c.loop-column.invariant.row c.has_number.ensures;
      digits = subst (λ k. KnowsDigits c.args.text.now c.args.boundaries.now c.args.below.now k c.next-here.result) at c.next-here.ensures;
      most = omega (arith, c.loop-column.invariant.most, c.in_ok-fill.ensures.most);
      least = omega (arith, c.loop-column.invariant.least, c.in_ok-fill.ensures.least);
      filled = one_more c.args.cells.now.filled c.loop-column.cells.filled c.fill.new.self.filled c.loop-column.column c.loop-column.invariant.filled c.in_ok-fill.ensures.filled;
    }
