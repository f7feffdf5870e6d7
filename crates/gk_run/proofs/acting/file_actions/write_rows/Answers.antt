use Rattle.gk_run.proofs.ActingLemmas.{row_passed, row_ended, rows_end}
use Rattle.gk_run.proofs.acting.file_actions.write_rows.Goals as goal

pub rows-preserved : goal.rows-preserved
rows-preserved c o new h = c.rows.invariant o new
    (row_passed c.args.rows.now c.rows.row-index c.row-item.result _ c.rows.sandbox _ new _ o c.rows-test.true c.row-item.is c.deref.ensures.value c.in-Passed.is c.write_row-written.ensures.acted c.write_row-written.ensures.written h)

pub returns-in_default : goal.returns-in_default
returns-in_default c = c.rows.invariant c.write_row-written.result c.write_row-written.new.sandbox
    (row_ended c.args.rows.now c.rows.row-index c.row-item.result _ c.rows.sandbox _ _ c.rows-test.true c.row-item.is c.deref.ensures.value c.in_default.not-Passed c.write_row-written.ensures.acted)

pub returns : goal.returns
returns c = c.rows.invariant _ c.rows.sandbox (rows_end c.args.rows.now c.rows.row-index c.rows.sandbox c.rows-test.false)
