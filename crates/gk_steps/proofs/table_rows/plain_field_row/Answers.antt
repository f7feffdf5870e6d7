use Rattle.gk_steps.proofs.Common.{arith, common_steps}
use Rattle.gk_steps.proofs.TableRowLemmas.{any_new, any_kept, plain_more}
use Rattle.gk_steps.proofs.FilledCellsLemmas.{one_more}
use Rattle.gk_steps.proofs.table_rows.plain_field_row.Goals as goal
use Rattle.gk_steps.proofs.table_rows.plain_field_row.Goals.{then-any, else-any}

pub loop-column-preserved : goal.loop-column-preserved
loop-column-preserved c = grind (arith, common_steps, plain_more, then-any, any_kept, else-any, any_new, one_more)
