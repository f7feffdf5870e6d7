use Rattle.gk_run.proofs.Common.{drop, SandboxValue, Outcome}
use Rattle.gk_run.proofs.ActingLemmas.{RowsActed}
use Rattle.gk_run.proofs.acting.file_actions.write_rows.Given as goal

-- Whatever the rows that are left come to, all rows come to.
abbrev pub invariant-rows : goal.invariant-rows
invariant-rows l = (o : Outcome) (new : SandboxValue) → RowsActed (drop l.row-index l.rows) l.sandbox o new → RowsActed l.rows l.fn.sandbox o new
