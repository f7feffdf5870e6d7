use Rattle.gk_steps.proofs.Common.{◌≤◌, ◌+◌, IsPlainRow, IsAnyBefore, GoesOnBy}
use Rattle.gk_steps.proofs.table_rows.plain_field_row.Given as goal

abbrev pub invariant-loop-column : goal.invariant-loop-column
invariant-loop-column l = record { row : IsPlainRow l.column l.below l.row.items; any : IsAnyBefore l.below l.column l.any; most : l.cells.filled ≤ l.fn.cells.filled + l.column; least : l.fn.cells.filled ≤ l.cells.filled; filled : GoesOnBy l.column l.fn.cells.filled l.cells.filled }
