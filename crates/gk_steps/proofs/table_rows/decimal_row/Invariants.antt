use Rattle.gk_steps.proofs.Common.{◌≤◌, ◌+◌, ◌-◌, KnowsDigits, IsNumberRow, GoesOnBy}
use Rattle.gk_steps.proofs.table_rows.decimal_row.Given as goal

abbrev pub invariant-loop-column : goal.invariant-loop-column
invariant-loop-column l = record { row : IsNumberRow l.column l.text l.boundaries l.below l.row.items; digits : KnowsDigits l.text l.boundaries l.below (l.column - 1) l.digits; most : l.cells.filled ≤ l.fn.cells.filled + l.column; least : l.fn.cells.filled ≤ l.cells.filled; filled : GoesOnBy l.column l.fn.cells.filled l.cells.filled }
