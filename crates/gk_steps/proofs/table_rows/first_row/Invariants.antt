use Rattle.gk_steps.proofs.Common.{◌≤◌, ◌+◌, ℕ, List, [], AreBoundaries, IsRowTo, GoesOnBy}
use Rattle.gk_steps.proofs.table_rows.first_row.Given as goal

abbrev pub invariant-loop-column : goal.invariant-loop-column
invariant-loop-column l = record { row : (text : List ℕ) → AreBoundaries text l.boundaries → IsRowTo l.column [] text l.boundaries l.row.items; most : l.cells.filled ≤ l.fn.cells.filled + l.column; least : l.fn.cells.filled ≤ l.cells.filled; filled : GoesOnBy l.column l.fn.cells.filled l.cells.filled }
