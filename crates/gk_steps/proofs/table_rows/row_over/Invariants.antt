use Rattle.gk_steps.proofs.Common.{◌≤◌, ◌+◌, List, ◌∷◌, PieceValue, piece_value, IsRow, IsRowTo, GoesOnBy}
use Rattle.gk_steps.proofs.table_rows.row_over.Given as goal

abbrev pub invariant-loop-column : goal.invariant-loop-column
invariant-loop-column l = record { row : (ps : List PieceValue) → IsRow ps l.text l.boundaries l.below → IsRowTo l.column (piece_value l.piece ∷ ps) l.text l.boundaries l.row.items; most : l.cells.filled ≤ l.fn.cells.filled + l.column; least : l.fn.cells.filled ≤ l.cells.filled; filled : GoesOnBy l.column l.fn.cells.filled l.cells.filled }
