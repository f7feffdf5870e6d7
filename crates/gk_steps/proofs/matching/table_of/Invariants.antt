use Rattle.gk_steps.proofs.Common.{◌≤◌, ◌+◌, ◌*◌, length, map, piece_value, IsTable, GoesOnBy}
use Rattle.gk_steps.proofs.matching.table_of.Given as goal

abbrev pub invariant-loop-below : goal.invariant-loop-below
invariant-loop-below l = record { table : IsTable (l.below + 1) (map piece_value l.pieces) l.text l.boundaries l.rows.items; most : l.cells.filled ≤ l.fn.cells.filled + (l.below + 1) * length l.boundaries; least : l.fn.cells.filled ≤ l.cells.filled; filled : GoesOnBy ((l.below + 1) * length l.boundaries) l.fn.cells.filled l.cells.filled }
