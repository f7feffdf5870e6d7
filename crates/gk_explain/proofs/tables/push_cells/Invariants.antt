use Rattle.gk_explain.proofs.Common.{◌≡◌, ◌++◌, drop, string_bytes, texts, quoted_cells}
use Rattle.gk_explain.proofs.tables.push_cells.Given as goal

abbrev pub invariant-loop-cell : goal.invariant-loop-cell
invariant-loop-cell l = string_bytes l.out ++ quoted_cells (texts (drop l.cell-index l.cells)) ≡ string_bytes l.initial.out ++ quoted_cells (texts l.cells)
