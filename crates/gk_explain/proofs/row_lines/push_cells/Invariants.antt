use Rattle.gk_explain.proofs.Common.{◌≡◌, ◌++◌, map, flat_map, drop, string_bytes, enumerate_from, cell_value, cell_text, cells_text}
use Rattle.gk_explain.proofs.row_lines.push_cells.Given as goal

abbrev pub invariant-loop-index : goal.invariant-loop-index
invariant-loop-index l = string_bytes l.out ++ flat_map cell_text (enumerate_from l.index (map cell_value (drop l.index l.cells))) ≡ string_bytes l.initial.out ++ cells_text (map cell_value l.cells)
