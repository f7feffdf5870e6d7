use Rattle.gk_select.proofs.Common.{◌≡◌, ◌++◌, drop, map, zip, texts, cell_value}
use Rattle.gk_select.proofs.example_rows.cells_under.Given as goal

abbrev pub invariant-loop-i : goal.invariant-loop-i
invariant-loop-i l = map cell_value l.copies.items ++ zip (drop l.i (texts l.header)) (drop l.i (texts l.cells)) ≡ zip (texts l.header) (texts l.cells)
