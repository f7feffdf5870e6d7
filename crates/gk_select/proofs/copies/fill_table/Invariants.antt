use Rattle.gk_select.proofs.Common.{◌≡◌, map, take, texts, filled}
use Rattle.gk_select.proofs.copies.fill_table.Given as goal

abbrev pub invariant-loop-cells : goal.invariant-loop-cells
invariant-loop-cells l = map (λ cells. texts cells.items) l.filled.items ≡ map (map (filled l.columns (texts l.row))) (map (λ cells. texts cells.items) (take l.cells-index l.from))
