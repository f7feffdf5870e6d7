use Rattle.gk_select.proofs.Common.{◌≡◌, ◌++◌, drop, map, row_value, rows_selected}
use Rattle.gk_select.proofs.selecting.select_rows.Given as goal

abbrev pub invariant-loop-row : goal.invariant-loop-row
invariant-loop-row l = l.selected.items ++ rows_selected l.choice l.hold (map row_value (drop l.row-index l.rows))
    ≡ l.fn.selected.items ++ rows_selected l.choice l.hold (map row_value l.rows)
