use Rattle.gk_select.proofs.Common.{◌≡◌, ◌++◌, ◌+◌, drop, ℕ, Some, RowValue, map, enumerate_from, texts, row_value, examples_value, entry_value, numbered_row, rows_of_examples}
use Rattle.gk_select.proofs.example_rows.push_rows.Given as goal

abbrev pub invariant-loop-i : goal.invariant-loop-i
invariant-loop-i l = map entry_value l.rows.items ++ map (λ (r : ℕ × RowValue). Some (numbered_row (texts l.examples.header.items) r)) (enumerate_from (l.i + 1) (map row_value (drop l.i l.examples.rows.items)))
    ≡ map entry_value l.fn.rows.items ++ rows_of_examples (examples_value l.examples)
