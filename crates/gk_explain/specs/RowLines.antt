-- The row that a case comes from, and the line that names it.
use denote.Ref.{Bor}
use Rattle.std.specs.Prelude.{ℕ, zero, suc, List, [], ◌++◌, flat_map, codes, Option, Some, None, option_map, slice_get}
use Rattle.std.specs.Option.{option_flatten}
use Rattle.std.specs.Fmt.{decimal}
use Rattle.std.specs.List.{enumerate_from}
use Rattle.gk_select.specs.declared.example_rows.ExampleRow.{ExampleRow}
use Rattle.gk_select.specs.ExampleRows.{ExampleRowValue, example_row_value}
use Rattle.gk_report.specs.ReportTexts.{line_feed}
use Rattle.gk_explain.specs.Shown.{escaped}

-- The row at the index of a case, if the case comes from one.
abbrev pub row_of : ℕ → List (Option ExampleRowValue) → Option ExampleRowValue
row_of index rows = option_flatten (slice_get rows index)

-- The text between the cell with this index and the text before it.
abbrev pub separator : ℕ → List ℕ
separator zero = codes ": "
separator (suc n) = codes ", "

-- The cell with an index, after its header.
abbrev pub cell_text : ℕ × (List ℕ × List ℕ) → List ℕ
cell_text c = separator c.0 ++ (escaped c.1.0 ++ (codes "=" ++ escaped c.1.1))

-- Cells, each after its header.
abbrev pub cells_text : List (List ℕ × List ℕ) → List ℕ
cells_text cells = flat_map cell_text (enumerate_from 0 cells)

-- The line that names a row: its number in its Examples, and its cells.
unfoldable pub row_line : ExampleRowValue → List ℕ
row_line row = codes "  row " ++ (decimal row.number ++ (cells_text row.cells ++ line_feed))

-- The line that names a row, if there is one.
abbrev pub named_row : Option ExampleRowValue → List ℕ
named_row None = []
named_row (Some row) = row_line row

-- Proof machinery: the value of a row, if there is one.
abbrev pub borrowed_row : Option (Bor ExampleRow) → Option ExampleRowValue
borrowed_row row = option_map (λ (r : Bor ExampleRow). example_row_value r.now) row
