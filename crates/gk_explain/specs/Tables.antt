-- Faults of a table of files and of its rows.
use Rattle.std.specs.Prelude.{ℕ, Bool, ◌||◌, List, [], ◌∷◌, ◌++◌, map, drop, flat_map, codes, unwrap_or}
use Rattle.std.specs.List.{find}
use Rattle.gk_gherkin.specs.Feature.{BlockValue, Table}
use Rattle.gk_world.specs.Refusals.{is_bad_name, is_too_long}
use Rattle.gk_run.specs.Acting.{row_file}
use Rattle.gk_report.specs.ReportTexts.{line_feed}
use Rattle.gk_explain.specs.declared.tables.RowFile.{RowFile}
use Rattle.gk_explain.specs.Shown.{shown}

-- A cell between quotes, after a space.
abbrev pub quoted : List ℕ → List ℕ
quoted cell = codes " \"" ++ (shown cell ++ codes "\"")

-- The cells of a row, each between quotes.
abbrev pub quoted_cells : List (List ℕ) → List ℕ
quoted_cells cells = flat_map quoted cells

-- The line with the header that was found.
unfoldable pub header_line : List (List ℕ) → List ℕ
header_line cells = codes "      found    the header" ++ (quoted_cells cells ++ line_feed)

-- The line with the header of rows, which is their first row.
abbrev pub found_header : List (List (List ℕ)) → List ℕ
found_header [] = codes "      found    no row\n"
found_header (header ∷ rows) = header_line header

-- The expected table of files, and the header of the one that was found. A table of a feature file has as many cells in each row as in its header.
abbrev pub other_table : BlockValue → List ℕ
other_table (Table rows) = codes "      expected the header \"name\" \"text\", and rows of two cells\n" ++ found_header rows
other_table block = []

-- Whether a file, a name and a text, can't be written.
abbrev pub is_refused : List ℕ × List ℕ → Bool
is_refused file = is_bad_name file.0 || is_too_long file.1

-- The first file of these rows that can't be written. If all can, it has no name and no text.
abbrev pub first_refused : List (List (List ℕ)) → List ℕ × List ℕ
first_refused rows = unwrap_or (find is_refused (map row_file rows)) ([], [])

-- The file at which writing the rows of a table ends. The first row of the table is the header.
abbrev pub refused_file : BlockValue → List ℕ × List ℕ
refused_file (Table rows) = first_refused (drop 1 rows)
refused_file block = ([], [])

-- Proof machinery: the value of a `RowFile`.
abbrev pub file_value : RowFile → List ℕ × List ℕ
file_value f = (f.name.now, f.text.now)
