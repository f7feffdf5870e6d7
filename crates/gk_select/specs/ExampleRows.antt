-- The rows of a feature's outlines, with the headers of their cells.
use Rattle.std.specs.Prelude.{◌≡◌, ℕ, List, [], ◌∷◌, ◌++◌, map, flat_map, zip, string_bytes, Option, Some, None, option_map, if◌then◌else◌, Vec, ⊤}
use Rattle.std.specs.List.{AllZip, enumerate_from}
use Rattle.gk_gherkin.specs.Feature.{RowValue, ExamplesValue, ScenarioValue, RuleValue, FeatureValue}
use Rattle.gk_select.specs.declared.example_rows.ExampleCell.{ExampleCell}
use Rattle.gk_select.specs.declared.example_rows.ExampleRow.{ExampleRow}
use Rattle.gk_select.specs.Case.{CaseValue}
use Rattle.gk_select.specs.Outline.{is_outline}
use Rattle.gk_select.specs.Expansion.{cases}

-- A row of Examples: its line, its number among their rows, counted from 1, and its cells, each after the header above it. (Cucumber's Gherkin reference: examples)
pub record ExampleRowValue : Type 0 where
  pub line : ℕ
  pub number : ℕ
  pub cells : List (List ℕ × List ℕ)

-- The row with a number under a header.
abbrev pub numbered_row : List (List ℕ) → ℕ × RowValue → ExampleRowValue
numbered_row header r = record { line = r.1.line; number = r.0; cells = zip header r.1.cells }

-- The rows of Examples, counted from 1. (Cucumber's Gherkin reference: examples)
abbrev pub rows_of_examples : ExamplesValue → List (Option ExampleRowValue)
rows_of_examples e = map (λ (r : ℕ × RowValue). Some (numbered_row e.header r)) (enumerate_from 1 e.rows)

-- The rows of a scenario's cases: those of an outline's Examples; the one case of any other scenario has no row. (Cucumber's Gherkin reference: scenario outline)
abbrev pub rows_of_scenario : ScenarioValue → List (Option ExampleRowValue)
rows_of_scenario s = if is_outline s then flat_map rows_of_examples s.examples else None ∷ []

-- The rows of a feature's cases, in file order: those of its scenarios, and then those of its rules. (Cucumber's Gherkin reference: scenario outline, rule)
unfoldable pub outline_rows : FeatureValue → List (Option ExampleRowValue)
outline_rows f = flat_map rows_of_scenario f.scenarios ++ flat_map (λ (r : RuleValue). flat_map rows_of_scenario r.scenarios) f.rules

-- A case comes from this row, on the same line, or from none.
abbrev pub IsRowOf : CaseValue → Option ExampleRowValue → Type 0
IsRowOf c None = ⊤
IsRowOf c (Some r) = r.line ≡ c.line

-- A feature has an entry for each of its cases, in their order: the row that the case comes from, if it comes from one. (Cucumber's Gherkin reference: scenario outline)
abbrev pub RowsAreAtCases : Type 0
RowsAreAtCases = (f : FeatureValue) → AllZip IsRowOf (cases f) (outline_rows f)

-- The value of an `ExampleCell`: the header, and the text of the cell.
abbrev pub cell_value : ExampleCell → List ℕ × List ℕ
cell_value c = (string_bytes c.header, string_bytes c.text)

-- The value of an `ExampleRow`.
abbrev pub example_row_value : ExampleRow → ExampleRowValue
example_row_value r = record { line = r.line; number = r.number; cells = map cell_value r.cells.items }

-- The value of the row of a case, if it comes from one.
abbrev pub entry_value : Option ExampleRow → Option ExampleRowValue
entry_value row = option_map example_row_value row

-- The values of the rows of several features.
abbrev pub row_lists : {Y : Type 0} → List (Vec (Option ExampleRow) Y) → List (List (Option ExampleRowValue))
row_lists lists = map (λ rows. map entry_value rows.items) lists
