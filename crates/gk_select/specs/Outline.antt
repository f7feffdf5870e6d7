-- Outlines, and the names of the cases of their rows.
use Rattle.std.specs.Prelude.{codes, ◌≡◌, ℕ, Bool, true, false, ◌||◌, List, [], ◌∷◌, ◌++◌, length, decimal}
use Rattle.std.specs.List.{AllByRecursion}
use Rattle.std.specs.Str.{bytes_eq}
use Rattle.gk_gherkin.specs.Text.{trim_back}
use Rattle.gk_gherkin.specs.Feature.{RowValue, ExamplesValue, ScenarioValue}

-- Whether there are Examples. (Cucumber's Gherkin reference: examples)
abbrev pub has_examples : List ExamplesValue → Bool
has_examples [] = false
has_examples (e ∷ es) = true

-- Whether a scenario is an outline: by its keyword, or because it has Examples. (Cucumber's Gherkin reference: scenario outline)
abbrev pub is_outline : ScenarioValue → Bool
is_outline s = bytes_eq s.keyword (codes "Scenario Outline") || (bytes_eq s.keyword (codes "Scenario Template") || has_examples s.examples)

-- The name of the case of row R under Examples E of an outline: `NAME -- @E.R EXAMPLESNAME`, without trailing spaces and tabs. NAME is filled and EXAMPLESNAME is not. (behave's documentation: the option `scenario_outline_annotation_schema`; what is trimmed and filled is this project's profile)
abbrev pub outline_name : List ℕ → ℕ → ℕ → List ℕ → List ℕ
outline_name name e r examples = trim_back (name ++ codes " -- @" ++ decimal e ++ codes "." ++ decimal r ++ codes " " ++ examples)

-- A row has as many cells as the header.
abbrev pub FitsHeader : ExamplesValue → RowValue → Type 0
FitsHeader e r = length r.cells ≡ length e.header

-- Each row of Examples has as many cells as the header.
abbrev pub AllFit : ExamplesValue → Type 0
AllFit e = AllByRecursion (FitsHeader e) e.rows
