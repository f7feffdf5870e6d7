-- Lines of cases, and the lines of `--line` that have no case.
use Rattle.std.specs.Prelude.{not, ℕ, List, [], ◌∷◌, map, filter, flat_map, if◌then◌else◌}
use Rattle.gk_gherkin.specs.Feature.{RowValue, ExamplesValue, ScenarioValue, FeatureValue}
use Rattle.gk_select.specs.Outline.{is_outline}
use Rattle.gk_lint.specs.ScenarioNames.{scenarios_of}
use Rattle.gk_lint.specs.NumberSets.{is_among}

-- The lines of the rows of Examples. (Cucumber's Gherkin reference: examples)
abbrev pub lines_of_rows : List RowValue → List ℕ
lines_of_rows rows = map (λ (r : RowValue). r.line) rows

-- The lines of the rows of some Examples.
abbrev pub lines_of_examples : List ExamplesValue → List ℕ
lines_of_examples examples = flat_map (λ (e : ExamplesValue). lines_of_rows e.rows) examples

-- The lines of the cases of a scenario: those of the rows of an outline, and otherwise that of the heading. (Cucumber's Gherkin reference: scenario outline)
abbrev pub lines_of_scenario : ScenarioValue → List ℕ
lines_of_scenario s = if is_outline s then lines_of_examples s.examples else s.line ∷ []

-- The lines of the cases of scenarios.
abbrev pub lines_of_scenarios : List ScenarioValue → List ℕ
lines_of_scenarios scenarios = flat_map lines_of_scenario scenarios

-- The lines of the cases of a feature: those of the feature's scenarios, and then those of its rules' scenarios.
abbrev pub lines_of_feature : FeatureValue → List ℕ
lines_of_feature f = lines_of_scenarios (scenarios_of f)

-- The lines of the cases of features.
abbrev pub lines_of_features : List FeatureValue → List ℕ
lines_of_features features = flat_map lines_of_feature features

-- The lines at which these features have no case, in their order.
abbrev pub without_scenario : List FeatureValue → List ℕ → List ℕ
without_scenario features lines = filter (λ line. not (is_among (lines_of_features features) line)) lines
