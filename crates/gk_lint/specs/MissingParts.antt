-- Missing parts, without which something in a feature never runs: features without scenarios, scenarios without steps, outlines without rows.
use Rattle.std.specs.Prelude.{ℕ, Bool, ◌==◌, ◌&&◌, List, ◌++◌, length, flat_map}
use Rattle.std.specs.List.{list_all}
use Rattle.gk_gherkin.specs.Feature.{ExamplesValue, ScenarioValue}
use Rattle.gk_select.specs.Outline.{is_outline}
use Rattle.gk_lint.specs.declared.findings.FindingKind.TheVariants.{FeatureWithoutScenarios, ScenarioWithoutSteps, OutlineWithoutRows}
use Rattle.gk_lint.specs.Findings.{FindingValue, found_if}

-- Whether none of some Examples has a row.
abbrev pub have_no_rows : List ExamplesValue → Bool
have_no_rows examples = list_all (λ (e : ExamplesValue). length e.rows == 0) examples

-- The findings of a scenario: that it has no steps itself, and that it is an outline without rows.
unfoldable pub missing_in_scenario : ScenarioValue → List FindingValue
missing_in_scenario s = found_if (length s.steps == 0) s.line ScenarioWithoutSteps ++ found_if (is_outline s && have_no_rows s.examples) s.line OutlineWithoutRows

-- The findings of a feature with this line and these scenarios: that it has none, and the findings of each.
abbrev pub missing_parts : ℕ → List ScenarioValue → List FindingValue
missing_parts line scenarios = found_if (length scenarios == 0) line FeatureWithoutScenarios ++ flat_map missing_in_scenario scenarios
