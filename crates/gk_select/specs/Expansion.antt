-- The cases of a feature.
use Rattle.std.specs.Prelude.{◌≡◌, ◌<◌, ◌+◌, ◌^◌, ℕ, false, List, [], ◌∷◌, ◌++◌, length, map, flat_map, sum_by, if◌then◌else◌}
use Rattle.std.specs.List.{AllByRecursion, enumerate_from}
use Rattle.gk_gherkin.specs.declared.feature.Row.{Row}
use Rattle.gk_gherkin.specs.declared.feature.Examples.{Examples}
use Rattle.gk_gherkin.specs.declared.feature.Scenario.{Scenario}
use Rattle.gk_gherkin.specs.declared.feature.Rule.{Rule}
use Rattle.gk_gherkin.specs.declared.feature.Feature.{Feature}
use Rattle.gk_gherkin.specs.Feature.{texts, RowValue, ExamplesValue, ScenarioValue, RuleValue, FeatureValue, row_value, examples_value, scenario_value, rule_value, feature_value}
use Rattle.gk_select.specs.declared.inherited.Inherited.{Inherited}
use Rattle.gk_select.specs.declared.inherited.CaseTags.{CaseTags}
use Rattle.gk_select.specs.Case.{CaseValue}
use Rattle.gk_select.specs.Filling.{filled, filled_step}
use Rattle.gk_select.specs.Inherited.{InheritedValue, inherited_value, inherited_in_feature, inherited_in_rule, AreCaseTags}
use Rattle.gk_select.specs.Outline.{is_outline, outline_name, FitsHeader, AllFit}

-- The case of a row; its line is the row's. (Cucumber's Gherkin reference: examples)
abbrev pub row_case : InheritedValue → ScenarioValue → ℕ → ExamplesValue → ℕ → RowValue → CaseValue
row_case inherited s e examples r row = let fill = filled examples.header row.cells in record {
  name = outline_name (fill s.name) e r examples.name;
  keyword = s.keyword;
  line = row.line;
  rule = inherited.rule;
  tags = inherited.tags ++ s.tags ++ examples.tags;
  own_tags = s.tags ++ examples.tags;
  steps = inherited.steps ++ map (filled_step fill) s.steps;
}

-- The case of a plain scenario; its line is its heading's. (Cucumber's Gherkin reference: example)
abbrev pub plain_case : InheritedValue → ScenarioValue → CaseValue
plain_case inherited s = record {
  name = s.name;
  keyword = s.keyword;
  line = s.line;
  rule = inherited.rule;
  tags = inherited.tags ++ s.tags;
  own_tags = s.tags;
  steps = inherited.steps ++ s.steps;
}

-- The cases of rows, counted from n.
abbrev pub rows_cases : InheritedValue → ScenarioValue → ℕ → ExamplesValue → ℕ → List RowValue → List CaseValue
rows_cases inherited s e examples n rows = map (λ (r : ℕ × RowValue). row_case inherited s e examples r.0 r.1) (enumerate_from n rows)

-- The cases of Examples: one for each row, counted from 1. (Cucumber's Gherkin reference: examples)
abbrev pub examples_cases : InheritedValue → ScenarioValue → ℕ × ExamplesValue → List CaseValue
examples_cases inherited s e = rows_cases inherited s e.0 e.1 1 e.1.rows

-- The cases of a scenario: those of an outline's Examples, counted from 1; of any other scenario one. (Cucumber's Gherkin reference: scenario outline; an outline without rows has none by this project's profile)
abbrev pub scenario_cases : InheritedValue → ScenarioValue → List CaseValue
scenario_cases inherited s = if is_outline s then flat_map (examples_cases inherited s) (enumerate_from 1 s.examples) else plain_case inherited s ∷ []

-- The cases of the rule at an index. (Cucumber's Gherkin reference: rule)
abbrev pub rule_cases : FeatureValue → ℕ × RuleValue → List CaseValue
rule_cases f r = flat_map (scenario_cases (inherited_in_rule f r.0 r.1)) r.1.scenarios

-- The cases of a feature, in file order: those of its scenarios, and then those of its rules, whose indexes are counted from 0. (Cucumber's Gherkin reference: feature, rule)
unfoldable pub cases : FeatureValue → List CaseValue
cases f = flat_map (scenario_cases (inherited_in_feature f)) f.scenarios ++ flat_map (rule_cases f) (enumerate_from 0 f.rules)

-- The number of steps of all cases.
abbrev pub step_count : FeatureValue → ℕ
step_count f = sum_by (λ (c : CaseValue). length c.steps) (cases f)

-- The maximum number of steps that a feature may have after expansion.
abbrev pub step_limit : ℕ
step_limit = 1000000

-- The cases have more steps than the limit.
abbrev pub HasTooManySteps : FeatureValue → Type 0
HasTooManySteps f = step_limit < step_count f

-- A feature with a scenario or a rule. To expand any other feature, no memory is refused.
abbrev pub HasPart : FeatureValue → Type 0
HasPart f = 0 < length f.scenarios + length f.rules

-- Each row of Examples in these scenarios has as many cells as its header.
abbrev pub RowsFit : List ScenarioValue → Type 0
RowsFit scenarios = AllByRecursion (λ (s : ScenarioValue). AllByRecursion AllFit s.examples) scenarios

-- Each row of Examples in the feature has as many cells as its header, and there are fewer than 2^32 rules.
abbrev pub IsExpandable : FeatureValue → Type 0
IsExpandable f = RowsFit f.scenarios × AllByRecursion (λ (r : RuleValue). RowsFit r.scenarios) f.rules × (length f.rules < 2 ^ 32)

-- None of these scenarios is an outline. (Cucumber's Gherkin reference: scenario outline)
abbrev pub ArePlain : List ScenarioValue → Type 0
ArePlain scenarios = AllByRecursion (λ (s : ScenarioValue). is_outline s ≡ false) scenarios

-- A feature without outlines. (Cucumber's Gherkin reference: scenario outline)
abbrev pub HasNoOutline : FeatureValue → Type 0
HasNoOutline f = ArePlain f.scenarios × AllByRecursion (λ (r : RuleValue). ArePlain r.scenarios) f.rules

-- The cases of a feature without outlines: its scenarios, and then those of its rules, each with what it inherits. (Cucumber's Gherkin reference: example, rule)
abbrev pub plain_cases : FeatureValue → List CaseValue
plain_cases f = map (plain_case (inherited_in_feature f)) f.scenarios ++ flat_map (λ (r : ℕ × RuleValue). map (plain_case (inherited_in_rule f r.0 r.1)) r.1.scenarios) (enumerate_from 0 f.rules)

-- The number of cases of a scenario: an outline has one for each row under the headers of its tables, any other scenario has one. (Cucumber's Gherkin reference: scenario outline; an outline without rows has none by this project's profile)
abbrev pub case_count_of : ScenarioValue → ℕ
case_count_of s = if is_outline s then sum_by (λ (e : ExamplesValue). length e.rows) s.examples else 1

-- The number of cases of a feature. (Cucumber's Gherkin reference: scenario outline)
abbrev pub case_count : FeatureValue → ℕ
case_count f = sum_by case_count_of f.scenarios + sum_by (λ (r : RuleValue). sum_by case_count_of r.scenarios) f.rules

-- Proof machinery, from here on: the same for the values of the code.

-- The name of a row's case.
abbrev pub name_of_row : Scenario → ℕ → Examples → ℕ → Row → List ℕ
name_of_row s e examples n row = outline_name (filled (texts examples.header.items) (texts row.cells.items) (scenario_value s).name) e n (examples_value examples).name

-- These are the tags of the cases of Examples.
abbrev pub AreTagsOfRows : Inherited → Scenario → Examples → CaseTags → Type 0
AreTagsOfRows i s examples tags = AreCaseTags i ((scenario_value s).tags ++ (examples_value examples).tags) tags

-- The case of a row.
abbrev pub case_of_row : Inherited → Scenario → ℕ → Examples → ℕ → Row → CaseValue
case_of_row i s e examples n row = row_case (inherited_value i) (scenario_value s) e (examples_value examples) n (row_value row)

-- The cases of rows, counted from n.
abbrev pub cases_of_rows : Inherited → Scenario → ℕ → Examples → ℕ → List Row → List CaseValue
cases_of_rows i s e examples n rows = rows_cases (inherited_value i) (scenario_value s) e (examples_value examples) n (map row_value rows)

-- Each of these rows has as many cells as the header of the Examples.
abbrev pub RowsFitHeader : Examples → List Row → Type 0
RowsFitHeader examples rows = AllByRecursion (FitsHeader (examples_value examples)) (map row_value rows)

-- The cases of several Examples, counted from 1.
abbrev pub cases_of_parts : Inherited → Scenario → List Examples → List CaseValue
cases_of_parts i s parts = flat_map (examples_cases (inherited_value i) (scenario_value s)) (enumerate_from 1 (map examples_value parts))

-- The cases of scenarios.
abbrev pub cases_of_scenarios : Inherited → List Scenario → List CaseValue
cases_of_scenarios i scenarios = flat_map (scenario_cases (inherited_value i)) (map scenario_value scenarios)

-- The cases of rules, whose indexes are counted from n.
abbrev pub cases_of_rules : Feature → ℕ → List Rule → List CaseValue
cases_of_rules f n rules = flat_map (rule_cases (feature_value f)) (enumerate_from n (map rule_value rules))
