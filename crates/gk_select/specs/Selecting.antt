-- Proof machinery: the choice among the cases of a feature, made without the cases.
use Rattle.std.specs.Prelude.{ℕ, Bool, List, [], ◌∷◌, ◌++◌, ◌&&◌, map, flat_map, if◌then◌else◌}
use Rattle.gk_gherkin.specs.Feature.{RowValue, ExamplesValue, ScenarioValue, RuleValue}
use Rattle.gk_select.specs.Choice.{ChoiceValue, all_hold, is_at_lines}
use Rattle.gk_select.specs.Outline.{is_outline}

-- Whether every tag rule of a choice holds for these tags.
abbrev pub rules_hold : ChoiceValue → List (List ℕ) → Bool
rules_hold choice tags = all_hold choice.rules tags

-- For each of these rows, whether its case is chosen. `hold`: whether the tag rules hold for its tags.
abbrev pub rows_selected : ChoiceValue → Bool → List RowValue → List Bool
rows_selected choice hold rows = map (λ (r : RowValue). hold && is_at_lines choice.lines r.line) rows

-- The same for the cases of Examples of a scenario with these tags, which inherits others.
abbrev pub examples_selected : ChoiceValue → List (List ℕ) → List (List ℕ) → ExamplesValue → List Bool
examples_selected choice inherited own e = rows_selected choice (rules_hold choice (inherited ++ own ++ e.tags)) e.rows

-- The same for the case of a plain scenario.
abbrev pub plain_selected : ChoiceValue → List (List ℕ) → ScenarioValue → Bool
plain_selected choice inherited s = rules_hold choice (inherited ++ s.tags) && is_at_lines choice.lines s.line

-- The same for the cases of a scenario.
abbrev pub scenario_selected : ChoiceValue → List (List ℕ) → ScenarioValue → List Bool
scenario_selected choice inherited s = if is_outline s then flat_map (examples_selected choice inherited s.tags) s.examples else plain_selected choice inherited s ∷ []

-- The same for the cases of rules of a feature with these tags.
abbrev pub rules_selected : ChoiceValue → List (List ℕ) → List RuleValue → List Bool
rules_selected choice tags rules = flat_map (λ (r : RuleValue). flat_map (scenario_selected choice (tags ++ r.tags)) r.scenarios) rules
