-- Scenarios of one feature that have the same name.
use Rattle.std.specs.Prelude.{ℕ, Bool, false, ◌||◌, List, [], ◌∷◌, ◌++◌, flat_map}
use Rattle.std.specs.Str.{bytes_eq}
use Rattle.gk_gherkin.specs.Feature.{ScenarioValue, RuleValue, FeatureValue}
use Rattle.gk_lint.specs.declared.findings.FindingKind.TheVariants.{NameTwice}
use Rattle.gk_lint.specs.Findings.{FindingValue, found_if}

-- The scenarios of rules, one rule after the other.
abbrev pub scenarios_of_rules : List RuleValue → List ScenarioValue
scenarios_of_rules rules = flat_map (λ (r : RuleValue). r.scenarios) rules

-- All scenarios of a feature: its own, and then those of its rules.
abbrev pub scenarios_of : FeatureValue → List ScenarioValue
scenarios_of f = f.scenarios ++ scenarios_of_rules f.rules

-- The findings of scenarios, given the names of the scenarios before them: each that has the name of an earlier one.
abbrev pub named_again : (List ℕ → Bool) → List ScenarioValue → List FindingValue
named_again seen [] = []
named_again seen (s ∷ ss) = found_if (seen s.name) s.line NameTwice ++ named_again (λ name. bytes_eq s.name name || seen name) ss

-- The findings of scenarios: each that has the name of an earlier one.
abbrev pub same_names : List ScenarioValue → List FindingValue
same_names scenarios = named_again (λ name. false) scenarios
