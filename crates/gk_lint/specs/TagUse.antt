-- Hooks for tags that no feature has.
use Rattle.std.specs.Prelude.{not, ℕ, Bool, List, [], ◌++◌, flat_map, Option, Some, None}
use Rattle.gk_gherkin.specs.Feature.{ExamplesValue, ScenarioValue, RuleValue, FeatureValue}
use Rattle.gk_gherkin.specs.Hooks.{HookValue}
use Rattle.gk_lint.specs.declared.findings.FindingKind.TheVariants.{HookOfNoTag}
use Rattle.gk_lint.specs.Findings.{FindingValue, found_if}
use Rattle.gk_lint.specs.ScenarioNames.{scenarios_of}
use Rattle.gk_lint.specs.TextSets.{is_one_of}

-- The tags of a scenario and of its Examples.
abbrev pub tags_of_scenario : ScenarioValue → List (List ℕ)
tags_of_scenario s = s.tags ++ flat_map (λ (e : ExamplesValue). e.tags) s.examples

-- The own tags of rules, one rule after the other.
abbrev pub tags_of_rules : List RuleValue → List (List ℕ)
tags_of_rules rules = flat_map (λ (r : RuleValue). r.tags) rules

-- The tags of scenarios, one scenario after the other.
abbrev pub tags_of_scenarios : List ScenarioValue → List (List ℕ)
tags_of_scenarios scenarios = flat_map tags_of_scenario scenarios

-- All tags in a feature: above it, its rules, its scenarios and their Examples. (Cucumber's Gherkin reference: tags)
abbrev pub tags_of : FeatureValue → List (List ℕ)
tags_of f = f.tags ++ (tags_of_rules f.rules ++ tags_of_scenarios (scenarios_of f))

-- All tags in features.
abbrev pub tags_in : List FeatureValue → List (List ℕ)
tags_in features = flat_map tags_of features

-- The findings of a hook at a line, by the tag that it is for: that no feature has the tag.
abbrev pub of_tag : (List ℕ → Bool) → ℕ → Option (List ℕ) → List FindingValue
of_tag stands line None = []
of_tag stands line (Some tag) = found_if (not (stands tag)) line HookOfNoTag

-- The findings of hooks, by the tags that the features have: each hook for a tag that none has. Such a hook never runs. (behave's documentation: environment file functions)
abbrev pub idle_hooks : (List ℕ → Bool) → List HookValue → List FindingValue
idle_hooks stands hooks = flat_map (λ (h : HookValue). of_tag stands h.line h.tag) hooks

-- The findings of a hooks file that is used with these features.
abbrev pub hooks_of_no_tag : List FeatureValue → List HookValue → List FindingValue
hooks_of_no_tag features hooks = idle_hooks (is_one_of (tags_in features)) hooks
