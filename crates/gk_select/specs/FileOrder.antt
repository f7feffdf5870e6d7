-- The order of the lines of a feature's rules and cases.
use Rattle.std.specs.Prelude.{ℕ, List, ◌∷◌, ◌++◌, map, flat_map, Some}
use Rattle.std.specs.List.{enumerate_from}
use Rattle.std.specs.List.Sorted.{IsNonDecreasingBy, IsStrictlyIncreasing}
use Rattle.gk_gherkin.specs.Lines.{lines_of}
use Rattle.gk_gherkin.specs.Feature.{RuleValue, FeatureValue}
use Rattle.gk_gherkin.specs.Grammar.{Reads}
use Rattle.gk_select.specs.Case.{CaseValue}
use Rattle.gk_select.specs.Inherited.{inherited_in_feature}
use Rattle.gk_select.specs.Expansion.{scenario_cases, rule_cases, cases}

-- The lines of cases.
abbrev pub case_lines : List CaseValue → List ℕ
case_lines cs = map (λ (c : CaseValue). c.line) cs

-- The line of the heading of the rule at an index, and then the lines of its cases. (Cucumber's Gherkin reference: rule)
abbrev pub rule_lines : FeatureValue → ℕ × RuleValue → List ℕ
rule_lines f r = r.1.line ∷ case_lines (rule_cases f r)

-- The line of a feature's heading, the lines of the cases that are in no rule, and then those of each rule. (Cucumber's Gherkin reference: feature, rule)
abbrev pub feature_lines : FeatureValue → List ℕ
feature_lines f = f.line ∷ (case_lines (flat_map (scenario_cases (inherited_in_feature f)) f.scenarios) ++ flat_map (rule_lines f) (enumerate_from 0 f.rules))

-- The lines of a feature rise: those of its rules, those of its cases, and both together. So each case is below the heading of its rule and above that of the next rule. (Cucumber's Gherkin reference: feature, rule)
pub record IsInFileOrder (f : FeatureValue) : Type 0 where
  pub rising_rules : IsNonDecreasingBy (λ (r : RuleValue). r.line) f.rules
  pub rising_cases : IsNonDecreasingBy (λ (c : CaseValue). c.line) (cases f)
  pub rising : IsStrictlyIncreasing (feature_lines f)

-- Each feature that is read from the lines of some bytes is in file order. (Cucumber's Gherkin reference: feature)
abbrev pub CasesAreInFileOrder : Type 0
CasesAreInFileOrder = (bytes : List ℕ) (f : FeatureValue) → Reads (lines_of bytes) (Some f) → IsInFileOrder f
