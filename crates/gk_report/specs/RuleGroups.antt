-- The rules of a feature, each with its scenarios.
use Rattle.std.specs.Prelude.{◌≡◌, ℕ, nat_lt, Bool, false, List, [], ◌∷◌, ◌++◌, take, drop, map, flat_map, filter, All, Option, Some, None}
use Rattle.std.specs.List.{position_or_len, last_or}
use Rattle.std.specs.List.Sorted.{IsNonDecreasingBy}
use Rattle.gk_run.specs.Results.{CaseRow, RuleRow}

-- Whether there is a rule, and the line of the first one is less than this line.
abbrev pub begins_above : List RuleRow → ℕ → Bool
begins_above [] line = false
begins_above (r ∷ rules) line = nat_lt r.line line

-- The number of scenarios before the first of these rules: those before the first scenario with a line greater than the rule's, or all if there is no rule.
abbrev pub count_before : List RuleRow → List CaseRow → ℕ
count_before rules cases = position_or_len (λ (c : CaseRow). begins_above rules c.line) cases

-- The scenarios before the first of these rules.
abbrev pub cases_before : List RuleRow → List CaseRow → List CaseRow
cases_before rules cases = take (count_before rules cases) cases

-- The scenarios after those before the first of these rules.
abbrev pub cases_behind : List RuleRow → List CaseRow → List CaseRow
cases_behind rules cases = drop (count_before rules cases) cases

-- A rule with its scenarios.
pub record RuleGroup : Type 0 where
  pub rule : RuleRow
  pub cases : List CaseRow

-- Rules, with the scenarios that come after the line of the first one: each rule has those before the next rule.
abbrev pub groups_by_line : List RuleRow → List CaseRow → List RuleGroup
groups_by_line [] cases = []
groups_by_line (r ∷ rules) cases = record { rule = r; cases = cases_before rules cases } ∷ groups_by_line rules (cases_behind rules cases)

-- The rule that a scenario is in: the last one whose line is less than the scenario's, or none. (Cucumber's Gherkin reference: rule)
abbrev pub rule_containing : List RuleRow → CaseRow → Option RuleRow
rule_containing rules c = last_or None (filter (λ (r : RuleRow). nat_lt r.line c.line) rules)

-- The lines of rules are non-decreasing, and so are those of scenarios, as in a file.
pub record AreInFileOrder (rules : List RuleRow) (cases : List CaseRow) : Type 0 where
  pub rising_rules : IsNonDecreasingBy (λ (r : RuleRow). r.line) rules
  pub rising_cases : IsNonDecreasingBy (λ (c : CaseRow). c.line) cases

-- How the scenarios of a feature are grouped by its rules. Each rule has one group, in order. The scenarios before the first rule and those of the groups are all scenarios, in order. In file order, the former are in no rule, and those of a group are in its rule.
pub record RulesFollowTheirScenarios : Type 0 where
  pub each : (rules : List RuleRow) (cases : List CaseRow) → map (λ (g : RuleGroup). g.rule) (groups_by_line rules cases) ≡ rules
  pub whole : (rules : List RuleRow) (cases : List CaseRow) → cases_before rules cases ++ flat_map (λ (g : RuleGroup). g.cases) (groups_by_line rules (cases_behind rules cases)) ≡ cases
  pub own : (rules : List RuleRow) (cases : List CaseRow) → AreInFileOrder rules cases → All (λ c. rule_containing rules c ≡ None) (cases_before rules cases)
  pub others : (rules : List RuleRow) (cases : List CaseRow) → AreInFileOrder rules cases →
      All (λ (g : RuleGroup). All (λ c. rule_containing rules c ≡ Some g.rule) g.cases) (groups_by_line rules (cases_behind rules cases))
