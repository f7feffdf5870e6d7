-- A feature's cases, which of them are selected, and the cases of each rule.
use Rattle.std.specs.Prelude.{◌≡◌, ℕ, Bool, List, map, zip, length, string_bytes, suc, [], ◌∷◌, nat_eq, flat_map, ◌++◌}
use Rattle.std.specs.List.{list_any, filter}
use Rattle.gk_gherkin.specs.Feature.{texts}
use Rattle.gk_select.specs.declared.case.Case.{Case}
use Rattle.gk_select.specs.Case.{CaseValue, case_value}
use Rattle.gk_select.specs.RuleOrder.{FallIntoRules, rank}
use Rattle.gk_run.specs.declared.cases.Member.{Member}
use Rattle.gk_run.specs.declared.cases.RuleCases.{RuleCases}
use Rattle.gk_run.specs.declared.chosen.Chosen.{Chosen}
use Rattle.gk_run.specs.declared.chosen.RuleHead.{RuleHead}

-- A case, and whether it is selected. (behave's documentation: `--tags`)
pub record MemberValue : Type 0 where
  pub scenario : CaseValue
  pub selected : Bool

-- The heading of a rule. (Cucumber's Gherkin reference: rule)
pub record HeadValue : Type 0 where
  pub line : ℕ
  pub tags : List (List ℕ)

-- A feature with its rules and its cases, and the name of the source that it was read from.
pub record ChosenValue : Type 0 where
  pub source : List ℕ
  pub name : List ℕ
  pub line : ℕ
  pub tags : List (List ℕ)
  pub rules : List HeadValue
  pub members : List MemberValue

-- The value of a case and whether it is selected.
abbrev pub member_of : Case → Bool → MemberValue
member_of case selected = record { scenario = case_value case; selected = selected }

-- Cases, each with whether it is selected.
abbrev pub members_of : List Case → List Bool → List MemberValue
members_of cases selected = map (λ p. member_of p.0 p.1) (zip cases selected)

-- The value of a `RuleHead`.
abbrev pub head_value : RuleHead → HeadValue
head_value h = record { line = h.line; tags = texts h.tags.items }

-- The value of a `Chosen`.
abbrev pub chosen_value : Chosen → ChosenValue
chosen_value c = record { source = string_bytes c.source; name = string_bytes c.name; line = c.line; tags = texts c.tags.items; rules = map head_value c.rules.items; members = members_of c.cases.items c.selected.items }

-- There is exactly one choice for each case.
abbrev pub IsPaired : Chosen → Type 0
IsPaired c = length c.selected.items ≡ length c.cases.items

-- There is exactly one choice for each case, and the cases fall into the feature's rules.
pub record IsFormed (c : Chosen) : Type 0 where
  pub paired : IsPaired c
  pub falls : FallIntoRules (length c.rules.items) (map (λ case. case.rule) c.cases.items)

-- Whether a case among these is selected.
abbrev pub has_selected : List MemberValue → Bool
has_selected members = list_any (λ (m : MemberValue). m.selected) members

-- The cases of this rank, in order. Those of rank 0 have no rule; each further rank has those of one rule, in the order of the rules.
abbrev pub members_of_rank : ℕ → List MemberValue → List MemberValue
members_of_rank r members = filter (λ (m : MemberValue). nat_eq (rank m.scenario.rule) r) members

-- A rule with its cases.
pub record Group : Type 0 where
  pub head : HeadValue
  pub members : List MemberValue

-- Rules, each with its cases. The first of them has this rank.
abbrev pub groups_from : ℕ → List HeadValue → List MemberValue → List Group
groups_from r [] members = []
groups_from r (head ∷ heads) members = record { head = head; members = members_of_rank r members } ∷ groups_from (suc r) heads members

-- The cases of a feature that aren't in a rule. (Cucumber's Gherkin reference: rule)
abbrev pub own_members : ChosenValue → List MemberValue
own_members f = members_of_rank 0 f.members

-- The rules of a feature, each with its cases. (Cucumber's Gherkin reference: rule)
abbrev pub rule_groups : ChosenValue → List Group
rule_groups f = groups_from 1 f.rules f.members

-- The cases of a feature fall into its rules.
abbrev pub CasesFallIntoRules : ChosenValue → Type 0
CasesFallIntoRules f = FallIntoRules (length f.rules) (map (λ (m : MemberValue). m.scenario.rule) f.members)

-- The cases of rules, in order.
abbrev pub members_of_groups : List Group → List MemberValue
members_of_groups groups = flat_map (λ (g : Group). g.members) groups

-- If the cases of a feature fall into its rules, its own cases and then those of each rule are all of them, in file order.
abbrev pub GroupsAreAll : Type 0
GroupsAreAll = (f : ChosenValue) → CasesFallIntoRules f → own_members f ++ members_of_groups (rule_groups f) ≡ f.members

-- The cases of a feature that `run_feature` accepts fall into its rules.
abbrev pub FormedCasesFallIntoRules : Type 0
FormedCasesFallIntoRules = (c : Chosen) → IsFormed c → CasesFallIntoRules (chosen_value c)

-- Proof machinery, from here on: the values of cases that were divided.

-- The values of a list of `Member`.
abbrev pub members_in : List Member → List MemberValue
members_in members = map (λ (m : Member). member_of m.case m.selected) members

-- The value of a `RuleCases`.
abbrev pub group_value : RuleCases → Group
group_value r = record { head = head_value r.head; members = members_in r.members.items }

-- The values of a list of `RuleCases`.
abbrev pub groups_in : List RuleCases → List Group
groups_in rules = map group_value rules

-- A rule that has no cases yet.
abbrev pub bare_group : HeadValue → Group
bare_group head = record { head = head; members = [] }
