-- A feature whose tags are taken from it, and its cases.
use Rattle.std.specs.Prelude.{◌≡◌, [], map}
use Rattle.gk_gherkin.specs.Feature.{RuleValue, FeatureValue}
use Rattle.gk_select.specs.Case.{CaseValue}
use Rattle.gk_select.specs.Expansion.{cases, step_count, IsExpandable}

-- A case that has only its own tags. (Cucumber's Gherkin reference: tag inheritance)
abbrev pub with_own_tags : CaseValue → CaseValue
with_own_tags c = record { name = c.name; keyword = c.keyword; line = c.line; rule = c.rule; tags = c.own_tags; own_tags = c.own_tags; steps = c.steps }

-- A rule without tags.
abbrev pub untagged_rule : RuleValue → RuleValue
untagged_rule r = record { name = r.name; line = r.line; tags = []; background = r.background; scenarios = r.scenarios }

-- A feature without tags, whose rules have none either. The tags of scenarios and of Examples stay.
abbrev pub untagged : FeatureValue → FeatureValue
untagged f = record { name = f.name; line = f.line; tags = []; background = f.background; scenarios = f.scenarios; rules = map untagged_rule f.rules }

-- Without the tags of a feature and of its rules, its cases are the same, except that each has only its own tags. (Cucumber's Gherkin reference: tag inheritance)
pub record HasSameCasesUntagged (f : FeatureValue) : Type 0 where
  pub cases : cases (untagged f) ≡ map with_own_tags (cases f)
  pub steps : step_count (untagged f) ≡ step_count f
  pub expandable : IsExpandable f → IsExpandable (untagged f)
