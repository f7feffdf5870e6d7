use Rattle.gk_select.proofs.CaseRules.{cases_fall}
use Rattle.gk_select.proofs.laws.cases_fall_into_rules.Goals as goal

pub returns : goal.returns
returns c = cases_fall
