use Rattle.gk_select.proofs.Untagged.{same_untagged}
use Rattle.gk_select.proofs.laws.cases_keep_without_tags.Goals as goal

pub returns : goal.returns
returns c = same_untagged
