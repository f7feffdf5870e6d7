use Rattle.gk_select.proofs.TagReading.{one_rule}
use Rattle.gk_select.proofs.laws.texts_have_one_tag_rule.Goals as goal

pub returns : goal.returns
returns c = one_rule
