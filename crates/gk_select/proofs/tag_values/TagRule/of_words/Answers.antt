use Rattle.gk_select.proofs.TagMachine.{spelt_is}
use Rattle.gk_select.proofs.tag_values.TagRule.of_words.Goals as goal

pub invariant_of-result : goal.invariant_of-result
invariant_of-result c = (c.requires, tt)

pub returns : goal.returns
returns c = λ e says. search (spelt_is)
