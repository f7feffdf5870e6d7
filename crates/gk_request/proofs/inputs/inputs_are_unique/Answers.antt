use Rattle.gk_request.proofs.InputsLemmas.{unique}
use Rattle.gk_request.proofs.inputs.inputs_are_unique.Goals as goal

pub returns : goal.returns
returns c = unique c.reading_is_unique.ensures c.texts_have_one_tag_rule.ensures c.library_reading_is_unique.ensures c.hooks_reading_is_unique.ensures
