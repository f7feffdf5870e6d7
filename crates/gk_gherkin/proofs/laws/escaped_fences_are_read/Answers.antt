use Rattle.gk_gherkin.proofs.FenceTexts.{reads_one_way}
use Rattle.gk_gherkin.proofs.laws.escaped_fences_are_read.Goals as goal

pub returns : goal.returns
returns c = reads_one_way
