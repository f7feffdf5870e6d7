use Rattle.gk_gherkin.proofs.HooksReaderComplete.{one_hooks_reading}
use Rattle.gk_gherkin.proofs.laws.hooks_reading_is_unique.Goals as goal

pub returns : goal.returns
returns c = one_hooks_reading
