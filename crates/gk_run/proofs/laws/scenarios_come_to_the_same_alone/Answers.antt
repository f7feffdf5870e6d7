use Rattle.gk_run.proofs.OwnResultLemmas.{alone_as_in_suite}
use Rattle.gk_run.proofs.laws.scenarios_come_to_the_same_alone.Goals as goal

pub returns : goal.returns
returns c = alone_as_in_suite
