use Rattle.gk_run.proofs.OwnResultLemmas.{moved}
use Rattle.gk_run.proofs.laws.moved_scenarios_come_to_the_same.Goals as goal

pub returns : goal.returns
returns c = moved
