use Rattle.gk_run.proofs.OwnResultLemmas.{same_in_each}
use Rattle.gk_run.proofs.laws.results_are_the_same_in_each_run.Goals as goal

pub returns : goal.returns
returns c = same_in_each
