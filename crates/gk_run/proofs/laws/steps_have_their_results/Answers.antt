use Rattle.gk_run.proofs.JudgedPartsLemmas.{steps_results}
use Rattle.gk_run.proofs.laws.steps_have_their_results.Goals as goal

pub returns : goal.returns
returns c = steps_results
