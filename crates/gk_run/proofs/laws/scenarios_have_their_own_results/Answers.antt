use Rattle.gk_run.proofs.OwnResultLemmas.{own_results}
use Rattle.gk_run.proofs.laws.scenarios_have_their_own_results.Goals as goal

pub returns : goal.returns
returns c = own_results
