use Rattle.gk_steps.proofs.Common.{arith, common_steps}
use Rattle.gk_steps.proofs.CaptureLemmas.{any_hit}
use Rattle.gk_steps.proofs.library.Library.search_any.Goals as goal

pub returns-clause-found : goal.returns-clause-found
returns-clause-found g c = grind (arith, common_steps, any_hit)
