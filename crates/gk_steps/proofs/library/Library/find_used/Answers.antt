use Rattle.gk_steps.proofs.Common.{arith, common_steps}
use Rattle.gk_steps.proofs.UsedFieldsLemmas.{use_some}
use Rattle.gk_steps.proofs.library.Library.find_used.Goals as goal

pub returns-in-Some-clause-found : goal.returns-in-Some-clause-found
returns-in-Some-clause-found c = grind (arith, common_steps, use_some)
