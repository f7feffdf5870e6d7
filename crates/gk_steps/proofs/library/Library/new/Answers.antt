use Rattle.gk_steps.proofs.Common.{arith, common_steps}
use Rattle.gk_steps.proofs.library.Library.new.Goals as goal

pub invariant_of-result-clause-typed_end : goal.invariant_of-result-clause-typed_end
invariant_of-result-clause-typed_end c = grind (arith, common_steps)
