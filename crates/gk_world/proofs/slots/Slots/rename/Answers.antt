use Rattle.gk_world.proofs.Common.{arith, common_steps}
use Rattle.gk_world.proofs.SlotsLemmas.{named}
use Rattle.gk_world.proofs.slots.Slots.rename.Goals as goal

pub returns-clause-moves : goal.returns-clause-moves
returns-clause-moves g c = grind (arith, common_steps, named)
