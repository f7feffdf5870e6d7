use Rattle.gk_world.proofs.Common.{arith, common_steps}
use Rattle.gk_world.proofs.UndoLemmas.{undo_writes}
use Rattle.gk_world.proofs.slots.Slots.undo.Goals as goal

pub returns-in-Restore-clause-maps : goal.returns-in-Restore-clause-maps
returns-in-Restore-clause-maps g c = grind (arith, common_steps, undo_writes)

pub returns-in-Created-clause-maps : goal.returns-in-Created-clause-maps
returns-in-Created-clause-maps g c = grind (arith, common_steps, undo_writes)

pub returns-in-Cut-clause-maps : goal.returns-in-Cut-clause-maps
returns-in-Cut-clause-maps g c = grind (arith, common_steps, undo_writes)

pub returns-in-Moved-clause-maps : goal.returns-in-Moved-clause-maps
returns-in-Moved-clause-maps g c = grind (arith, common_steps, undo_writes)

pub returns-in-MovedToNew-clause-maps : goal.returns-in-MovedToNew-clause-maps
returns-in-MovedToNew-clause-maps g c = grind (arith, common_steps, undo_writes)
