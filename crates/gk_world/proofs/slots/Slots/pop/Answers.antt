use Rattle.gk_world.proofs.RowsLemmas.{differ-popped}
use Rattle.gk_world.proofs.slots.Slots.pop.Goals as goal

pub invariant_of-self : goal.invariant_of-self
invariant_of-self g c = differ-popped g.C.Cells.cells c.self.inside.rows.entries c.pop.new.self.entries _ c.pop.ensures.entries c.self.invariant
