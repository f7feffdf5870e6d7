use Rattle.gk_world.proofs.SlotsLemmas.{writes, has_cell, cell-back}
use Rattle.gk_world.proofs.slots.Slots.write.Goals as goal

pub returns-clause-writes : goal.returns-clause-writes
returns-clause-writes g c = λ name found. writes name c.args.self.now _ c.args.position c.args.cell _ c.exchange-old.ensures.set found c.exchange-old.ensures.within

pub returns-clause-fits : goal.returns-clause-fits
returns-clause-fits g c = has_cell g.C.Cells.width c.args.self.now _ c.args.position c.args.cell _ c.exchange-old.ensures.set c.requires.position c.exchange-old.ensures.within c.requires.cell

pub returns-clause-before : goal.returns-clause-before
returns-clause-before g c = cell-back c.args.self.now _ c.args.position c.args.cell _ _ c.exchange-old.ensures.set c.requires.position c.exchange-old.ensures.old
