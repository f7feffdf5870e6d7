use Rattle.gk_world.proofs.Common.{option_map, string_bytes}
use Rattle.gk_world.proofs.MoveLemmas.{moved_over, moved_fits, moved_back}
use Rattle.gk_world.proofs.slots.Slots.move_over.Goals as goal

pub returns-clause-moves : goal.returns-clause-moves
returns-clause-moves g c =
    let r = c.carry-old.ensures in
    moved_over c.args.self.now c.args.from c.args.to c.args.cell c.requires.from c.requires.to r.within r.within_to c.carry-old.new.self r.set c.names_differ.ensures

pub returns-clause-fits : goal.returns-clause-fits
returns-clause-fits g c =
    let r = c.carry-old.ensures in
    moved_fits c.args.self.now c.args.from c.args.to c.args.cell c.requires.from c.requires.to r.within r.within_to c.carry-old.new.self r.set g.C.Cells.width c.requires.cell

pub returns-clause-before : goal.returns-clause-before
returns-clause-before g c =
    let r = c.carry-old.ensures in
    moved_back c.args.self.now c.args.from c.args.to c.args.cell c.requires.from c.requires.to r.within r.within_to c.carry-old.new.self r.set (option_map string_bytes c.carry-old.result) r.old
