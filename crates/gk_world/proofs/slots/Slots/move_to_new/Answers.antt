use Rattle.gk_world.proofs.Common.{◌∙◌, length, sym, ap, subst, NamesDiffer}
use Rattle.gk_world.proofs.RowsLemmas.{length-slots_of}
use Rattle.gk_world.proofs.MoveLemmas.{moved_to_new, new_fits, new_back}
use Rattle.gk_world.proofs.slots.Slots.move_to_new.Goals as goal

pub returns-clause-moves : goal.returns-clause-moves
returns-clause-moves g c =
    moved_to_new _ c.args.self.now _ c.carry.new.self c.args.from c.len-position.result c.args.cell _ c.in_ok-push.ensures.adds c.carry.ensures.set
    (c.len-position.ensures.len ∙ sym (length-slots_of g.C.Cells.cells c.self.inside.rows.entries) ∙ ap length c.self.view_is)
    c.requires.from c.carry.ensures.within c.carry.ensures.within_to
    (subst NamesDiffer c.self.view_is c.self.invariant) c.requires.missing

pub returns-clause-fits : goal.returns-clause-fits
returns-clause-fits g c =
    new_fits _ c.args.self.now _ c.carry.new.self c.args.from c.len-position.result c.args.cell _ c.in_ok-push.ensures.adds c.carry.ensures.set
    (c.len-position.ensures.len ∙ sym (length-slots_of g.C.Cells.cells c.self.inside.rows.entries) ∙ ap length c.self.view_is)
    c.requires.from c.carry.ensures.within c.carry.ensures.within_to
    g.C.Cells.width c.requires.cell

pub returns-clause-before : goal.returns-clause-before
returns-clause-before g c =
    new_back _ c.args.self.now _ c.carry.new.self c.args.from c.len-position.result c.args.cell _ c.in_ok-push.ensures.adds c.carry.ensures.set
    (c.len-position.ensures.len ∙ sym (length-slots_of g.C.Cells.cells c.self.inside.rows.entries) ∙ ap length c.self.view_is)
    c.requires.from c.carry.ensures.within c.carry.ensures.within_to
