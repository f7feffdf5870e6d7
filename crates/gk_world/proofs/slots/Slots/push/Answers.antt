use Rattle.gk_world.proofs.Common.{◌∙◌, length, sym, refl, ap, subst, string_bytes, NamesDiffer, IsMissing}
use Rattle.gk_world.proofs.SlotsLemmas.{pushes, newest, push-back, differ-push}
use Rattle.gk_world.proofs.RowsLemmas.{inserted, length-slots_of}
use Rattle.gk_world.proofs.slots.Slots.push.Goals as goal

pub returns-in-Ok-clause-adds : goal.returns-in-Ok-clause-adds
returns-in-Ok-clause-adds g c = record {
  cells = g.C.Cells.cells c.only.result;
  added = inserted g.C.Cells.cells c.self.inside.rows c.insert.new.self.entries c.args.self.now c.args.name c.only.result c.self.view_is c.requires.missing c.in-Ok.ensures.entries;
  only = c.only.ensures;
}

pub returns-in-Ok-clause-writes : goal.returns-in-Ok-clause-writes
returns-in-Ok-clause-writes g c =
    let s = c.args.self.now in
    pushes _ s _ _ c.args.cell _
    (inserted g.C.Cells.cells c.self.inside.rows c.insert.new.self.entries s c.args.name c.only.result c.self.view_is c.requires.missing c.in-Ok.ensures.entries)
    c.requires.missing c.only.ensures

pub returns-in-Ok-clause-fits : goal.returns-in-Ok-clause-fits
returns-in-Ok-clause-fits g c =
    let s = c.args.self.now in
    newest g.C.Cells.width _ s _ _ c.len-position.result c.args.cell _
    (inserted g.C.Cells.cells c.self.inside.rows c.insert.new.self.entries s c.args.name c.only.result c.self.view_is c.requires.missing c.in-Ok.ensures.entries)
    (c.len-position.ensures.len ∙ sym (length-slots_of g.C.Cells.cells c.self.inside.rows.entries) ∙ ap length c.self.view_is)
    c.only.ensures c.requires.cell

pub returns-in-Ok-clause-before : goal.returns-in-Ok-clause-before
returns-in-Ok-clause-before g c =
    let s = c.args.self.now in
    push-back s _ _ c.len-position.result
    (inserted g.C.Cells.cells c.self.inside.rows c.insert.new.self.entries s c.args.name c.only.result c.self.view_is c.requires.missing c.in-Ok.ensures.entries)
    (c.len-position.ensures.len ∙ sym (length-slots_of g.C.Cells.cells c.self.inside.rows.entries) ∙ ap length c.self.view_is)

pub invariant_of-self : goal.invariant_of-self
invariant_of-self g c =
    let missing = subst (IsMissing (string_bytes c.args.name)) (sym c.self.view_is) c.requires.missing in
    subst NamesDiffer (sym (inserted g.C.Cells.cells c.self.inside.rows c.insert.new.self.entries _ c.args.name c.only.result refl missing c.in-Ok.ensures.entries))
    (differ-push _ _ c.self.invariant missing)
