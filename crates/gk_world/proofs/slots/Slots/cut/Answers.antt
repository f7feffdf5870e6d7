use Rattle.gk_world.proofs.Common.{Some, ap, ◌∙◌, with_cell, cut_to}
use Rattle.gk_world.proofs.SlotsLemmas.{cell-twice, within-written}
use Rattle.gk_world.proofs.slots.Slots.cut.Goals as goal

pub exchange-requires-in-Some-clause-position : goal.exchange-requires-in-Some-clause-position
exchange-requires-in-Some-clause-position g c = within-written c.args.self.now _ c.args.position c.args.cell _ c.exchange.ensures.set c.requires.has.there

pub returns-in-Some : goal.returns-in-Some
returns-in-Some g c =
    cell-twice c.args.self.now _ _ c.args.position c.args.cell _ _ c.exchange.ensures.set c.exchange-in-Some.ensures.set c.requires.has.there
    ∙ ap (with_cell c.args.self.now c.args.position c.args.cell) (ap Some c.truncate.ensures.bytes ∙ ap (cut_to c.args.kept) c.in-Some.ensures.old)
