use Rattle.gk_world.proofs.Common.{◌<◌, ◌∙◌, length, take, sym, subst, ap, with_cell}
use Rattle.gk_world.proofs.SlotsLemmas.{length-with_cells}
use Rattle.gk_world.proofs.MoveLemmas.{take-with_cells}
use Rattle.gk_world.proofs.slots.Slots.move_back.Goals as goal

pub pop-requires : goal.pop-requires
pop-requires g c = ap length c.exchange-text.ensures.set ∙ length-with_cells c.args.self.now c.args.position _ ∙ c.requires.1.last

pub exchange-requires-clause-position : goal.exchange-requires-clause-position
exchange-requires-clause-position g c =
    let front = c.pop.ensures ∙ ap (take c.args.position) c.exchange-text.ensures.set ∙ take-with_cells c.args.position c.args.self.now _ in
    subst (λ l. c.args.from < length l) (sym front) c.requires.0.there

pub returns : goal.returns
returns g c =
    let front = c.pop.ensures ∙ ap (take c.args.position) c.exchange-text.ensures.set ∙ take-with_cells c.args.position c.args.self.now _ in
    c.exchange.ensures.set ∙ (λ i. with_cell (front i) c.args.from c.args.cell (c.exchange-text.ensures.old i))
