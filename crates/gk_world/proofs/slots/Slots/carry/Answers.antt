use Rattle.gk_world.proofs.MoveLemmas.{within_still, wide_before}
use Rattle.gk_world.proofs.slots.Slots.carry.Goals as goal

pub exchange-requires-clause-position : goal.exchange-requires-clause-position
exchange-requires-clause-position g c = within_still c.args.self.now _ c.args.from c.args.cell c.args.to _ c.exchange-text.ensures.set c.requires.to

pub returns-clause-within_to : goal.returns-clause-within_to
returns-clause-within_to g c = wide_before c.args.self.now _ c.args.from c.args.cell c.args.to c.args.cell _ c.exchange-text.ensures.set c.exchange.ensures.within
