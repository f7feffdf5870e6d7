use Rattle.gk_world.proofs.Common.{arith}
use Rattle.gk_world.proofs.JournalLemmas.{popped, rewound_on}
use Rattle.gk_world.proofs.journal.Journal.rewind.Goals as goal

pub undo-requires : goal.undo-requires
undo-requires g c =
    let p = popped g.T.Reversible.undone g.T.Reversible.fits c.loop-self.self-inside.entries.items c.pop.new.self.items c.pop.result c.unwrap-undo.result c.args.count (g.T.Reversible.slots c.loop-self.on) c.pop.ensures.items c.unwrap-undo.ensures (omega arith) c.loop-self.invariant.fit in
    p.fits_now

pub loop-self-preserved : goal.loop-self-preserved
loop-self-preserved g c =
    rewound_on g.T.Reversible.undone g.T.Reversible.fits _ _ c.args.count c.loop-self.self-inside.entries.items c.pop.new.self.items c.pop.result c.unwrap-undo.result _ _ c.loop-self.invariant c.pop.ensures.items c.unwrap-undo.ensures (omega arith) c.undo.ensures.slots
