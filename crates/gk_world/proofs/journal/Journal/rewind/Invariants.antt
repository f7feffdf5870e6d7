use Rattle.gk_world.proofs.Common.{length}
use Rattle.gk_world.proofs.JournalLemmas.{IsRewinding}
use Rattle.gk_world.proofs.journal.Journal.rewind.Given as goal

abbrev pub invariant-loop-self : goal.invariant-loop-self
invariant-loop-self g l =
    let slots = g.T.Reversible.slots in
    IsRewinding g.T.Reversible.undone g.T.Reversible.fits l.initial.self-inside.entries.items (slots l.initial.on) l.count l.self-inside.entries.items (slots l.on)

abbrev pub decreases-loop-self : goal.decreases-loop-self
decreases-loop-self g l = length l.self-inside.entries.items
