use Rattle.gk_world.proofs.Common.{see, state_at}
use Rattle.gk_world.proofs.ListingLemmas.{ListsFirst}
use Rattle.gk_world.proofs.values.Values.listing.Given as goal

-- the names so far, with what they have
abbrev pub invariant-loop-position : goal.invariant-loop-position
invariant-loop-position l = ListsFirst (see (state_at l.layers l.self-inside.slots)) l.self-inside.slots l.position l.texts
