use Rattle.std.specs.FinMap as finite
use Rattle.gk_world.proofs.Common.{map_at}
use Rattle.gk_world.proofs.ListingLemmas.{ListsFirst}
use Rattle.gk_world.proofs.table.Table.listing.Given as goal

-- the names so far, with what they have
abbrev pub invariant-loop-position : goal.invariant-loop-position
invariant-loop-position l = ListsFirst (finite.get (map_at 0 l.self-inside.slots)) l.self-inside.slots l.position l.texts
