use Rattle.gk_world.proofs.Common.{◌≡◌}
use Rattle.gk_world.proofs.listing.sorted.Given as goal

abbrev pub invariant-loop-pair : goal.invariant-loop-pair
invariant-loop-pair l = l.pairs.items ≡ l.yielded
