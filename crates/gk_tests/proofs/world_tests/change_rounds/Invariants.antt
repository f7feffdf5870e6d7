use Rattle.std.proofs.Common.{◌≡◌}
use Rattle.gk_tests.proofs.world_tests.change_rounds.Given as goal

-- what the ends of the open layers give stays
abbrev pub invariant-loop-round : goal.invariant-loop-round
invariant-loop-round l = l.world.saved ≡ l.fn.world.saved
