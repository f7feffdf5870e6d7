use Rattle.std.proofs.Common.{◌≡◌}
use Rattle.gk_tests.proofs.world_tests.fill.Given as goal

-- what the ends of the open layers give stays
abbrev pub invariant-loop-name : goal.invariant-loop-name
invariant-loop-name l = l.world.saved ≡ l.fn.world.saved
