use Rattle.std.proofs.Common.{◌≡◌}
use Rattle.gk_tests.proofs.world_tests.change_all.Given as goal

-- what the ends of the open layers give stays
abbrev pub invariant-loop-place : goal.invariant-loop-place
invariant-loop-place l = l.world.saved ≡ l.fn.world.saved
