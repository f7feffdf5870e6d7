use Rattle.gk_steps.proofs.Common.{StandsNowhereBefore}
use Rattle.gk_steps.proofs.leftmost.first_of_byte.Given as goal

-- It stands at none of the boundaries so far.
abbrev pub invariant-loop-position : goal.invariant-loop-position
invariant-loop-position l = StandsNowhereBefore l.literal l.text l.position
