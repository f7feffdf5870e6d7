use Rattle.gk_steps.proofs.Common.{length, ◌-◌, ◌<◌, ℕ, get_or, IsDigit}
use Rattle.gk_steps.proofs.leftmost.digits_end.Given as goal

abbrev pub invariant-loop-end : goal.invariant-loop-end
invariant-loop-end l = (0 < l.end) × ((position : ℕ) → 0 < position → position < l.end → IsDigit (get_or l.bytes position 0))

abbrev pub decreases-loop-end : goal.decreases-loop-end
decreases-loop-end l = length l.bytes - l.end
