use Rattle.gk_steps.proofs.Common.{◌≡◌, ℕ, ◌+◌, ◌≤◌, ◌<◌, false, get_or}
use Rattle.gk_steps.proofs.advances.plain_advance.Given as goal

-- none of the nearer cells is true
abbrev pub invariant-loop-back : goal.invariant-loop-back
invariant-loop-back l = (d : ℕ) → d < l.column → l.column ≤ d + l.back → get_or l.below d false ≡ false
