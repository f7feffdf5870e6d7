use Rattle.gk_steps.proofs.Common.{◌≡◌, ℕ, ◌+◌, ◌≤◌, ◌<◌, get_or}
use Rattle.gk_steps.proofs.advances.literal_advance.Given as goal

-- none of the nearer columns is the end
abbrev pub invariant-loop-back : goal.invariant-loop-back
invariant-loop-back l = (d : ℕ) → d ≤ l.column → l.column < d + l.back → get_or l.boundaries d 0 ≡ l.end → ⊥
