use Rattle.gk_steps.proofs.Common.{◌≡◌, ◌≤◌, length, drop, None}
use Rattle.gk_steps.specs.LibraryFile as spec
use Rattle.gk_steps.proofs.library_line.last_arrow.Given as goal

-- no arrow stands at the position or later
abbrev pub invariant-loop-position : goal.invariant-loop-position
invariant-loop-position l = (l.position ≤ length l.bytes) × (spec.last_arrow (drop l.position l.bytes) ≡ None)

abbrev pub decreases-loop-position : goal.decreases-loop-position
decreases-loop-position l = l.position
