use Rattle.gk_steps.proofs.Common.{◌-◌, length, AreBoundariesFrom}
use Rattle.gk_steps.proofs.char_boundaries.boundaries_of.Given as goal

abbrev pub invariant-loop-after : goal.invariant-loop-after
invariant-loop-after l = AreBoundariesFrom (length l.text - l.after) l.text l.boundaries.items
