use Rattle.gk_steps.proofs.Common.{◌≡◌, length, map, piece_value}
use Rattle.gk_steps.specs.Spelling as machinery
use Rattle.gk_steps.proofs.spelling.are_distinct.Given as goal

abbrev pub invariant-loop-piece : goal.invariant-loop-piece
invariant-loop-piece l = machinery.are_distinct (map piece_value l.pieces) ≡ machinery.are_distinct (map piece_value l.rest)

abbrev pub decreases-loop-piece : goal.decreases-loop-piece
decreases-loop-piece l = length l.rest
