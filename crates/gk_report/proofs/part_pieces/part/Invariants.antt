use Rattle.gk_report.proofs.Common.{◌≡◌, ◌++◌, string_bytes, rest, to_go}
use Rattle.gk_report.proofs.part_pieces.part.Given as goal

abbrev pub invariant-loop-out : goal.invariant-loop-out
invariant-loop-out l = string_bytes l.out ++ rest l.left ≡ string_bytes l.initial.out ++ rest l.initial.left

abbrev pub decreases-loop-out : goal.decreases-loop-out
decreases-loop-out l = to_go l.left
