use Rattle.gk_report.proofs.Common.{◌≡◌, ◌++◌, string_bytes, rest, to_go}
use Rattle.gk_report.proofs.part_pieces.PartPieces.push_piece.Given as goal

abbrev pub invariant-loop-alloc : goal.invariant-loop-alloc
invariant-loop-alloc l = string_bytes l.out ++ rest l.self ≡ string_bytes l.initial.out ++ rest l.initial.self

abbrev pub decreases-loop-alloc : goal.decreases-loop-alloc
decreases-loop-alloc l = to_go l.self
