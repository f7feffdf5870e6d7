use Rattle.gk_cli.proofs.Common.{length, feature_row, part, rest, device_of}
use Rattle.gk_cli.proofs.ReportRunLemmas.{IsWrittenUpTo}
use Rattle.gk_cli.proofs.report_run.write_part.Given as goal

abbrev pub invariant-loop-piece : goal.invariant-loop-piece
invariant-loop-piece g l = IsWrittenUpTo (device_of g.W.Write.contents l.initial.out) (device_of g.W.Write.contents l.out) l.is_first l.still_first (part l.fn.style l.is_first (feature_row l.feature)) (rest l.left)

abbrev pub decreases-loop-piece : goal.decreases-loop-piece
decreases-loop-piece g l = length (rest l.left)
