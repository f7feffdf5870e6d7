use Rattle.gk_report.proofs.Common.{arith, string_bytes, common_steps, rest}
use Rattle.gk_report.proofs.PartPiecesLemmas.{json_start}
use Rattle.gk_report.proofs.part_pieces.PartPieces.push_start.Goals as goal

pub returns-in_ok-push_object_start-in-Json-clause-pushed : goal.returns-in_ok-push_object_start-in-Json-clause-pushed
unfolding rest
returns-in_ok-push_object_start-in-Json-clause-pushed c = grind (arith, common_steps, string_bytes, json_start)
