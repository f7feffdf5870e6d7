use Rattle.gk_cli.proofs.Common.{List, ℕ, subst, sym, arith, feature_row, part, rest, IsPiece, device_of, IsStopped, passed_on, common_steps}
use Rattle.gk_cli.proofs.ReportRunLemmas.{none_written, piece_refused, piece_stopped, piece_written}
use Rattle.gk_cli.proofs.report_run.write_part.Goals as goal

pub loop-piece-init : goal.loop-piece-init
loop-piece-init g c = none_written (device_of g.W.Write.contents c.args.out.now) c.args.is_first (part c.args.style c.args.is_first (feature_row c.args.feature.now)) (rest c.pieces-left.result) c.pieces-left.ensures

pub returns-in_err-piece-clause-err : goal.returns-in_err-piece-clause-err
returns-in_err-piece-clause-err g c =
    let old = device_of g.W.Write.contents c.args.out.now in
    let new = device_of g.W.Write.contents c.loop-piece.out in
    let whole = part c.args.style c.args.is_first (feature_row c.args.feature.now) in
    passed_on c.from_residual.result c.from_residual.ensures.1
    (λ fault same. subst (IsStopped old new whole) (sym same) (piece_refused old new c.args.is_first c.loop-piece.still_first whole (rest c.loop-piece.left) c.loop-piece.invariant))

pub returns-in_err-write_piece-clause-err : goal.returns-in_err-write_piece-clause-err
returns-in_err-write_piece-clause-err g c =
    let old = device_of g.W.Write.contents c.args.out.now in
    let middle = device_of g.W.Write.contents c.loop-piece.out in
    let new = device_of g.W.Write.contents c.write_piece.new.out in
    let whole = part c.args.style c.args.is_first (feature_row c.args.feature.now) in
    let left = rest c.loop-piece.left in
    let later = rest c.next.new.self in
    let made = rw c.in-Some.is at c.in_ok-piece.ensures.piece in
    let piece = subst (λ (text : List ℕ). IsPiece left text later) (sym c.as_str.ensures.value) made in
    passed_on c.from_residual-in_err-write_piece.result c.from_residual-in_err-write_piece.ensures.1
    (λ fault same. subst (IsStopped old new whole) (sym same)
    (piece_stopped old middle new c.args.is_first c.loop-piece.still_first whole left c.as_str.result.now later c.in_err-write_piece.field-0.0 c.loop-piece.invariant piece c.in_err-write_piece.ensures.err))

pub loop-piece-preserved : goal.loop-piece-preserved
loop-piece-preserved g c = grind (arith, common_steps, piece_written)
