use Rattle.gk_select.proofs.Common.{rules, ap, ◌∙◌, arith, common_steps, texts, filled}
use Rattle.gk_select.proofs.FilledPieces.{fills_piece, fills_end}
use Rattle.gk_select.proofs.FillingLoops.{cut, uncut, pushed, if_ok, fit}
use Rattle.gk_select.proofs.filling.push_filled.Goals as goal

pub loop-piece-preserved : goal.loop-piece-preserved
loop-piece-preserved c =
    let p = cut 62 c.loop-piece.rest.now c.split_once.result c.split_once.ensures.cases (omega arith) (c.in-Some.piece, c.in-Some.after) c.in-Some.is in
    let e = ap (filled c.args.columns.now (texts c.args.row.now)) p.0 ∙ fills_piece c.args.columns.now (texts c.args.row.now) c.in-Some.piece.now c.in-Some.after.now (fit c.args.columns.now c.args.row.now c.requires) p.1 in
    (search rules, pushed _ _ _ c.in_ok-push_piece.ensures e c.loop-piece.invariant.1)

pub returns : goal.returns
returns c = grind (arith, common_steps, fills_end, uncut, if_ok)
