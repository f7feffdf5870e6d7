use Rattle.gk_steps.proofs.Common.{List, ap, subst, sym, ◌∙◌, arith, common_steps, Plain, PieceValue, Literal, FieldPiece, piece_value, IsPieceEnd}
use Rattle.gk_steps.proofs.LeftmostLemmas.{none_left, first_and_rest, all_end}
use Rattle.gk_steps.proofs.leftmost.plain_end.Goals as goal

pub returns-else-is_empty : goal.returns-else-is_empty
returns-else-is_empty c = grind (arith, common_steps, none_left, all_end)

pub returns-in-Literal : goal.returns-in-Literal
returns-in-Literal c = λ name.
    let piece = ap piece_value c.in-Literal.is ∙ ap Literal (sym c.deref.ensures) in
    let after = first_and_rest c.args.after.now c.in-Some.piece.now c.in-Some.later.now (Literal c.deref.result.now) c.in-Some.ensures.cases.0 piece in
    subst (λ (ps : List PieceValue). IsPieceEnd (FieldPiece name Plain) ps c.args.text.now c.end_before.result) (sym after) (c.end_before.ensures name)
