use Rattle.gk_steps.proofs.Common.{◌∙◌, ◌++◌, ap, sym, subst, piece_value, EndsWithPiece}
use Rattle.gk_steps.proofs.LiteralEndLemmas.{match_true, match_false, last_fits, last_refuses}
use Rattle.gk_steps.proofs.literal_ends.fits_end.Goals as goal

pub returns-in-Literal-clause-kept : goal.returns-in-Literal-clause-kept
returns-in-Literal-clause-kept c = λ is.
    let found = match_true c.ends_with.result _ _ c.ends_with.ensures is in
    last_fits c.args.pieces.now c.in-Some.piece.now c.args.text.now (sym c.in-Some.ensures.value)
    (subst (λ p. EndsWithPiece (piece_value p) c.args.text.now) (sym c.in-Literal.is) (found.0, found.1 ∙ ap (λ b. found.0 ++ b) c.deref.ensures))

pub returns-in-Literal-clause-refused : goal.returns-in-Literal-clause-refused
returns-in-Literal-clause-refused c = λ is. last_refuses c.args.pieces.now c.in-Some.piece.now c.args.text.now (sym c.in-Some.ensures.value) (λ ends.
    let found = subst (λ p. EndsWithPiece (piece_value p) c.args.text.now) c.in-Literal.is ends in
    match_false c.ends_with.result _ _ c.ends_with.ensures is found.0 (found.1 ∙ ap (λ b. found.0 ++ b) (sym c.deref.ensures)))

pub returns-in-Field-clause-kept : goal.returns-in-Field-clause-kept
returns-in-Field-clause-kept c = λ is. last_fits c.args.pieces.now c.in-Some.piece.now c.args.text.now (sym c.in-Some.ensures.value) (subst (λ p. EndsWithPiece (piece_value p) c.args.text.now) (sym c.in-Field.is) tt)
