use Rattle.gk_steps.proofs.Common.{◌∷◌, List, map, ap, subst, sym, ◌∙◌, Plain, Decimal, PieceValue, Literal, FieldPiece, piece_value, IsPieceEnd}
use Rattle.gk_steps.proofs.AdvanceLemmas.{field_piece}
use Rattle.gk_steps.proofs.LeftmostLemmas.{none_left, first_and_rest}
use Rattle.gk_steps.proofs.leftmost.end_before.Goals as goal

pub returns-in-None : goal.returns-in-None
returns-in-None c = λ name.
    subst (λ (ps : List PieceValue). IsPieceEnd (FieldPiece name Plain) (Literal c.args.literal.now ∷ ps) c.args.text.now c.end_before_last.result) (ap (map piece_value) (sym (none_left c.args.after.now c.in-None.ensures.cases))) (c.end_before_last.ensures name)

pub returns-in-Plain : goal.returns-in-Plain
returns-in-Plain c = λ name.
    let piece = field_piece c.in-Some.piece.now c.in-Field.name c.in-Field.kind Plain c.in-Field.is c.in-Plain.is ∙ ap (λ bytes. FieldPiece bytes Plain) (sym c.deref.ensures) in
    let after = first_and_rest c.args.after.now c.in-Some.piece.now c.in-Some.later.now (FieldPiece c.deref.result.now Plain) c.in-Some.ensures.cases.0 piece in
    subst (λ (ps : List PieceValue). IsPieceEnd (FieldPiece name Plain) (Literal c.args.literal.now ∷ ps) c.args.text.now c.end_before_field.result) (sym after) (c.end_before_field.ensures name)

pub returns-in-Decimal : goal.returns-in-Decimal
returns-in-Decimal c = λ name.
    let piece = field_piece c.in-Some.piece.now c.in-Field.name c.in-Field.kind Decimal c.in-Field.is c.in-Decimal.is ∙ ap (λ bytes. FieldPiece bytes Decimal) (sym c.deref-in-Decimal.ensures) in
    let after = first_and_rest c.args.after.now c.in-Some.piece.now c.in-Some.later.now (FieldPiece c.deref-in-Decimal.result.now Decimal) c.in-Some.ensures.cases.0 piece in
    subst (λ (ps : List PieceValue). IsPieceEnd (FieldPiece name Plain) (Literal c.args.literal.now ∷ ps) c.args.text.now c.end_before_number.result) (sym after) (c.end_before_number.ensures name)
