use Rattle.gk_steps.proofs.Common.{◌∷◌, ◌+◌, map, length, subst, Decimal, FieldPiece, piece_value, StandsNowhereBefore}
use Rattle.gk_steps.proofs.LeftmostLemmas.{once_end, field_nowhere}
use Rattle.gk_steps.proofs.leftmost.end_before_number.Goals as goal

pub returns-in_default : goal.returns-in_default
returns-in_default c = λ name. field_nowhere name c.args.literal.now (FieldPiece c.args.other.now Decimal ∷ map piece_value c.args.after.now) c.args.text.now c.utf8.text c.in_default.ensures

pub returns-in-None : goal.returns-in-None
returns-in-None c = λ name.
    let once = subst (λ rest. StandsNowhereBefore c.args.literal.now rest (length rest + 1)) c.range_from.ensures.value c.in-None.ensures in
    once_end name c.args.literal.now (FieldPiece c.args.other.now Decimal ∷ map piece_value c.args.after.now) c.args.text.now c.in-Some.position c.utf8.text c.in-Some.ensures once
