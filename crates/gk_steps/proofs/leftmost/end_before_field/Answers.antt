use Rattle.gk_steps.proofs.Common.{map, ◌∷◌, Plain, FieldPiece, piece_value}
use Rattle.gk_steps.proofs.LeftmostLemmas.{field_end, field_nowhere}
use Rattle.gk_steps.proofs.leftmost.end_before_field.Goals as goal

pub returns-in-Some : goal.returns-in-Some
returns-in-Some c = λ name. field_end name c.args.literal.now c.args.other.now (map piece_value c.args.after.now) c.args.text.now c.in-Some.position c.utf8.text c.utf8.literal c.in-Some.ensures

pub returns-in-None : goal.returns-in-None
returns-in-None c = λ name. field_nowhere name c.args.literal.now (FieldPiece c.args.other.now Plain ∷ map piece_value c.args.after.now) c.args.text.now c.utf8.text c.in-None.ensures
