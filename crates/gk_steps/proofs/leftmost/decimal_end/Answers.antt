use Rattle.gk_steps.proofs.Common.{refl, map, subst, IsDigitsEnd, piece_value}
use Rattle.gk_steps.proofs.LeftmostLemmas.{number_end, number_nowhere}
use Rattle.gk_steps.proofs.leftmost.decimal_end.Goals as goal

pub returns-then-has_number_to : goal.returns-then-has_number_to
returns-then-has_number_to c = λ name. number_end name (map piece_value c.args.after.now) c.args.text.now c.digits_end-end.result c.if-has_number_to.ensures (c.if-not-begin_without_digit.ensures.none refl) (subst (λ bytes. IsDigitsEnd bytes c.digits_end-end.result) c.as_bytes.ensures.value c.digits_end-end.ensures)

pub returns-else-has_number_to : goal.returns-else-has_number_to
returns-else-has_number_to c = λ name. number_nowhere name (map piece_value c.args.after.now) c.args.text.now c.digits_end-end.result c.utf8.text c.if-has_number_to.ensures (c.if-not-begin_without_digit.ensures.none refl) (subst (λ bytes. IsDigitsEnd bytes c.digits_end-end.result) c.as_bytes.ensures.value c.digits_end-end.ensures)
