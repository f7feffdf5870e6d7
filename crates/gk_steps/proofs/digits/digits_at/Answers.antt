use Rattle.gk_steps.proofs.Common.{◌≡◌, ◌∙◌, ◌+◌, ◌-◌, ◌<◌, true, ap, sym, subst, get_or, length, arith, common_steps, HasDigits}
use Rattle.gk_steps.proofs.DigitLemmas.{next_position}
use Rattle.gk_steps.proofs.NumberLemmas.{zero_below, zero_rest}
use Rattle.gk_steps.proofs.digits.digits_at.Goals as goal

pub returns-then-below-column : goal.returns-then-below-column
returns-then-below-column c =
    let text = c.args.text.now in
    let boundaries = c.args.boundaries.now in
    let below = c.args.below.now in
    let d = c.args.column - 1 in
    let up : d + 1 ≡ c.args.column = omega arith in
    let l : d + 1 < length boundaries = omega arith in
    let is : get_or text (get_or boundaries (d + 1) 0) 0 ≡ 48 = ap (λ k. get_or text (get_or boundaries k 0) 0) up ∙ ap (λ bs. get_or bs (get_or boundaries c.args.column 0) 0) (sym c.as_bytes.ensures.value) ∙ c.if-as_bytes-boundaries-eq48.true in
    let next = next_position text boundaries d c.utf8.text c.requires.boundaries l (omega arith) in
    subst (λ k. HasDigits c.args.most text boundaries below k true) up (zero_below c.args.most text boundaries below d c.requires.boundaries l next is c.if-below-column.true)

pub returns-then-as_bytes-boundaries-eq48 : goal.returns-then-as_bytes-boundaries-eq48
returns-then-as_bytes-boundaries-eq48 c = grind (arith, common_steps, next_position, zero_rest)
