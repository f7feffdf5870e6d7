use Rattle.gk_steps.proofs.Common.{arith, ap, ◌∙◌, length, get_or}
use Rattle.gk_steps.proofs.LeftmostLemmas.{first_more, other_byte, no_room}
use Rattle.gk_steps.proofs.leftmost.first_of_byte.Goals as goal
use Rattle.gk_steps.proofs.leftmost.first_of_byte.Goals.{else-bytes-position-via-then-bytes-position+else-stands_at, else-bytes-position-via-else-bytes-position}

pub returns-then-bytes-literal : goal.returns-then-bytes-literal
returns-then-bytes-literal c = no_room c.args.literal.now c.args.text.now 1 (omega (arith, c.if-bytes-literal.true)) (λ position some less here. absurd (omega arith))

pub loop-position-preserved : goal.loop-position-preserved
loop-position-preserved c = first_more c.args.literal.now c.args.text.now c.loop-position.position c.loop-position.invariant (elim c.else-bytes-position.branch [
  | else-bytes-position-via-then-bytes-position+else-stands_at w ↦ w.if-stands_at.ensures
  | else-bytes-position-via-else-bytes-position w ↦ other_byte c.args.first c.requires.0 c.args.literal.now c.args.text.now c.loop-position.position c.requires.1
      (omega (arith, c.loop-position-test.true, c.if-bytes-literal.false, ap length c.as_bytes-bytes.ensures.value, ap length c.requires.1))
      (λ e. w.if-bytes-position.false (ap (λ t. get_or t c.loop-position.position 0) c.as_bytes-bytes.ensures.value ∙ e))
])

pub returns : goal.returns
returns c = no_room c.args.literal.now c.args.text.now c.loop-position.position (omega (arith, c.loop-position-test.false, c.if-bytes-literal.false)) c.loop-position.invariant
