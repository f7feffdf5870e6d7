use Rattle.gk_steps.proofs.Common.{◌≡◌, ℕ, ◌+◌, ◌-◌, ◌*◌, Option, sym, subst, refl, get_or, arith, IsReachTo, IsLongestTo}
use Rattle.gk_steps.proofs.DigitLemmas.{column_up, byte_at, digit_read, digits_here, none_over, none_past, longest_stays, longest_here, longest_at}
use Rattle.gk_steps.proofs.digits.longest_digits.Goals as goal
use Rattle.gk_steps.proofs.digits.longest_digits.Goals.{then-below-next, else-below-next}

pub returns-then-not-is_ascii_digit : goal.returns-then-not-is_ascii_digit
returns-then-not-is_ascii_digit c =
    let text = c.args.text.now in
    let bytes = c.as_bytes-bytes.result.now in
    let boundaries = c.args.boundaries.now in
    let column = c.args.column in
    let back = c.loop-back.back in
    longest_at column back c.args.most text boundaries c.args.below.now c.loop-back.longest (omega arith)
    (λ e less s. none_past c.args.most text boundaries c.args.below.now column (column - back - 1) (get_or bytes (get_or boundaries (column - back) 0) 0) e c.requires.boundaries c.requires.column (omega arith) (byte_at text bytes boundaries column back c.as_bytes-bytes.ensures.value (omega arith)) (λ low high. absurd (omega (arith, c.if-not-is_ascii_digit.ensures.cases))) less s) c.loop-back.invariant.best

pub returns-in-None : goal.returns-in-None
returns-in-None c =
    let text = c.args.text.now in
    let boundaries = c.args.boundaries.now in
    let more = c.loop-back.value * 10 + (get_or c.as_bytes-bytes.result.now (get_or boundaries (c.args.column - c.loop-back.back) 0) 0 - 48) in
    let now = digit_read text c.as_bytes-bytes.result.now boundaries c.args.column c.loop-back.back c.loop-back.value more c.utf8.text c.requires.boundaries c.requires.column c.as_bytes-bytes.ensures.value (omega arith) c.if-not-is_ascii_digit.ensures.cases.0 (omega (arith, c.if-not-is_ascii_digit.ensures.cases.1)) refl c.loop-back.invariant.digits c.loop-back.invariant.value_is in
    longest_at c.args.column c.loop-back.back c.args.most text boundaries c.args.below.now c.loop-back.longest (omega arith)
    (λ e less s. none_over c.args.most text boundaries c.args.below.now c.args.column (c.args.column - c.loop-back.back - 1) e more c.requires.boundaries c.requires.column (omega arith) now c.in-None.ensures less s) c.loop-back.invariant.best

pub loop-back-preserved : goal.loop-back-preserved
loop-back-preserved c =
    let text = c.args.text.now in
    let boundaries = c.args.boundaries.now in
    let below = c.args.below.now in
    let d = c.args.column - c.loop-back.back - 1 in
    let now = digit_read text c.as_bytes-bytes.result.now boundaries c.args.column c.loop-back.back c.loop-back.value c.in-Some.more c.utf8.text c.requires.boundaries c.requires.column c.as_bytes-bytes.ensures.value (omega arith) c.if-not-is_ascii_digit.ensures.cases.0 (omega (arith, c.if-not-is_ascii_digit.ensures.cases.1)) c.in-Some.ensures.0 c.loop-back.invariant.digits c.loop-back.invariant.value_is in
    let so_far : IsLongestTo (d + 1) c.args.most text boundaries below c.args.column c.loop-back.longest = subst (λ k. IsLongestTo k c.args.most text boundaries below c.args.column c.loop-back.longest) (sym (column_up c.args.column c.loop-back.back (omega arith))) c.loop-back.invariant.best in
    let at : d ≡ c.args.column - (c.loop-back.back + 1) = omega arith in
    let best : IsLongestTo d c.args.most text boundaries below c.args.column c.if-below-next.longest = elim c.if-below-next.branch [
      | then-below-next w ↦
          subst (λ (o : Option ℕ). IsLongestTo d c.args.most text boundaries below c.args.column o) (sym w.longest-is)
          (longest_here c.args.most text boundaries below c.args.column d (digits_here c.args.most text boundaries below c.args.column d c.in-Some.more c.requires.boundaries c.requires.column (omega arith) now c.in-Some.ensures.1 w.if-below-next.true))
      | else-below-next w ↦
          subst (λ (o : Option ℕ). IsLongestTo d c.args.most text boundaries below c.args.column o) (sym w.longest-is)
          (longest_stays c.args.most text boundaries below c.args.column d c.loop-back.longest w.if-below-next.false so_far)
    ] in
    subst (λ k. IsReachTo k c.args.most text boundaries below c.args.column c.in-Some.more c.if-below-next.longest) at (record { digits = now.0; value_is = now.1; best = best })
