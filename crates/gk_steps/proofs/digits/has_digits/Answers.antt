use Rattle.gk_steps.proofs.Common.{◌≡◌, ◌+◌, ◌-◌, ◌*◌, sym, subst, refl, get_or, arith, IsRunTo}
use Rattle.gk_steps.proofs.DigitLemmas.{column_up, byte_at, digit_read, run_more, run_found, run_over, run_past}
use Rattle.gk_steps.proofs.digits.has_digits.Goals as goal

pub returns-then-not-is_ascii_digit : goal.returns-then-not-is_ascii_digit
returns-then-not-is_ascii_digit c =
    let text = c.args.text.now in
    let bytes = c.as_bytes-bytes.result.now in
    let boundaries = c.args.boundaries.now in
    let column = c.args.column in
    let back = c.loop-back.back in
    run_past c.args.most text boundaries c.args.below.now column (column - back - 1) (get_or bytes (get_or boundaries (column - back) 0) 0) c.loop-back.value c.requires.boundaries c.requires.column (omega arith) (byte_at text bytes boundaries column back c.as_bytes-bytes.ensures.value (omega arith))
    (λ low high. absurd (omega (arith, c.if-not-is_ascii_digit.ensures.cases))) (subst (λ k. IsRunTo k c.args.most text boundaries c.args.below.now column c.loop-back.value) (sym (column_up column back (omega arith))) c.loop-back.invariant)

pub returns-in-None : goal.returns-in-None
returns-in-None c =
    let text = c.args.text.now in
    let bytes = c.as_bytes-bytes.result.now in
    let boundaries = c.args.boundaries.now in
    let column = c.args.column in
    let back = c.loop-back.back in
    let more = c.loop-back.value * 10 + (get_or bytes (get_or boundaries (column - back) 0) 0 - 48) in
    let now = digit_read text bytes boundaries column back c.loop-back.value more c.utf8.text c.requires.boundaries c.requires.column c.as_bytes-bytes.ensures.value (omega arith) c.if-not-is_ascii_digit.ensures.cases.0 (omega (arith, c.if-not-is_ascii_digit.ensures.cases.1)) refl c.loop-back.invariant.digits c.loop-back.invariant.value_is in
    run_over c.args.most text boundaries c.args.below.now column (column - back - 1) c.loop-back.value more c.requires.boundaries c.requires.column (omega arith) now c.in-None.ensures
    (subst (λ k. IsRunTo k c.args.most text boundaries c.args.below.now column c.loop-back.value) (sym (column_up column back (omega arith))) c.loop-back.invariant)

pub returns-then-below-column : goal.returns-then-below-column
returns-then-below-column c =
    run_found c.args.most c.args.text.now c.args.boundaries.now c.args.below.now c.args.column (c.args.column - c.loop-back.back - 1) c.in-Some.more c.requires.boundaries c.requires.column (omega arith)
    (digit_read c.args.text.now c.as_bytes-bytes.result.now c.args.boundaries.now c.args.column c.loop-back.back c.loop-back.value c.in-Some.more c.utf8.text c.requires.boundaries c.requires.column c.as_bytes-bytes.ensures.value (omega arith) c.if-not-is_ascii_digit.ensures.cases.0 (omega (arith, c.if-not-is_ascii_digit.ensures.cases.1)) c.in-Some.ensures.0 c.loop-back.invariant.digits c.loop-back.invariant.value_is)
    c.in-Some.ensures.1 c.if-below-column.true

pub loop-back-preserved : goal.loop-back-preserved
loop-back-preserved c =
    let run : IsRunTo (c.args.column - c.loop-back.back - 1 + 1) c.args.most c.args.text.now c.args.boundaries.now c.args.below.now c.args.column c.loop-back.value =
    subst (λ k. IsRunTo k c.args.most c.args.text.now c.args.boundaries.now c.args.below.now c.args.column c.loop-back.value) (sym (column_up c.args.column c.loop-back.back (omega arith))) c.loop-back.invariant in
    let now = digit_read c.args.text.now c.as_bytes-bytes.result.now c.args.boundaries.now c.args.column c.loop-back.back c.loop-back.value c.in-Some.more c.utf8.text c.requires.boundaries c.requires.column c.as_bytes-bytes.ensures.value (omega arith) c.if-not-is_ascii_digit.ensures.cases.0 (omega (arith, c.if-not-is_ascii_digit.ensures.cases.1)) c.in-Some.ensures.0 c.loop-back.invariant.digits c.loop-back.invariant.value_is in
    let at : c.args.column - c.loop-back.back - 1 ≡ c.args.column - (c.loop-back.back + 1) = omega arith in
    subst (λ k. IsRunTo k c.args.most c.args.text.now c.args.boundaries.now c.args.below.now c.args.column c.in-Some.more) at
    (run_more c.args.most c.args.text.now c.args.boundaries.now c.args.below.now c.args.column (c.args.column - c.loop-back.back - 1) c.loop-back.value c.in-Some.more now c.if-below-column.false run)
