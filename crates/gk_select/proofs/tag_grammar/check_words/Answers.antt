use Rattle.gk_select.proofs.Common.{◌≡◌, ℕ, map, drop, refl, sym, ap, ◌∙◌, arith, inl, inr, err_from_is_err_and, word_value, measure_of, built_value}
use Rattle.gk_select.proofs.TagDepths.{accepted, refused, before_errs}
use Rattle.gk_select.proofs.tag_grammar.check_words.Goals as goal
use Rattle.gk_select.proofs.tag_grammar.check_words.Goals.{else-len-eq0-via-then-len-eq0+else-max-le-DEPTH_LIMIT, else-len-eq0-via-else-len-eq0}

pub returns-in_err-built-clause-fault : goal.returns-in_err-built-clause-fault
returns-in_err-built-clause-fault c =
    let p = err_from_is_err_and c.from_residual.result c.from_residual.ensures.1 in
    rw (p.1, p.2) (before_errs c.args.words.now c.loop-at.at c.index-words-at.result (built_value c.loop-at.built) (omega arith) (omega arith) c.index-words-at.is c.loop-at.invariant.built c.in_err-built.field-0.0 c.in_err-built.ensures)

pub returns-in-None-clause-fault : goal.returns-in-None-clause-fault
returns-in-None-clause-fault c =
    let none : c.loop-at.at ≡ 0 = omega arith in
    let whole = ap (λ (k : ℕ). measure_of (map word_value (drop k c.args.words.now))) (sym none) ∙ c.loop-at.invariant.built in
    inr (refl, refused (map word_value c.args.words.now) (built_value c.loop-at.built) whole (inl c.in-None.is))

pub returns-then-max-le-DEPTH_LIMIT-clause-found : goal.returns-then-max-le-DEPTH_LIMIT-clause-found
returns-then-max-le-DEPTH_LIMIT-clause-found c =
    let none : c.loop-at.at ≡ 0 = omega arith in
    let whole = ap (λ (k : ℕ). measure_of (map word_value (drop k c.args.words.now))) (sym none) ∙ c.loop-at.invariant.built in
    accepted (map word_value c.args.words.now) (built_value c.loop-at.built) c.in-Some.factor whole c.in-Some.is (omega arith) (omega arith)

pub returns-clause-fault : goal.returns-clause-fault
returns-clause-fault c =
    let none : c.loop-at.at ≡ 0 = omega arith in
    let whole = ap (λ (k : ℕ). measure_of (map word_value (drop k c.args.words.now))) (sym none) ∙ c.loop-at.invariant.built in
    inr (
      refl,
      refused (map word_value c.args.words.now) (built_value c.loop-at.built) whole (inr (
        c.in-Some.factor,
        c.in-Some.is,
        λ empty low.
            elim c.else-len-eq0.branch [ else-len-eq0-via-then-len-eq0+else-max-le-DEPTH_LIMIT w ↦ omega arith | else-len-eq0-via-else-len-eq0 w ↦ omega arith ],
      )),
    )
