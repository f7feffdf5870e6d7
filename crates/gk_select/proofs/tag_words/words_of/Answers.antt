use Rattle.gk_select.proofs.Common.{◌≡◌, ◌-◌, ℕ, map, take, Option, IsSome, refl, ap, sym, subst, ◌∙◌, arith, common_steps, nat_tests, err_from_is_err_and, WordValue, word_value}
use Rattle.gk_select.proofs.TagTextWords.{ends, word_fails, word_needs_memory, word_lacks_memory}
use Rattle.gk_select.proofs.tag_words.words_of.Goals as goal

pub returns-clause-found : goal.returns-clause-found
returns-clause-found c = grind (arith, common_steps, nat_tests, ends)

pub returns-in_err-word_said-clause-fault : goal.returns-in_err-word_said-clause-fault
returns-in_err-word_said-clause-fault c =
    let p = err_from_is_err_and c.from_residual.result c.from_residual.ensures.1 in
    let n = c.word_end-end.result in
    let all : n - 0 ≡ n = omega arith in
    rw (p.1, p.2) (word_fails c.args.text.now (map word_value c.words.words.items) c.words.rest.now c.as_bytes.result.now c.as_bytes-in-words.result.now c.range.result.now n c.is_blank.result
    (record { bytes_are = c.as_bytes.ensures.value; again_are = c.as_bytes-in-words.ensures.value; cut = c.word_end-end.ensures.word; tested = c.is_blank.ensures })
    c.if-not-is_blank.true (c.range.ensures.value ∙ ap (λ (k : ℕ). take k c.words.rest.now) all) c.words.invariant.1 c.in_err-word_said.field-0.0 c.in_err-word_said.ensures)

pub returns-in_err-word_said-clause-memory : goal.returns-in_err-word_said-clause-memory
returns-in_err-word_said-clause-memory c = grind (arith, common_steps, err_from_is_err_and, word_lacks_memory)

pub returns-in_err-push-clause-memory : goal.returns-in_err-push-clause-memory
returns-in_err-push-clause-memory c =
    let n = c.word_end-end.result in
    let all : n - 0 ≡ n = omega arith in
    λ _. word_needs_memory c.args.text.now (map word_value c.words.words.items) c.words.rest.now c.as_bytes.result.now c.as_bytes-in-words.result.now c.range.result.now n c.is_blank.result
    (record { bytes_are = c.as_bytes.ensures.value; again_are = c.as_bytes-in-words.ensures.value; cut = c.word_end-end.ensures.word; tested = c.is_blank.ensures })
    c.if-not-is_blank.true (c.range.ensures.value ∙ ap (λ (k : ℕ). take k c.words.rest.now) all) c.words.invariant.1 (subst (λ (o : Option WordValue). IsSome o) (sym c.in_ok-word_said.ensures) refl)
