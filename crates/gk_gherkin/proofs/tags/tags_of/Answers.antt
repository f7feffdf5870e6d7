use Rattle.gk_gherkin.proofs.Common.{inl, inr, ◌≡◌, ◌<◌, ◌-◌, ◌∙◌, ◌++◌, ◌∷◌, [], ℕ, List, length, take, drop, ap, sym, Ok, arith, common_steps, position_or_len, prefix_len, borrowed_value, is_blank, trim_front, texts, BeginsWithTag, tags_of, words_of, is_tag}
use Rattle.gk_gherkin.proofs.LineCuts.{before_first_blank}
use Rattle.gk_gherkin.proofs.FirstTags.{first_tag, whatever}
use Rattle.gk_gherkin.proofs.TagWords.{onto_tags, tags_by, starts, no_blank_left, takes_tag, refuses_word, some_left}
use Rattle.gk_gherkin.proofs.tags.tags_of.Goals as goal

pub words-init : goal.words-init
words-init c = grind (arith, common_steps, starts, no_blank_left)

pub range-word-requires-clause-end_boundary : goal.range-word-requires-clause-end_boundary
range-word-requires-clause-end_boundary c = grind (arith, common_steps, before_first_blank)

pub range_from-requires : goal.range_from-requires
range_from-requires c = grind (arith, common_steps, before_first_blank)

pub returns-then-not-is_tag-clause-says : goal.returns-then-not-is_tag-clause-says
returns-then-not-is_tag-clause-says c =
    let t = c.words.rest.now in
    let n = c.first_blank-end.result in
    let position = c.first_blank-end.ensures.value ∙ ap (position_or_len is_blank) c.as_bytes.ensures.value in
    let some : 0 < length t = some_left (length t) c.is_empty.result c.is_empty.ensures c.words-test.true in
    let whole : n - 0 ≡ n = omega arith in
    let word : c.range-word.result.now ≡ take n t = c.range-word.ensures.value ∙ ap (λ (k : ℕ). take k t) whole in
    ap Ok (refuses_word (tags_of (borrowed_value c.args.line.now)) t n (texts c.words.tags.items) some c.words.invariant.2 position (sym c.begins.ensures ∙ c.if-not-begins.true) c.words.invariant.1
    (ap is_tag (sym word) ∙ sym c.is_tag.ensures ∙ c.if-not-is_tag.true))

pub words-preserved : goal.words-preserved
words-preserved c =
    let t = c.words.rest.now in
    let n = c.first_blank-end.result in
    let position = c.first_blank-end.ensures.value ∙ ap (position_or_len is_blank) c.as_bytes.ensures.value in
    let some : 0 < length t = some_left (length t) c.is_empty.result c.is_empty.ensures c.words-test.true in
    let whole : n - 0 ≡ n = omega arith in
    let word : c.range-word.result.now ≡ take n t = c.range-word.ensures.value ∙ ap (λ (k : ℕ). take k t) whole in
    let next : c.trim_front-rest-in-words.result.now ≡ trim_front (drop n t) = c.trim_front-rest-in-words.ensures ∙ ap trim_front c.range_from.ensures.value in
    let pushed : texts c.push_tag.new.tags.items ≡ texts c.words.tags.items ++ take n t ∷ [] = c.in_ok-push_tag.ensures.pushed ∙ ap (λ (w : List ℕ). texts c.words.tags.items ++ w ∷ []) word in (
      c.trim_front-rest-in-words.utf8,
      takes_tag (tags_of (borrowed_value c.args.line.now)) t n (texts c.words.tags.items) some c.words.invariant.2 position (sym c.begins.ensures ∙ c.if-not-begins.true) c.words.invariant.1
          (ap is_tag (sym word) ∙ sym c.is_tag.ensures ∙ c.if-not-is_tag.false)
          ∙ ap (λ (xs : List (List ℕ)). onto_tags xs (tags_by (words_of (trim_front (drop n t))))) (sym pushed)
          ∙ ap (λ (r : List ℕ). onto_tags (texts c.push_tag.new.tags.items) (tags_by (words_of r))) (sym next),
      ap (prefix_len is_blank) next ∙ no_blank_left (drop n t),
      elim c.words.invariant.3 [
        | inl begun ↦ inl begun
        | inr start ↦ inl (first_tag (borrowed_value c.args.line.now) t n start some c.words.invariant.2 position (sym c.begins.ensures ∙ c.if-not-begins.true) (ap is_tag (sym word) ∙ sym c.is_tag.ensures ∙ c.if-not-is_tag.false))
      ],
    )

pub returns-in_err-push_tag-clause-memory : goal.returns-in_err-push_tag-clause-memory
returns-in_err-push_tag-clause-memory c =
    let t = c.words.rest.now in
    let n = c.first_blank-end.result in
    let position = c.first_blank-end.ensures.value ∙ ap (position_or_len is_blank) c.as_bytes.ensures.value in
    let some : 0 < length t = some_left (length t) c.is_empty.result c.is_empty.ensures c.words-test.true in
    let whole : n - 0 ≡ n = omega arith in
    let word : c.range-word.result.now ≡ take n t = c.range-word.ensures.value ∙ ap (λ (k : ℕ). take k t) whole in
    whatever c.from_residual.result (BeginsWithTag (borrowed_value c.args.line.now)) (elim c.words.invariant.3 [
      | inl begun ↦ begun
      | inr start ↦ first_tag (borrowed_value c.args.line.now) t n start some c.words.invariant.2 position (sym c.begins.ensures ∙ c.if-not-begins.true) (ap is_tag (sym word) ∙ sym c.is_tag.ensures ∙ c.if-not-is_tag.false)
    ])
