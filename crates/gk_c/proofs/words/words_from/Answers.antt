use Rattle.std.proofs.Common.{◌∙◌, ◌+◌, ◌++◌, ◌∷◌, [], ap, drop, map, string_bytes}
use Rattle.gk_c.specs.Words.{text_value}
use Rattle.gk_c.proofs.CallLemmas.{bad_here, good_here, one_more}
use Rattle.gk_c.proofs.words.words_from.Goals as goal

pub returns-in_default-from_utf8 : goal.returns-in_default-from_utf8
returns-in_default-from_utf8 c = bad_here c.args.arguments.now c.loop-argument.argument-index _ c.loop-argument-test.true c.in_default-from_utf8.ensures.cases.0

pub loop-argument-preserved : goal.loop-argument-preserved
loop-argument-preserved c =
    let arguments = c.args.arguments.now in
    let i = c.loop-argument.argument-index in
    let words = map string_bytes c.loop-argument.words.items in
    let read = c.in-Ok-from_utf8.ensures.cases in
    record {
      copied = ap (λ l. l ++ map text_value (drop (i + 1) arguments)) (c.in-Ok-add_word.ensures ∙ ap (λ t. words ++ t ∷ []) read.0) ∙ one_more arguments i _ c.loop-argument-test.true words ∙ c.loop-argument.invariant.copied;
      good = λ later. c.loop-argument.invariant.good (good_here arguments i _ c.loop-argument-test.true read.1 later);
    }
