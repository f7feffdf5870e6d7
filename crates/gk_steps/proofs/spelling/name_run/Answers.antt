use Rattle.gk_steps.proofs.Common.{◌≡◌, ap, ◌∙◌, arith, common_steps, prefix_len, is_name_byte}
use Rattle.gk_steps.proofs.SpellingLemmas.{name_boundary, one_name}
use Rattle.gk_steps.proofs.spelling.name_run.Goals as goal

pub range-requires-clause-end_boundary : goal.range-requires-clause-end_boundary
range-requires-clause-end_boundary c = grind (arith, common_steps, name_boundary)

pub range_from-requires : goal.range_from-requires
range_from-requires c = grind (arith, common_steps, name_boundary)

pub returns-clause-only : goal.returns-clause-only
returns-clause-only c =
    let size : c.name_len-end.result ≡ prefix_len is_name_byte c.args.text.now = c.name_len-end.ensures.value ∙ ap (prefix_len is_name_byte) c.as_bytes.ensures.value in
    one_name c.args.text.now c.range.result.now c.range_from.result.now c.name_len-end.result size c.range.ensures.value c.range_from.ensures.value
