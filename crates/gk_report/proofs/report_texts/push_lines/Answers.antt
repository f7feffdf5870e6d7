use Rattle.gk_report.proofs.Common.{◌∷◌, [], rules, ap, ◌∙◌, arith, common_steps, one_line}
use Rattle.gk_report.proofs.PushLemmas.{cut, uncut, pushed, one_line_to, one_line_end, one_line_feed}
use Rattle.gk_report.proofs.report_texts.push_lines.Goals as goal

pub loop-line-preserved : goal.loop-line-preserved
loop-line-preserved c =
    let p = cut 10 c.loop-line.rest.now c.split_once.result c.split_once.ensures.cases (omega arith) (c.in-Some.line, c.in-Some.after) c.in-Some.is in
    let e = ap one_line p.0 ∙ one_line_to c.in-Some.line.now _ p.1 in
    (search rules, pushed _ (92 ∷ 110 ∷ []) _ c.in_ok-push_str-2.ensures.bytes (one_line_feed c.in-Some.after.now) (pushed _ _ _ c.in_ok-push_str.ensures.bytes e c.loop-line.invariant.1))

pub returns : goal.returns
returns c = grind (arith, common_steps, one_line_end, uncut)
