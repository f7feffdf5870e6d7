use Rattle.gk_gherkin.proofs.Common.{length, ap, ◌∙◌, arith, common_steps, YieldsList-from_lines, YieldsList-turn, YieldsList-end, err_from_is_err_and, lines, map_push, length_push, length-map, numbered_from}
use Rattle.gk_gherkin.proofs.LineNumbering.{numbered_from-push, numbered_from-some}
use Rattle.gk_gherkin.proofs.lines.lines_from.Goals as goal

pub loop-part-preserved : goal.loop-part-preserved
loop-part-preserved c = grind (arith, common_steps, length-map, map_push, numbered_from-push, length_push)

pub returns-clause-ok : goal.returns-clause-ok
returns-clause-ok c =
    let t = YieldsList-end (YieldsList-from_lines c.args.text.now cc) c.loop-part.yielded _ c.loop-part.yielded_by _ _ c.in-None.is c.next.ensures.steps in
    c.loop-part.invariant.0 ∙ ap (numbered_from 1) t.0

pub returns-in_err-line_from-clause-memory : goal.returns-in_err-line_from-clause-memory
returns-in_err-line_from-clause-memory c =
    let p = err_from_is_err_and c.from_residual.result c.from_residual.ensures.1 in
    let turn = YieldsList-turn (YieldsList-from_lines c.args.text.now cc) c.loop-part.yielded _ c.loop-part.yielded_by _ _ _ c.in-Some.is c.next.ensures.steps in
    rw p.1 (numbered_from-some 1 (lines c.args.text.now) (length c.loop-part.yielded) turn.0)

pub returns-in_err-push-clause-memory : goal.returns-in_err-push-clause-memory
returns-in_err-push-clause-memory c =
    let p = err_from_is_err_and c.from_residual-in_err-push.result c.from_residual-in_err-push.ensures.1 in
    let turn = YieldsList-turn (YieldsList-from_lines c.args.text.now cc) c.loop-part.yielded _ c.loop-part.yielded_by _ _ _ c.in-Some.is c.next.ensures.steps in
    rw p.1 (numbered_from-some 1 (lines c.args.text.now) (length c.loop-part.yielded) turn.0)
