use Rattle.gk_explain.proofs.Common.{sym, ◌∙◌, append_assoc, append-nil, IsUtf8-past_char}
use Rattle.gk_explain.proofs.ShownLemmas.{shown_none, shown_first}
use Rattle.gk_explain.proofs.shown.push_text_as.Goals as goal

pub loop-c-preserved : goal.loop-c-preserved
loop-c-preserved c =
    let held = c.loop-c.invariant in
    let parts = c.in-Some.ensures.steps.0 in
    let first = shown_first c.args.form c.loop-c.before _ _ c.in-Some.c held.0 parts in
    (IsUtf8-past_char _ _ c.in-Some.c held.0 parts, rw (c.in_ok-push_char_after.ensures, c.past_char-before.ensures, append_assoc) (rw first at held.1))

pub returns : goal.returns
returns c = sym (append-nil _) ∙ rw (shown_none c.args.form c.loop-c.before _ c.in-None.ensures.steps.0.0) at c.loop-c.invariant.1
