use Rattle.gk_explain.proofs.Common.{IsUtf8-past_char, arith, common_steps}
use Rattle.gk_explain.proofs.DifferencesLemmas.{no_chars, none_found, same_here, other_here, closer}
use Rattle.gk_explain.proofs.differences.first_difference.Goals as goal

pub returns-in_default : goal.returns-in_default
returns-in_default c = grind (arith, common_steps, no_chars, none_found)

pub returns-then-other-c : goal.returns-then-other-c
returns-then-other-c c =
    let held = c.loop-c.invariant in
    other_here c.loop-c.position _ c.in-Some.c c.in-Some-next.other _ _ _ _ held.0 held.1 c.in-Some.ensures.steps.0 c.in-Some-next.ensures.steps.0 c.if-other-c.true held.4

pub loop-c-preserved : goal.loop-c-preserved
loop-c-preserved c =
    let held = c.loop-c.invariant in
    let near = closer c.loop-c.position c.in-Some.c _ _ _ held.2 held.3 c.in-Some.ensures.steps.0 in (
      IsUtf8-past_char _ _ c.in-Some.c held.0 c.in-Some.ensures.steps.0,
      IsUtf8-past_char _ _ c.in-Some-next.other held.1 c.in-Some-next.ensures.steps.0,
      rw c.after-position.ensures near.0,
      rw c.after-position.ensures near.1,
      rw c.after-position.ensures (same_here c.loop-c.position _ c.in-Some.c c.in-Some-next.other _ _ _ _ held.0 held.1 c.in-Some.ensures.steps.0 c.in-Some-next.ensures.steps.0 c.if-other-c.false held.4),
    )

pub returns : goal.returns
returns c = grind (arith, common_steps, no_chars)
