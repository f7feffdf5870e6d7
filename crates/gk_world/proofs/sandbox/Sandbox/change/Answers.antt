use Rattle.gk_world.proofs.Common.{arith, sym, subst, common_steps, IsHere, open_starts}
use Rattle.gk_world.proofs.SandboxLemmas.{length-open_starts, depth_is, unrecorded_sound, applies, recorded_value, recorded_sound, recorded_answer}
use Rattle.gk_world.proofs.sandbox.Sandbox.change.Goals as goal

pub change-answer-requires : goal.change-answer-requires
change-answer-requires c = grind (arith, common_steps, applies)

pub returns-clause-answer : goal.returns-clause-answer
returns-clause-answer c = grind (arith, common_steps, recorded_answer, length-open_starts)

pub returns-clause-ok : goal.returns-clause-ok
returns-clause-ok c = grind (arith, common_steps, recorded_value, length-open_starts)

pub invariant_of-self : goal.invariant_of-self
invariant_of-self c =
    let i = c.self.inside in
    unrecorded_sound c.args.change i.world c.apply.new.self i.journal i.depth i.starts c.if-self-eq0.true c.apply.result
    (subst (IsHere c.args.change) (sym (depth_is i.world i.journal i.depth i.starts c.args.self.now c.self.view_is)) c.requires.here)
    c.self.invariant c.apply.ensures.done c.apply.ensures.err

pub invariant_of-self-then-self-eq0 : goal.invariant_of-self-then-self-eq0
invariant_of-self-then-self-eq0 c =
    let i = c.self.inside in
    unrecorded_sound c.args.change i.world c.apply.new.self i.journal i.depth i.starts c.if-self-eq0.true c.apply.result
    (subst (IsHere c.args.change) (sym (depth_is i.world i.journal i.depth i.starts c.args.self.now c.self.view_is)) c.requires.here)
    c.self.invariant c.apply.ensures.done c.apply.ensures.err

pub invariant_of-self-2 : goal.invariant_of-self-2
invariant_of-self-2 c =
    let i = c.self.inside in
    let r = c.change-answer.ensures in
    recorded_sound c.args.change i.world i.journal (open_starts i.depth i.starts) c.args.self.now c.self.view_is c.requires.here c.self.invariant (omega (arith, length-open_starts i.depth i.starts)) c.change-answer.new.on c.change-answer.new.self c.change-answer.result r.done r.recorded r.err
