use Rattle.gk_world.proofs.Common.{arith, common_steps}
use Rattle.gk_world.proofs.SandboxLemmas.{depth_is, begun_sound, begun_value}
use Rattle.gk_world.proofs.sandbox.Sandbox.begin.Goals as goal

pub offset_bounds-self-inside-self-inside : goal.offset_bounds-self-inside-self-inside
offset_bounds-self-inside-self-inside c = let i = c.self.inside in omega (arith, depth_is i.world i.journal i.depth i.starts c.args.self.now c.self.view_is)

pub bounds-self-inside-self-inside : goal.bounds-self-inside-self-inside
bounds-self-inside-self-inside c = let i = c.self.inside in omega (arith, depth_is i.world i.journal i.depth i.starts c.args.self.now c.self.view_is)

pub overflow_add-self : goal.overflow_add-self
overflow_add-self c = let i = c.self.inside in omega (arith, depth_is i.world i.journal i.depth i.starts c.args.self.now c.self.view_is)

pub invariant_of-self : goal.invariant_of-self
invariant_of-self c =
    let i = c.self.inside in
    begun_sound i.world i.journal i.depth c.len.result i.starts c.args.self.now c.self.view_is c.requires (omega arith) c.len.ensures c.self.invariant

pub returns-clause-ok : goal.returns-clause-ok
returns-clause-ok c = grind (arith, common_steps, begun_value)
