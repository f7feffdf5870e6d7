use Rattle.gk_world.proofs.Common.{arith, ◌∙◌, common_steps}
use Rattle.gk_world.proofs.SandboxLemmas.{mark_within, fit_since, ended_sound, ended, ended_undone}
use Rattle.gk_world.proofs.sandbox.Sandbox.end.Goals as goal

pub rewind-requires-clause-count : goal.rewind-requires-clause-count
rewind-requires-clause-count c = grind (arith, common_steps, mark_within)

pub rewind-requires-clause-fit : goal.rewind-requires-clause-fit
rewind-requires-clause-fit c = grind (arith, common_steps, fit_since)

pub invariant_of-self : goal.invariant_of-self
invariant_of-self c =
    let i = c.self.inside in
    let r = c.rewind.ensures in
    ended_sound i.world i.journal i.depth c.layer.inside.number i.starts c.args.self.now c.self.view_is (c.layer.view_is ∙ c.requires) c.layer.invariant c.self.invariant c.rewind.new.on c.rewind.new.self r.slots r.entries

pub returns-clause-ends : goal.returns-clause-ends
returns-clause-ends c =
    let i = c.self.inside in
    let r = c.rewind.ensures in
    ended i.world i.journal i.depth c.layer.inside.number i.starts c.args.self.now c.self.view_is (c.layer.view_is ∙ c.requires) c.layer.invariant c.self.invariant c.rewind.new.on c.rewind.new.self r.slots r.entries

pub returns-clause-undone : goal.returns-clause-undone
returns-clause-undone c = grind (arith, common_steps, ended_undone)
