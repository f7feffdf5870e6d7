use Rattle.gk_world.proofs.SandboxLemmas.{new_sound}
use Rattle.gk_world.proofs.sandbox.Sandbox.new.Goals as goal

pub invariant_of-result : goal.invariant_of-result
invariant_of-result c = new_sound c.new.result c.new-2.result c.new.ensures.files c.new.ensures.env c.new.ensures.values c.new-2.ensures
