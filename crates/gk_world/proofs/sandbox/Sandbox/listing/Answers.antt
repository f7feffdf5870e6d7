use Rattle.gk_world.proofs.Common.{arith, common_steps}
use Rattle.gk_world.proofs.SandboxLemmas.{length-open_starts}
use Rattle.gk_world.proofs.sandbox.Sandbox.listing.Goals as goal

pub listing-requires : goal.listing-requires
listing-requires c = let i = c.self.inside in omega (arith, length-open_starts i.depth i.starts, c.self.invariant.room)

pub returns : goal.returns
returns c = grind (arith, common_steps, length-open_starts)
