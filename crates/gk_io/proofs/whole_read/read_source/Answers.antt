use Rattle.gk_io.proofs.Common.{arith, rules, common_steps}
use Rattle.gk_io.proofs.WholeReadLemmas.{given_within, stops_after}
use Rattle.gk_io.proofs.whole_read.read_source.Goals as goal

pub returns-clause-long : goal.returns-clause-long
returns-clause-long g c = grind (arith, common_steps, stops_after)

pub returns-then-is_err-clause-given : goal.returns-then-is_err-clause-given
returns-then-is_err-clause-given g c =
    given_within 16777217 _ _ _ c.loop-piece.bytes.items _ c.in-Ok.n c.min-room.result c.loop-piece.invariant.taken c.in-Ok.ensures.bytes.0 (search rules) (omega (arith, c.len.ensures, c.len-in-loop-piece.ensures, c.min-room.ensures, c.loop-piece-test.true))
