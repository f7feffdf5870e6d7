use Rattle.gk_io.proofs.Common.{arith, common_steps}
use Rattle.gk_io.proofs.CountedLemmas.{Appends-after}
use Rattle.gk_io.proofs.counted.write_whole.Goals as goal

pub loop-done-preserved : goal.loop-done-preserved
loop-done-preserved g c = grind (arith, common_steps, Appends-after)
