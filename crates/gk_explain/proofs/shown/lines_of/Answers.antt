use Rattle.gk_explain.proofs.Common.{arith, map_from_collect, YieldsList-from_str_split}
use Rattle.gk_explain.proofs.shown.lines_of.Goals as goal

pub returns : goal.returns
returns c = map_from_collect _ c.collect.ensures.ran (YieldsList-from_str_split 10 c.args.text.now (omega arith) c.split.ensures.text c.split.ensures.has_more c.split.ensures.pattern)
