use Rattle.gk_explain.proofs.Common.{items_from_collect, YieldsList-from_chars, YieldsList-from_skip, YieldsList-from_take}
use Rattle.gk_explain.proofs.shown.window.Goals as goal

pub returns : goal.returns
returns c = items_from_collect c.collect.result c.collect.ensures.ran (YieldsList-from_take 60 (YieldsList-from_skip c.args.before (YieldsList-from_chars c.args.line.now c.utf8.line cc) cc) c.take.ensures.count)
