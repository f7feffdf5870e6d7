use Rattle.gk_steps.proofs.Common.{map, piece_value}
use Rattle.gk_steps.proofs.LeftmostLemmas.{literal_end}
use Rattle.gk_steps.proofs.leftmost.literal_end.Goals as goal

pub returns-then-begins_with : goal.returns-then-begins_with
returns-then-begins_with c = literal_end c.args.literal.now (map piece_value c.args.after.now) c.args.text.now c.if-begins_with.ensures.0 c.utf8.text c.utf8.literal c.if-begins_with.ensures.1
