use Rattle.gk_steps.proofs.UsedFieldsLemmas.{joined_first}
use Rattle.gk_steps.proofs.used_fields.FirstFieldsCaptures.join.Goals as goal

pub returns : goal.returns
returns c = λ ps qs before after h k. joined_first ps qs before after c.args.self.now c.args.later c.joined.result c.joined.ensures h k
