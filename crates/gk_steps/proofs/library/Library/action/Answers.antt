use Rattle.gk_steps.proofs.Common.{map, field_value}
use Rattle.gk_steps.proofs.library.Library.action.Goals as goal

pub returns : goal.returns
returns c = c.action_at.ensures (map field_value c.args.found.now.fields.items)
