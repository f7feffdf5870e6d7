use Rattle.gk_steps.proofs.Common.{option_map, ap, ◌∙◌, action_row_value}
use Rattle.gk_steps.proofs.ActionLemmas.{values_found}
use Rattle.gk_steps.proofs.action.row_in.Goals as goal

pub returns : goal.returns
returns c = ap (option_map action_row_value) (c.copied.ensures ∙ c.first_named.ensures) ∙ values_found c.args.name.now c.args.rows.now
