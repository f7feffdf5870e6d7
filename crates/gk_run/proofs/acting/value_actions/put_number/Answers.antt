use Rattle.gk_run.proofs.Common.{signed_decimal, ◌∙◌, ap, to_z-of_z, state_of}
use Rattle.gk_run.proofs.ActingLemmas.{number_acted}
use Rattle.gk_run.proofs.acting.value_actions.put_number.Goals as goal

pub returns-in-Ok : goal.returns-in-Ok
returns-in-Ok c = number_acted (state_of c.args.sandbox.now.now) c.args.name.now c.as_str.result.now c.args.number _ _ _ c.requires.good c.ranges.number (c.as_str.ensures.value ∙ c.in-Ok.ensures.ok ∙ ap signed_decimal (to_z-of_z c.ranges.number)) c.set.ensures
