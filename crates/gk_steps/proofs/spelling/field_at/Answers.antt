use Rattle.gk_steps.proofs.SpellingLemmas.{no_field}
use Rattle.gk_steps.proofs.spelling.field_at.Goals as goal

pub returns-in-None : goal.returns-in-None
returns-in-None c = no_field c.args.text.now c.in_ok-body.body.now c.name_run.result.0.now c.name_run.result.1.now c.in_ok-body.ensures.found c.name_run.ensures.only c.in-None.ensures.only
