use Rattle.gk_select.proofs.TagStopLemmas.{no_stop}
use Rattle.gk_select.proofs.tag_stops.tag_stop.Goals as goal

pub returns-then-has_new_form-clause-none : goal.returns-then-has_new_form-clause-none
returns-then-has_new_form-clause-none c = no_stop c.args.text.now

pub returns-else-has_new_form-clause-none : goal.returns-else-has_new_form-clause-none
returns-else-has_new_form-clause-none c = no_stop c.args.text.now
