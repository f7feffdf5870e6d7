use Rattle.gk_select.proofs.TagReading.{only_from}
use Rattle.gk_select.proofs.tag_rules.read_tags.Goals as goal

pub returns-clause-only : goal.returns-clause-only
returns-clause-only c = only_from c.args.text.now c.read_either_form.result c.read_either_form.ensures.found c.read_either_form.ensures.fault
