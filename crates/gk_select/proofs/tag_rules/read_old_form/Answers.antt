use Rattle.gk_select.proofs.Common.{err_from_is_err_and}
use Rattle.gk_select.proofs.TagReading.{no_alternatives}
use Rattle.gk_select.proofs.tag_rules.read_old_form.Goals as goal

pub returns-in_err-words-clause-fault : goal.returns-in_err-words-clause-fault
returns-in_err-words-clause-fault c =
    let p = err_from_is_err_and c.from_residual.result c.from_residual.ensures.1 in
    rw (p.1, p.2) (no_alternatives c.args.text.now c.requires c.in_err-words.field-0.0 c.in_err-words.ensures.fault)
