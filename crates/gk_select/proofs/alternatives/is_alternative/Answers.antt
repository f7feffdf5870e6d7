use Rattle.gk_select.proofs.Common.{ℕ, List, false, arith, ap, sym, ◌∙◌, is_some, strip_prefix_char, tag_named}
use Rattle.gk_select.proofs.AlternativeWords.{plain_alternative, same_some}
use Rattle.gk_select.proofs.alternatives.is_alternative.Goals as goal

pub returns-in-None : goal.returns-in-None
returns-in-None c =
    let plain = rw c.in-None.is at (strip_prefix_char 126 c.args.text.now c.strip_prefix.result c.strip_prefix.ensures.cases (omega arith)) in
    c.names_tag-in-None.ensures ∙ sym (ap is_some (plain_alternative c.args.text.now plain) ∙ same_some (λ (tag : List ℕ). record { negated = false; tag = tag }) (tag_named c.args.text.now))
