use Rattle.gk_select.proofs.Common.{List, ℕ, Global, false, arith, err_from_is_err_and, strip_prefix_char, string_bytes, alternative_value}
use Rattle.gk_select.proofs.AlternativeWords.{plain_alternative, handed_on}
use Rattle.gk_select.proofs.alternatives.read_alternative.Goals as goal

pub returns-in_err-tag_named-in-None : goal.returns-in_err-tag_named-in-None
returns-in_err-tag_named-in-None c =
    let p = err_from_is_err_and c.from_residual-in_err-tag_named-in-None.result c.from_residual-in_err-tag_named-in-None.ensures.1 in
    let plain = rw c.in-None.is at (strip_prefix_char 126 c.args.text.now c.strip_prefix.result c.strip_prefix.ensures.cases (omega arith)) in
    rw (p.1, p.2) (handed_on (string_bytes {Z = Global}) alternative_value (λ (tag : List ℕ). record { negated = false; tag = tag }) c.in_err-tag_named-in-None.field-0.0 _ _ (plain_alternative c.args.text.now plain) c.in_err-tag_named-in-None.ensures)
