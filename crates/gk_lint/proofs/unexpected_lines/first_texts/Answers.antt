use Rattle.gk_lint.proofs.Common.{◌∙◌, map, sym, ap, take-map}
use Rattle.gk_lint.proofs.unexpected_lines.first_texts.Goals as goal

pub returns : goal.returns
returns c = ap (map (λ text. text.now)) c.front.ensures ∙ sym (take-map (λ text. text.now) c.args.len c.args.texts.now)
