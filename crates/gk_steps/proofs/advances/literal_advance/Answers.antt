use Rattle.gk_steps.proofs.Common.{◌∙◌, drop, get_or}
use Rattle.gk_steps.proofs.AdvanceLemmas.{literal_cut}
use Rattle.gk_steps.proofs.advances.literal_advance.Goals as goal

pub returns-in_err-rest : goal.returns-in_err-rest
returns-in_err-rest c = rw c.from_residual.ensures (λ d s.
    c.in_err-rest.ensures.only (drop (get_or c.args.boundaries.now d 0) c.args.text.now) (c.range_from.ensures.value ∙ literal_cut c.args.literal.now c.args.text.now c.args.boundaries.now c.args.below.now c.args.column d c.requires.boundaries c.requires.column s))
