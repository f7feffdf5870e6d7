use Rattle.gk_explain.proofs.Common.{◌∙◌, ◌++◌, ℤ, string_bytes, ap, to_z-of_z, added_number}
use Rattle.gk_explain.proofs.details.push_added.Goals as goal

pub returns : goal.returns
unfolding added_number
returns c = c.in_ok-write.ensures.bytes ∙ ap (λ (n : ℤ). string_bytes c.args.out.now ++ added_number n) (to_z-of_z c.ranges.number)
