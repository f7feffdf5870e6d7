use Rattle.gk_explain.proofs.Common.{◌∙◌, ◌++◌, ℤ, string_bytes, ap, to_z-of_z, expected_number}
use Rattle.gk_explain.proofs.details.push_expected.Goals as goal

pub returns : goal.returns
unfolding expected_number
returns c = c.in_ok-write.ensures.bytes ∙ ap (λ (n : ℤ). string_bytes c.args.out.now ++ expected_number n) (to_z-of_z c.ranges.number)
