use Rattle.gk_steps.proofs.Common.{arith, common_steps}
use Rattle.gk_steps.proofs.NumberLemmas.{is_plus, is_minus, number_signed, bare_at, not_byte}
use Rattle.gk_steps.proofs.digits.has_number.Goals as goal

pub returns-then-byte-eq43 : goal.returns-then-byte-eq43
returns-then-byte-eq43 c = grind (arith, common_steps, number_signed, is_plus)

pub returns-then-byte-eq45 : goal.returns-then-byte-eq45
returns-then-byte-eq45 c = grind (arith, common_steps, number_signed, is_minus)

pub returns : goal.returns
returns c = grind (arith, common_steps, bare_at, not_byte)
