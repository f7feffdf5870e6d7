use Rattle.gk_gherkin.proofs.Common.{option_copied, hook_value, is_for, IsFirst}
use Rattle.gk_gherkin.proofs.hook_index.first_position.Given as goal

abbrev pub invariant-loop-k : goal.invariant-loop-k
invariant-loop-k l = IsFirst (λ hook. is_for (hook_value hook) l.kind (option_copied l.tag)) l.hooks l.positions l.k l.first
