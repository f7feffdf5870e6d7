use Rattle.gk_lint.proofs.Common.{IsNonDecreasingBy-from_sort, arith, common_steps}
use Rattle.gk_lint.proofs.RisingNumbers.{same_among}
use Rattle.gk_lint.proofs.number_sets.rising.Goals as goal

pub returns-clause-rising : goal.returns-clause-rising
returns-clause-rising c = IsNonDecreasingBy-from_sort (λ x. x) c.sort_unstable.new.self.items c.sort_unstable.ensures.sorted

pub returns-clause-same : goal.returns-clause-same
returns-clause-same c = grind (arith, common_steps, same_among)
