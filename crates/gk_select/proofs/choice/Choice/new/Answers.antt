use Rattle.gk_select.proofs.Common.{IsNonDecreasingBy-from_sort}
use Rattle.gk_select.proofs.ChosenLines.{same_choice}
use Rattle.gk_select.proofs.choice.Choice.new.Goals as goal

pub invariant_of-result : goal.invariant_of-result
invariant_of-result c = IsNonDecreasingBy-from_sort (λ x. x) c.sort_unstable.new.self.items c.sort_unstable.ensures.sorted

pub returns : goal.returns
returns c = same_choice c.args.rules.items c.args.lines.items c.sort_unstable.new.self.items c.sort_unstable.ensures.permutation
