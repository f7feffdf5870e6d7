use Rattle.gk_steps.proofs.Common.{◌-◌, IsReachTo}
use Rattle.gk_steps.proofs.digits.longest_digits.Given as goal

abbrev pub invariant-loop-back : goal.invariant-loop-back
invariant-loop-back l = IsReachTo (l.column - l.back) l.most l.text l.boundaries l.below l.column l.value l.longest
