use Rattle.gk_steps.proofs.Common.{◌-◌, IsRunTo}
use Rattle.gk_steps.proofs.digits.has_digits.Given as goal

abbrev pub invariant-loop-back : goal.invariant-loop-back
invariant-loop-back l = IsRunTo (l.column - l.back) l.most l.text l.boundaries l.below l.column l.value
