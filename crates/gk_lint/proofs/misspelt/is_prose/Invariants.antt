use Rattle.gk_lint.proofs.Common.{◌≡◌, drop, is_prose}
use Rattle.gk_lint.proofs.misspelt.is_prose.Given as goal

abbrev pub invariant-loop-line : goal.invariant-loop-line
invariant-loop-line l = is_prose l.above (drop l.line-index l.below) ≡ is_prose l.fn.above l.below
