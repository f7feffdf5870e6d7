use Rattle.std.proofs.Common.{◌≡◌, length}
use Rattle.gk_tests.proofs.run_tests.selections.Given as goal

-- one choice for each case so far
abbrev pub invariant-loop-case : goal.invariant-loop-case
invariant-loop-case l = length l.selected.items ≡ l.case-index
