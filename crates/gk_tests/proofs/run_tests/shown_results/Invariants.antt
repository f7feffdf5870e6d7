use Rattle.std.proofs.Common.{◌≡◌, []}
use Rattle.gk_tests.proofs.run_tests.shown_results.Given as goal

-- no layer is open
abbrev pub invariant-loop-case : goal.invariant-loop-case
invariant-loop-case l = l.sandbox.saved ≡ []
