use Rattle.std.proofs.Common.{◌≡◌, ◌+◌, length}
use Rattle.gk_tests.proofs.run_tests.heads_of.Given as goal

-- the headings so far, and the rules that are left
abbrev pub invariant-loop-rule : goal.invariant-loop-rule
invariant-loop-rule l = length l.heads.items + length l.rule-iterator.rest.items ≡ length l.fn.rules.items
