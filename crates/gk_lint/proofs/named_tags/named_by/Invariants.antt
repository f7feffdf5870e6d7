use Rattle.gk_lint.proofs.Common.{◌≡◌, ◌++◌, map, drop, named_by}
use Rattle.gk_lint.proofs.named_tags.named_by.Given as goal

abbrev pub invariant-loop-rule : goal.invariant-loop-rule
invariant-loop-rule l = map (λ t. t.now) l.named.items ++ named_by (drop l.rule-index l.rules) ≡ named_by l.rules
