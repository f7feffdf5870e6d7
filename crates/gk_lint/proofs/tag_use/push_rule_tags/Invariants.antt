use Rattle.gk_lint.proofs.Common.{◌≡◌, ◌++◌, map, drop, rule_value, tags_of_rules}
use Rattle.gk_lint.proofs.tag_use.push_rule_tags.Given as goal

abbrev pub invariant-loop-rule : goal.invariant-loop-rule
invariant-loop-rule l = map (λ t. t.now) l.all.items ++ tags_of_rules (map rule_value (drop l.rule-index l.rules)) ≡ map (λ t. t.now) l.fn.all.items ++ tags_of_rules (map rule_value l.rules)
