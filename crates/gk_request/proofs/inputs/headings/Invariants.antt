use Rattle.gk_request.proofs.Common.{◌≡◌, ◌++◌, map, into_iter_items, rule_value, untagged_rule, head_value, head_of}
use Rattle.gk_request.proofs.inputs.headings.Given as goal

-- the headings and the rules so far, and those of the rules that are left
abbrev pub invariant-loop-rule : goal.invariant-loop-rule
invariant-loop-rule l = record {
  headings : map head_value l.headings.items ++ map head_of (map rule_value (into_iter_items l.rule-iterator)) ≡ map head_of (map rule_value l.fn.rules.items);
  left : map rule_value l.untagged.items ++ map untagged_rule (map rule_value (into_iter_items l.rule-iterator)) ≡ map untagged_rule (map rule_value l.fn.rules.items);
}
