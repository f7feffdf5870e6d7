use Rattle.gk_lint.proofs.Common.{◌≡◌, ◌++◌, map, drop, rule_value, of_rules, finding_values, found_in, used_in}
use Rattle.gk_lint.proofs.written_steps.add_rules.Given as goal

abbrev pub invariant-loop-rule : goal.invariant-loop-rule
invariant-loop-rule l = record {
  found : finding_values l.found.findings.items ++ found_in l.hints (of_rules (map rule_value (drop l.rule-index l.rules))) ≡ finding_values l.fn.found.findings.items ++ found_in l.hints (of_rules (map rule_value l.rules));
  used : l.found.used.items ++ used_in l.hints (of_rules (map rule_value (drop l.rule-index l.rules))) ≡ l.fn.found.used.items ++ used_in l.hints (of_rules (map rule_value l.rules));
}
