use Rattle.gk_report.proofs.Common.{drop, map, Log, items_of, SendsItems, rule_row, rule_data}
use Rattle.gk_report.proofs.json_report.write_rules.Given as goal

-- whatever ends the rules that are left ends all of them
abbrev pub invariant-loop-rule : goal.invariant-loop-rule
invariant-loop-rule g l =
    (end : Log) → SendsItems (items_of (map rule_data (map rule_row (drop l.rule-index l.rules)))) (g.S.Serializer.written l.out) end → SendsItems (items_of (map rule_data (map rule_row l.rules))) (g.S.Serializer.written l.initial.out) end
