use Rattle.gk_select.proofs.Common.{◌≡◌, map, drop, sum_by, rule_value, left, rule_steps}
use Rattle.gk_select.proofs.counting.room_after_rules.Given as goal

abbrev pub invariant-loop-rule : goal.invariant-loop-rule
invariant-loop-rule l =
    left l.room (sum_by (rule_steps l.inherited) (map rule_value (drop l.rule-index l.rules)))
    ≡ left l.fn.room (sum_by (rule_steps l.inherited) (map rule_value l.rules))
