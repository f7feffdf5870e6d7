use Rattle.gk_select.proofs.Common.{◌≡◌, ◌<◌, ◌+◌, ◌^◌, ◌++◌, length, map, AllByRecursion, into_iter_items, RuleValue, rule_value, case_value, cases_of_rules, RowsFit}
use Rattle.gk_select.proofs.expansion.push_rules_cases.Given as goal

abbrev pub invariant-loop-rule : goal.invariant-loop-rule
invariant-loop-rule l = record {
  fit : AllByRecursion (λ (r : RuleValue). RowsFit r.scenarios) (map rule_value (into_iter_items l.rule-iterator));
  counted : l.index + length (into_iter_items l.rule-iterator) < 2 ^ 32;
  built : map case_value l.cases.items ++ cases_of_rules l.feature l.index (into_iter_items l.rule-iterator)
      ≡ map case_value l.fn.cases.items ++ cases_of_rules l.feature 0 l.fn.rules.items;
}
