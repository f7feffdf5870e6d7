use Rattle.gk_run.proofs.Common.{◌≡◌, ◌+◌, ◌≤◌, ◌++◌, map, length, vec_len, vec_capacity, into_iter_items, into_iter_len, head_value, dry_rules_of, rule_row}
use Rattle.gk_run.proofs.dry_run.dry_rules.Given as goal

-- the rows so far and those of the rules that are left are those of all
abbrev pub invariant-loop-head : goal.invariant-loop-head
invariant-loop-head l = record {
  rows : map rule_row l.results.items ++ dry_rules_of (map head_value (into_iter_items l.head-iterator)) ≡ dry_rules_of (map head_value l.fn.rules.list.items);
  room : vec_len l.results + length (into_iter_items l.head-iterator) ≤ vec_capacity l.results;
  counted : length (into_iter_items l.head-iterator) ≡ into_iter_len l.head-iterator;
}
