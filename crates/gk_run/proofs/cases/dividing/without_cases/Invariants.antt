use Rattle.gk_run.proofs.Common.{◌≡◌, ◌++◌, ◌+◌, ◌≤◌, map, length, vec_len, vec_capacity, into_iter_items, into_iter_len, bare_group, groups_in, head_value}
use Rattle.gk_run.proofs.cases.dividing.without_cases.Given as goal

abbrev pub invariant-loop-head : goal.invariant-loop-head
invariant-loop-head l = record {
  rules : groups_in l.results.items ++ map bare_group (map head_value (into_iter_items l.head-iterator)) ≡ map bare_group (map head_value l.fn.heads.items);
  room : vec_len l.results + length (into_iter_items l.head-iterator) ≤ vec_capacity l.results;
  counted : length (into_iter_items l.head-iterator) ≡ into_iter_len l.head-iterator;
}
