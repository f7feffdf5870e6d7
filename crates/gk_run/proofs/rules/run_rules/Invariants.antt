use Rattle.gk_run.proofs.Common.{◌≡◌, ◌+◌, ◌≤◌, length, vec_len, vec_capacity, into_iter_items, into_iter_len, state_of, groups_in, members_of_groups, run_of, IsSame}
use Rattle.gk_run.proofs.RulesLemmas.{GoesRules}
use Rattle.gk_run.proofs.rules.run_rules.Given as goal

-- however the rules that are left are cut, all have cuts with these results before the others
abbrev pub invariant-loop-rule : goal.invariant-loop-rule
invariant-loop-rule g l = record {
  goes : GoesRules g.O.Observer.hears g.O.Observer.ends (run_of l.run.library.now l.run.hooks.now.file.now l.run.stop) (state_of l.fn.sandbox.now) l.fn.is_open (groups_in l.fn.rules.list.items) l.fn.cases.items l.cases.items l.is_open l.results.items (groups_in (into_iter_items l.rule-iterator)) l.fn.observer l.observer;
  same : IsSame l.fn.sandbox l.sandbox;
  room : vec_len l.results + length (into_iter_items l.rule-iterator) ≤ vec_capacity l.results;
  cases_room : length l.cases.items + length (members_of_groups (groups_in (into_iter_items l.rule-iterator))) ≤ vec_capacity l.cases;
  counted : length (into_iter_items l.rule-iterator) ≡ into_iter_len l.rule-iterator;
}
