use Rattle.gk_run.proofs.Common.{◌≡◌, ◌+◌, length, vec_capacity, into_iter_items, into_iter_len, state_of, run_of, IsSame, members_in}
use Rattle.gk_run.proofs.CasesLemmas.{GoesOn}
use Rattle.gk_run.proofs.cases.section_cases.run_cases.Given as goal

-- the messages so far are about the cases so far, and however those that are left are cut, all have cuts with these rows
abbrev pub invariant-loop-member : goal.invariant-loop-member
invariant-loop-member g l = record {
  goes : GoesOn g.O.Observer.hears g.O.Observer.ends (run_of l.run.library.now l.run.hooks.now.file.now l.run.stop) (state_of l.fn.sandbox.now) l.is_open (members_in l.fn.members.items) l.fn.results.items l.results.items (members_in (into_iter_items l.member-iterator)) l.all_stay l.fn.observer l.observer;
  same : IsSame l.fn.sandbox l.sandbox;
  sizes : length l.results.items + length (into_iter_items l.member-iterator) ≡ length l.fn.results.items + length l.fn.members.items;
  capacity : vec_capacity l.results ≡ vec_capacity l.fn.results;
  counted : length (into_iter_items l.member-iterator) ≡ into_iter_len l.member-iterator;
}
