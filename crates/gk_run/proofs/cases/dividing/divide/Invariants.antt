use Rattle.gk_run.proofs.Common.{◌≡◌, map, length, into_iter_items, into_iter_len, head_value, members_of}
use Rattle.gk_run.proofs.GroupingLemmas.{GoesDividing}
use Rattle.gk_run.proofs.cases.dividing.divide.Given as goal

abbrev pub invariant-loop-case : goal.invariant-loop-case
invariant-loop-case l = record {
  goes : GoesDividing (map head_value l.fn.heads.items) (members_of l.fn.cases.items l.fn.selected.items) l.own.items l.rules.items (into_iter_items l.case-iterator.a) (into_iter_items l.case-iterator.b);
  cases_counted : length (into_iter_items l.case-iterator.a) ≡ into_iter_len l.case-iterator.a;
  choices_counted : length (into_iter_items l.case-iterator.b) ≡ into_iter_len l.case-iterator.b;
}
