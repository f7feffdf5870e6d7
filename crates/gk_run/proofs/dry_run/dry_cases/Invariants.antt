use Rattle.gk_run.proofs.Common.{◌≡◌, ◌+◌, ◌≤◌, map, length, vec_len, vec_capacity, into_iter_items, into_iter_len, library_value, case_row, members_of}
use Rattle.gk_run.proofs.DryRunLemmas.{GoesDryCases}
use Rattle.gk_run.proofs.dry_run.dry_cases.Given as goal

-- however what is left is cut, the whole has cuts with these rows before the others
abbrev pub invariant-loop-case : goal.invariant-loop-case
invariant-loop-case l = record {
  goes : GoesDryCases (library_value l.library) (members_of l.fn.cases.list.items l.fn.selected.items) (map case_row l.results.items) (members_of (into_iter_items l.case-iterator.a) (into_iter_items l.case-iterator.b));
  room : vec_len l.results + length (into_iter_items l.case-iterator.a) ≤ vec_capacity l.results;
  cases_counted : length (into_iter_items l.case-iterator.a) ≡ into_iter_len l.case-iterator.a;
  choices_counted : length (into_iter_items l.case-iterator.b) ≡ into_iter_len l.case-iterator.b;
}
