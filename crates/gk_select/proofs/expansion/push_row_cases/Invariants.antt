use Rattle.gk_select.proofs.Common.{◌≡◌, ◌++◌, ◌+◌, map, drop, case_value, cases_of_rows, RowsFitHeader}
use Rattle.gk_select.proofs.expansion.push_row_cases.Given as goal

abbrev pub invariant-loop-i : goal.invariant-loop-i
invariant-loop-i l = record {
  fit : RowsFitHeader l.part.examples.now (drop l.i l.rows);
  built : map case_value l.cases.items ++ cases_of_rows l.inherited l.scenario l.part.number l.part.examples.now (l.i + 1) (drop l.i l.rows)
      ≡ map case_value l.fn.cases.items ++ cases_of_rows l.inherited l.scenario l.part.number l.part.examples.now 1 l.rows;
}
