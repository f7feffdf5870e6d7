use Rattle.gk_report.proofs.Common.{◌≡◌, drop, map, fold, case_row, one_case_more}
use Rattle.gk_report.proofs.summary.add_cases.Given as goal

abbrev pub invariant-loop-case : goal.invariant-loop-case
invariant-loop-case l =
    fold one_case_more l.summary (map case_row (drop l.case-index l.cases)) ≡ fold one_case_more l.initial.summary (map case_row l.cases)
