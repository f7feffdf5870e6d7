use Rattle.gk_report.proofs.Common.{◌≡◌, ◌++◌, drop, map, string_bytes, case_characters, case_row}
use Rattle.gk_report.proofs.progress_report.push_characters.Given as goal

abbrev pub invariant-loop-case : goal.invariant-loop-case
invariant-loop-case l = string_bytes l.out ++ case_characters l.no_skipped (map case_row (drop l.case-index l.cases)) ≡ string_bytes l.initial.out ++ case_characters l.no_skipped (map case_row l.cases)
