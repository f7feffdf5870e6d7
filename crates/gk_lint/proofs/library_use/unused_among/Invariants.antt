use Rattle.gk_lint.proofs.Common.{◌≡◌, ◌++◌, drop, entry_values, finding_values, is_among, unused_from}
use Rattle.gk_lint.proofs.library_use.unused_among.Given as goal

abbrev pub invariant-loop-position : goal.invariant-loop-position
invariant-loop-position l = finding_values l.findings.items ++ unused_from l.position (is_among l.used) (entry_values (drop l.position l.entries)) ≡ unused_from 0 (is_among l.used) (entry_values l.entries)
