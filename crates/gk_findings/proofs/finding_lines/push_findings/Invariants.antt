use Rattle.gk_findings.proofs.Common.{◌≡◌, ◌++◌, drop, string_bytes, finding_lines, finding_values}
use Rattle.gk_findings.proofs.finding_lines.push_findings.Given as goal

abbrev pub invariant-loop-finding : goal.invariant-loop-finding
invariant-loop-finding l = string_bytes l.out ++ finding_lines l.name (finding_values (drop l.finding-index l.findings)) ≡ string_bytes l.initial.out ++ finding_lines l.name (finding_values l.findings)
