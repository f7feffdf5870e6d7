use Rattle.gk_findings.proofs.Common.{◌≡◌, ◌++◌, map, drop, string_bytes, finding_values, noted_lines}
use Rattle.gk_findings.proofs.finding_lines.push_noted_findings.Given as goal

abbrev pub invariant-loop-finding : goal.invariant-loop-finding
invariant-loop-finding l = string_bytes l.out ++ noted_lines l.library l.name (map (λ text. text.now) l.lines) (finding_values (drop l.finding-index l.findings)) ≡ string_bytes l.initial.out ++ noted_lines l.library l.name (map (λ text. text.now) l.lines) (finding_values l.findings)
