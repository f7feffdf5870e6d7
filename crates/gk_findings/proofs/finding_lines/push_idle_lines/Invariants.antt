use Rattle.gk_findings.proofs.Common.{◌≡◌, ◌++◌, drop, string_bytes, idle_lines}
use Rattle.gk_findings.proofs.finding_lines.push_idle_lines.Given as goal

abbrev pub invariant-loop-line : goal.invariant-loop-line
invariant-loop-line l = string_bytes l.out ++ idle_lines (drop l.line-index l.lines) ≡ string_bytes l.initial.out ++ idle_lines l.lines
