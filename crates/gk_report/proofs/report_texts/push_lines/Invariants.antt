use Rattle.gk_report.proofs.Common.{◌≡◌, ◌++◌, length, Utf8, shadow, one_line}
use Rattle.std.specs.String.{string_bytes}
use Rattle.gk_report.proofs.report_texts.push_lines.Given as goal

abbrev pub invariant-loop-line : goal.invariant-loop-line
invariant-loop-line l = shadow (Utf8 l.rest) × (string_bytes l.out ++ one_line l.rest ≡ string_bytes l.initial.out ++ one_line l.text)

abbrev pub decreases-loop-line : goal.decreases-loop-line
decreases-loop-line l = length l.rest
