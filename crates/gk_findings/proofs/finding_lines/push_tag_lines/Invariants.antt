use Rattle.gk_findings.proofs.Common.{◌≡◌, ◌++◌, map, drop, string_bytes, tag_lines}
use Rattle.gk_findings.proofs.finding_lines.push_tag_lines.Given as goal

abbrev pub invariant-loop-tag : goal.invariant-loop-tag
invariant-loop-tag l = string_bytes l.out ++ tag_lines (map (λ t. t.now) (drop l.tag-index l.tags)) ≡ string_bytes l.initial.out ++ tag_lines (map (λ t. t.now) l.tags)
