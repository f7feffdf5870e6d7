use Rattle.gk_findings.proofs.Common.{source_value, map, take, noted_library_value, IsLintOf}
use Rattle.gk_findings.proofs.linted_sources.lint_sources.Given as goal

-- what was found is that of the sources so far
abbrev pub invariant-loop-input : goal.invariant-loop-input
invariant-loop-input l = IsLintOf (noted_library_value l.library) (take l.input (map source_value l.sources)) l.so_far
