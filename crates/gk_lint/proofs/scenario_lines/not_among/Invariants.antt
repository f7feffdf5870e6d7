use Rattle.gk_lint.proofs.Common.{◌≡◌, ◌++◌, not, filter, drop, is_among}
use Rattle.gk_lint.proofs.scenario_lines.not_among.Given as goal

abbrev pub invariant-loop-line : goal.invariant-loop-line
invariant-loop-line l = l.left.items ++ filter (λ line. not (is_among l.numbers line)) (drop l.line-index l.lines) ≡ filter (λ line. not (is_among l.numbers line)) l.lines
