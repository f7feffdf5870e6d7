use Rattle.gk_lint.proofs.Common.{◌≡◌, map, drop, list_any, has_cr}
use Rattle.gk_lint.proofs.line_ends.have_cr.Given as goal

abbrev pub invariant-loop-line : goal.invariant-loop-line
invariant-loop-line l = list_any has_cr (map (λ line. line.now) (drop l.line-index l.lines)) ≡ list_any has_cr (map (λ line. line.now) l.lines)
