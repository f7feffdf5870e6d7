use Rattle.gk_lint.proofs.Common.{◌≡◌, ◌++◌, map, drop, classes_from, Elsewhere}
use Rattle.gk_lint.proofs.unexpected_lines.classes_of.Given as goal

abbrev pub invariant-loop-text : goal.invariant-loop-text
invariant-loop-text l = l.classes.items ++ classes_from l.context (map (λ line. line.now) (drop l.text-index l.lines)) ≡ classes_from Elsewhere (map (λ line. line.now) l.lines)
