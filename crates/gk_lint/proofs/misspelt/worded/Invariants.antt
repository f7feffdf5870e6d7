use Rattle.gk_lint.proofs.Common.{◌≡◌, ◌+◌, ◌++◌, map, drop, worded, Elsewhere}
use Rattle.gk_lint.proofs.misspelt.worded.Given as goal

abbrev pub invariant-loop-index : goal.invariant-loop-index
invariant-loop-index l = l.all.items ++ worded l.context (l.index + 1) (map (λ line. line.now) (drop l.index l.lines)) ≡ worded Elsewhere 1 (map (λ line. line.now) l.lines)
