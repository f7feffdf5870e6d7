use Rattle.gk_explain.proofs.Common.{◌≡◌, ◌++◌, drop, map, string_bytes, marked_lines, row}
use Rattle.gk_explain.proofs.shown.push_lines.Given as goal

abbrev pub invariant-loop-line : goal.invariant-loop-line
invariant-loop-line l = string_bytes l.out ++ marked_lines (row l.mark l.around) (map (λ line. line.now) (drop l.line-index l.lines)) ≡ string_bytes l.initial.out ++ marked_lines (row l.mark l.around) (map (λ line. line.now) l.lines)
