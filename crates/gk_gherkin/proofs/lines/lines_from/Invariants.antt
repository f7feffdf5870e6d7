use Rattle.gk_gherkin.proofs.Common.{◌≡◌, ◌+◌, map, length, line_value, numbered_from}
use Rattle.gk_gherkin.proofs.lines.lines_from.Given as goal

abbrev pub invariant-loop-part : goal.invariant-loop-part
invariant-loop-part l = (map line_value l.lines.items ≡ numbered_from 1 (map (λ x. x.now) l.yielded)) × (l.number ≡ 1 + length l.yielded)
