use Rattle.gk_cli.proofs.Common.{◌≡◌, ◌++◌, drop, map, line_number}
use Rattle.gk_cli.proofs.arguments.numbers.Given as goal

-- the numbers so far and those of the texts that are left are all the numbers
abbrev pub invariant-loop-text : goal.invariant-loop-text
invariant-loop-text l = l.numbers.items ++ map line_number (map (λ text. text.now) (drop l.text-index l.texts)) ≡ map line_number (map (λ text. text.now) l.texts)
