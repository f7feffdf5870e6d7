use Rattle.gk_cli.proofs.Common.{◌≡◌, ◌++◌, drop, map, string_bytes}
use Rattle.gk_cli.proofs.arguments.copied.Given as goal

-- the copies so far and the texts that are left are all the texts
abbrev pub invariant-loop-text : goal.invariant-loop-text
invariant-loop-text l = map string_bytes l.copies.items ++ map (λ text. text.now) (drop l.text-index l.texts) ≡ map (λ text. text.now) l.texts
