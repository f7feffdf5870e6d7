use Rattle.gk_cli.proofs.Common.{◌≡◌, ◌++◌, drop, map, take, true, All, split_at_equals, has_equals, pair_value}
use Rattle.gk_cli.proofs.arguments.pairs.Given as goal

-- the pairs so far and those of the texts that are left are all the pairs, and each text so far has an `=`
abbrev pub invariant-loop-text : goal.invariant-loop-text
invariant-loop-text l = record {
  split : map pair_value l.pairs.items ++ map split_at_equals (map (λ text. text.now) (drop l.text-index l.texts)) ≡ map split_at_equals (map (λ text. text.now) l.texts);
  equals : All (λ text. has_equals text ≡ true) (map (λ text. text.now) (take l.text-index l.texts));
}
