use Rattle.std.proofs.Common.{◌≡◌, ◌++◌, drop, map, string_bytes}
use Rattle.std.specs.List.{All}
use Rattle.std.specs.Prelude.{IsUtf8}
use Rattle.gk_c.specs.Words.{text_value, with_name}
use Rattle.gk_c.proofs.words.words_from.Given as goal

-- the words so far and the arguments that are left are all the words, and all arguments are UTF-8 if those that are left are
abbrev pub invariant-loop-argument : goal.invariant-loop-argument
invariant-loop-argument l = record {
  copied : map string_bytes l.words.items ++ map text_value (drop l.argument-index l.arguments) ≡ with_name (map text_value l.arguments);
  good : All IsUtf8 (map text_value (drop l.argument-index l.arguments)) → All IsUtf8 (map text_value l.arguments);
}
