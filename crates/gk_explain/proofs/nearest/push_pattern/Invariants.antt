use Rattle.gk_explain.proofs.Common.{◌≡◌, ◌++◌, drop, string_bytes, piece_values, pattern_shown}
use Rattle.gk_explain.proofs.nearest.push_pattern.Given as goal

abbrev pub invariant-loop-piece : goal.invariant-loop-piece
invariant-loop-piece l = string_bytes l.out ++ pattern_shown (piece_values (drop l.piece-index l.pattern)) ≡ string_bytes l.initial.out ++ pattern_shown (piece_values l.pattern)
