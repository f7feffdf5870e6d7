use Rattle.gk_explain.proofs.Common.{◌≡◌, ◌≤◌, ◌+◌, IsUtf8, chars, length, chars_rest, common_start, position_past, first_difference}
use Rattle.gk_explain.proofs.differences.first_difference.Given as goal

abbrev pub invariant-loop-c : goal.invariant-loop-c
invariant-loop-c l = IsUtf8 (chars_rest l.c-iterator) × IsUtf8 (chars_rest l.others)
    × (l.position.line + length (chars_rest l.c-iterator) ≤ length l.expected + 1) × (l.position.column + length (chars_rest l.c-iterator) ≤ length l.expected + 1)
    × (position_past l.position (common_start (chars (chars_rest l.c-iterator)) (chars (chars_rest l.others))) ≡ first_difference l.expected l.found)
