use Rattle.gk_steps.proofs.Common.{◌≡◌, ◌+◌, drop, position_or_len, is_brace}
use Rattle.gk_steps.proofs.spelling.plain_len.Given as goal

abbrev pub invariant-loop-i : goal.invariant-loop-i
invariant-loop-i l = l.i + position_or_len is_brace (drop l.i l.text) ≡ position_or_len is_brace l.text
