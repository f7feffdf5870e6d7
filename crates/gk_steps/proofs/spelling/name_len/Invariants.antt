use Rattle.gk_steps.proofs.Common.{◌≡◌, ◌+◌, drop, prefix_len, is_name_byte}
use Rattle.gk_steps.proofs.spelling.name_len.Given as goal

abbrev pub invariant-loop-i : goal.invariant-loop-i
invariant-loop-i l = l.i + prefix_len is_name_byte (drop l.i l.text) ≡ prefix_len is_name_byte l.text
