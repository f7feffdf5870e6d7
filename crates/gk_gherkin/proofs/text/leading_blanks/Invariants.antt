use Rattle.gk_gherkin.proofs.Common.{◌≡◌, ◌+◌, drop, prefix_len, is_blank}
use Rattle.gk_gherkin.proofs.text.leading_blanks.Given as goal

abbrev pub invariant-loop-i : goal.invariant-loop-i
invariant-loop-i l = l.i + prefix_len is_blank (drop l.i l.text) ≡ prefix_len is_blank l.text
