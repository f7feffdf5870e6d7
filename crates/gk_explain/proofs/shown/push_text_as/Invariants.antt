use Rattle.gk_explain.proofs.Common.{◌≡◌, ◌++◌, IsUtf8, string_bytes, chars, chars_rest, chars_after, text_as}
use Rattle.gk_explain.proofs.shown.push_text_as.Given as goal

abbrev pub invariant-loop-c : goal.invariant-loop-c
invariant-loop-c l = IsUtf8 (chars_rest l.c-iterator) × (string_bytes l.out ++ chars_after l.form l.before (chars (chars_rest l.c-iterator)) ≡ string_bytes l.initial.out ++ text_as l.form l.text)
