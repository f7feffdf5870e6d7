use Rattle.gk_explain.proofs.Common.{◌≡◌, ◌++◌, drop, string_bytes, chars_after}
use Rattle.gk_explain.proofs.Common.befores
use Rattle.gk_explain.proofs.Common.forms
use Rattle.gk_explain.proofs.shown.push_chars.Given as goal

abbrev pub invariant-loop-c : goal.invariant-loop-c
invariant-loop-c l = string_bytes l.out ++ chars_after forms.Quoted l.before (drop l.c-index l.line) ≡ string_bytes l.initial.out ++ chars_after forms.Quoted befores.Other l.line
