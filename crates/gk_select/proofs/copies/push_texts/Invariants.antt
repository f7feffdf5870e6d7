use Rattle.gk_select.proofs.Common.{◌≡◌, ◌++◌, take, texts}
use Rattle.gk_select.proofs.copies.push_texts.Given as goal

abbrev pub invariant-loop-text : goal.invariant-loop-text
invariant-loop-text l = texts l.into.items ≡ texts l.fn.into.items ++ texts (take l.text-index l.from)
