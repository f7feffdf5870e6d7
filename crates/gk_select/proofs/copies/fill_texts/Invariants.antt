use Rattle.gk_select.proofs.Common.{◌≡◌, map, take, texts, filled}
use Rattle.gk_select.proofs.copies.fill_texts.Given as goal

abbrev pub invariant-loop-text : goal.invariant-loop-text
invariant-loop-text l = texts l.filled.items ≡ map (filled l.columns (texts l.row)) (texts (take l.text-index l.from))
