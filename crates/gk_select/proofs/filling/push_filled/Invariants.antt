use Rattle.gk_select.proofs.Common.{◌≡◌, ◌++◌, length, Utf8, shadow, string_bytes, texts, filled}
use Rattle.gk_select.proofs.filling.push_filled.Given as goal

abbrev pub invariant-loop-piece : goal.invariant-loop-piece
invariant-loop-piece l = shadow (Utf8 l.rest) × (string_bytes l.filled ++ filled l.columns (texts l.row) l.rest ≡ string_bytes l.fn.filled ++ filled l.columns (texts l.row) l.text)

abbrev pub decreases-loop-piece : goal.decreases-loop-piece
decreases-loop-piece l = length l.rest
