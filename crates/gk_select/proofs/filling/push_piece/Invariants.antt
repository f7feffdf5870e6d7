use Rattle.gk_select.proofs.Common.{◌≡◌, ◌++◌, length, Utf8, shadow, string_bytes, texts, filled_piece}
use Rattle.gk_select.proofs.filling.push_piece.Given as goal

abbrev pub invariant-loop-before : goal.invariant-loop-before
invariant-loop-before l = shadow (Utf8 l.rest) × (string_bytes l.filled ++ filled_piece l.columns (texts l.row) l.rest ≡ string_bytes l.fn.filled ++ filled_piece l.columns (texts l.row) l.piece)

abbrev pub decreases-loop-before : goal.decreases-loop-before
decreases-loop-before l = length l.rest
