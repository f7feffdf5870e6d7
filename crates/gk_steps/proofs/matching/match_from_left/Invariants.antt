use Rattle.gk_steps.proofs.Common.{◌≡◌, ◌≤◌, ◌++◌, List, Option, map, length, chars, Utf8, shadow, PieceValue, piece_value, FieldValue, FindsRest}
use Rattle.gk_steps.proofs.matching.match_from_left.Given as goal

-- After the pieces that are gone, what those that are left find in the rest is what all of them find in the text; and no cell was filled.
abbrev pub invariant-pieces : goal.invariant-pieces
invariant-pieces g l =
    shadow (Utf8 l.rest)
    × ((gone : List PieceValue) × (gone ++ map piece_value l.left ≡ map piece_value l.fn.pieces)
    × ((done : List PieceValue) (before : List FieldValue) → g.K.Captures.keeps done l.fn.kept before → (fields : List FieldValue) × g.K.Captures.keeps (done ++ gone) l.kept fields
    × ((found : Option (List FieldValue)) → FindsRest fields (map piece_value l.left) l.rest found → FindsRest before (map piece_value l.fn.pieces) l.fn.text found)))
    × (length l.left ≤ length l.fn.pieces) × (length (chars l.rest) ≤ length (chars l.fn.text)) × (l.cells.filled ≡ l.fn.cells.filled)

abbrev pub decreases-pieces : goal.decreases-pieces
decreases-pieces g l = length l.left
