use Rattle.gk_steps.proofs.Common.{map, length, Utf8, shadow, ◌↔◌, piece_value, HasLiterals}
use Rattle.gk_steps.proofs.literal_order.has_literals.Given as goal

-- The literals of all pieces stand in the text in order exactly if those of the pieces that are left stand so in the rest.
abbrev pub invariant-pieces : goal.invariant-pieces
invariant-pieces l = shadow (Utf8 l.rest) × (HasLiterals (map piece_value l.fn.pieces) l.fn.text ↔ HasLiterals (map piece_value l.left) l.rest)

abbrev pub decreases-pieces : goal.decreases-pieces
decreases-pieces l = length l.left
