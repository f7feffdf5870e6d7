use Rattle.gk_steps.proofs.Common.{drop, map, piece_value, field_value, HasRest}
use Rattle.gk_steps.proofs.used_fields.first_fields.Given as goal

-- The fields so far, and those that are left, have what is sought.
abbrev pub invariant-loop-piece : goal.invariant-loop-piece
invariant-loop-piece l = HasRest (map piece_value l.pieces) (map field_value l.fields) l.firsts (map piece_value (drop l.piece-index l.pieces)) (map field_value l.rest)
