use Rattle.gk_steps.proofs.Common.{◌≡◌, drop, map, piece_value}
use Rattle.gk_steps.specs.Pattern as spec
use Rattle.gk_steps.proofs.spelling.field_kind.Given as goal

abbrev pub invariant-loop-piece : goal.invariant-loop-piece
invariant-loop-piece l = spec.field_kind (map piece_value l.pieces) l.name ≡ spec.field_kind (map piece_value (drop l.piece-index l.pieces)) l.name
