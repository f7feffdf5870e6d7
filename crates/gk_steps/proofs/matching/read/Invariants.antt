use Rattle.gk_steps.proofs.Common.{◌≡◌, ◌++◌, List, drop, map, PieceValue, piece_value, FieldValue, IsMatchedTo}
use Rattle.gk_steps.proofs.matching.read.Given as goal

abbrev pub invariant-loop-taken : goal.invariant-loop-taken
invariant-loop-taken g l = (fields : List FieldValue) × ((done : List PieceValue) × (done ++ drop l.taken (map piece_value l.pieces) ≡ map piece_value l.pieces) × g.K.Captures.keeps done l.kept fields) × IsMatchedTo l.taken l.column (map piece_value l.pieces) l.text l.boundaries fields
