use Rattle.gk_steps.proofs.Common.{length, map, Utf8, shadow, piece_value, IsReadTo}
use Rattle.gk_steps.proofs.SpellingLemmas.{IsBegun}
use Rattle.gk_steps.proofs.spelling.read_pieces.Given as goal

abbrev pub invariant-loop-rest : goal.invariant-loop-rest
invariant-loop-rest l = shadow (Utf8 l.rest) × IsReadTo l.text (map piece_value l.pieces.items) l.rest × IsBegun l.text l.rest

abbrev pub decreases-loop-rest : goal.decreases-loop-rest
decreases-loop-rest l = length l.rest
