use Rattle.gk_steps.proofs.Common.{map, piece_value, HasLongLiteral}
use Rattle.std.specs.Prelude.{IfSome}
use Rattle.gk_steps.proofs.entry_index.Index.rarest_literal.Given as goal

abbrev pub invariant-loop-k : goal.invariant-loop-k
invariant-loop-k l = IfSome l.rarest (λ literal. HasLongLiteral literal.now (map piece_value l.pieces))
