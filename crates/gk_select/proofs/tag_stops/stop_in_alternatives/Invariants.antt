use Rattle.gk_select.proofs.Common.{◌≡◌, ℕ, List, ◌++◌, map, stop_in_pieces}
use Rattle.gk_select.proofs.tag_stops.stop_in_alternatives.Given as goal

abbrev pub invariant-loop-piece : goal.invariant-loop-piece
invariant-loop-piece l =
    (goal.iterator-loop-piece).can_next l.piece-iterator ×
    (goal.iterator-loop-piece).is_finite l.piece-iterator ×
    ((others : List (List ℕ)) → stop_in_pieces (map (λ x. x.now) l.yielded ++ others) ≡ stop_in_pieces others)
