-- What a loop over the printed scenarios has left.
use Rattle.gk_report.proofs.Common.{◌≡◌, ℕ, ◌≤◌, List, [], length, drop, map, at_drop_all}

-- Nothing is left past the end.
pub left_none : {X Y : Type 0} (f : X → Y) (xs : List X) (i : ℕ) → length xs ≤ i → map f (drop i xs) ≡ []
left_none f xs i le = at_drop_all (map f) xs i le
