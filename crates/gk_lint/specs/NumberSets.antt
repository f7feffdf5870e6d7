-- Sets of numbers.
use Rattle.std.specs.Prelude.{ℕ, Bool, ◌==◌, List}
use Rattle.std.specs.List.{list_any}

-- Whether a number is among some numbers.
abbrev pub is_among : List ℕ → ℕ → Bool
is_among numbers n = list_any (λ other. other == n) numbers
