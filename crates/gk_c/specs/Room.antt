-- A text in the caller's room.
use Rattle.std.specs.Prelude.{◌≡◌, ℕ, List, ◌++◌, length, take, drop, min}

-- A text written over the beginning of what was there, as far as there is room. The rest stays.
abbrev pub put_over : List ℕ → List ℕ → List ℕ
put_over text old = take (min (length text) (length old)) text ++ drop (min (length text) (length old)) old

-- The text is written as far as there is room, and the count is that of all its bytes.
abbrev pub IsPut : List ℕ → List ℕ → List ℕ → ℕ → Type 0
IsPut text old new count = (new ≡ put_over text old) × (count ≡ length text)
