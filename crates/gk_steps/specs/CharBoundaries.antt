-- Proof machinery: the character boundaries of a text.
use Rattle.std.specs.Prelude.{◌≡◌, ◌<◌, ◌≤◌, ℕ, List, length, drop, slice_index}
use Rattle.std.specs.Str.{chars, IsCharBoundary}

-- The character boundaries of a text from a position on, from the last to the first.
pub record AreBoundariesFrom (low : ℕ) (text : List ℕ) (boundaries : List ℕ) : Type 0 where
  pub some : 0 < length boundaries
  pub cuts : (c : ℕ) → c < length boundaries → IsCharBoundary text (slice_index boundaries c)
  pub above : (c : ℕ) → c < length boundaries → low ≤ slice_index boundaries c
  pub falling : (c d : ℕ) → c < d → d < length boundaries → slice_index boundaries d < slice_index boundaries c
  pub complete : (p : ℕ) → low ≤ p → IsCharBoundary text p → (c : ℕ) × (c < length boundaries) × (slice_index boundaries c ≡ p)
  pub counts : (c : ℕ) → c < length boundaries → length (chars (drop (slice_index boundaries c) text)) ≡ c

-- All character boundaries of a text, from the last to the first.
abbrev pub AreBoundaries : List ℕ → List ℕ → Type 0
AreBoundaries text boundaries = AreBoundariesFrom 0 text boundaries
