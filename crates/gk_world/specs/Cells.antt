-- The cells of a row.
use Rattle.std.specs.Prelude.{◌≡◌, ◌≢◌, ℕ, List, Option, None, slice_index_or}

-- A cell: a text, or absent.
abbrev pub Cell : Type 0
Cell = Option (List ℕ)

-- A slot: a name and its cells.
abbrev pub Slot : Type 0
Slot = List ℕ × List (Option (List ℕ))

-- The cell at k; cells after the last are absent.
abbrev pub cell_at : ℕ → List Cell → Cell
cell_at k cells = slice_index_or cells k None

-- One cell has this content, and every other cell is absent.
pub record IsOnly (cell : ℕ) (text : Cell) (cells : List Cell) : Type 0 where
  pub here : cell_at cell cells ≡ text
  pub others : (k : ℕ) → k ≢ cell → cell_at k cells ≡ None
