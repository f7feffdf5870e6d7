-- Proof machinery: the rows of the table of a match. Each row is for a number of the pattern's last pieces.
use Rattle.std.specs.Prelude.{◌≡◌, ◌<◌, ◌+◌, ◌-◌, ℕ, Bool, true, false, List, ◌∷◌, length, drop, slice_index, Vec, slice_index_or}
use Rattle.gk_steps.specs.Pattern.{PieceValue, piece_values}
use Rattle.gk_steps.specs.declared.pattern.Piece.{Piece}
use Rattle.std.specs.declared.alloc.Global.{Global}
use Rattle.gk_steps.specs.Matching.{Matches, MatchesNot}

-- Whether these pieces match a text.
abbrev pub IsCell : List PieceValue → List ℕ → Bool → Type 0
IsCell ps text true = (spans : List (List ℕ)) × Matches ps text spans
IsCell ps text false = MatchesNot ps text

-- The first cells of a row. Each says whether these pieces match the text after its boundary.
pub record IsRowTo (size : ℕ) (ps : List PieceValue) (text : List ℕ) (boundaries : List ℕ) (row : List Bool) : Type 0 where
  pub size_is : length row ≡ size
  pub cells : (c : ℕ) → c < size → IsCell ps (drop (slice_index boundaries c) text) (slice_index_or row c false)

-- A whole row.
abbrev pub IsRow : List PieceValue → List ℕ → List ℕ → List Bool → Type 0
IsRow ps text boundaries row = IsRowTo (length boundaries) ps text boundaries row

-- Whether a cell before a column is true.
abbrev pub IsAnyBefore : List Bool → ℕ → Bool → Type 0
IsAnyBefore row c true = (d : ℕ) × (d < c) × (slice_index_or row d false ≡ true)
IsAnyBefore row c false = (d : ℕ) → d < c → slice_index_or row d false ≡ false

-- The first cells of a row. Each says whether a cell before it is true in the row below.
pub record IsPlainRow (size : ℕ) (below : List Bool) (row : List Bool) : Type 0 where
  pub size_is : length row ≡ size
  pub cells : (c : ℕ) → c < size → IsAnyBefore below c (slice_index_or row c false)

-- The row for one more piece in front, whatever the pieces of the row below are.
abbrev pub IsRowOver : PieceValue → List ℕ → List ℕ → List Bool → List Bool → Type 0
IsRowOver piece text boundaries below row = (ps : List PieceValue) → IsRow ps text boundaries below → IsRow (piece ∷ ps) text boundaries row

-- The first rows of a pattern's table: row `r` is for the last `r` pieces.
pub record IsTable (size : ℕ) (ps : List PieceValue) (text : List ℕ) (boundaries : List ℕ) (rows : List (Vec Bool Global)) : Type 0 where
  pub size_is : length rows ≡ size
  pub each : (r : ℕ) (d : Vec Bool Global) → r < size → IsRow (drop (length ps - r) ps) text boundaries (slice_index_or rows r d).items

-- All rows of a pattern's table, from no pieces to the whole pattern.
abbrev pub IsWholeTable : List Piece → List ℕ → List ℕ → List (Vec Bool Global) → Type 0
IsWholeTable pieces text boundaries rows = IsTable (length pieces + 1) (piece_values pieces) text boundaries rows
