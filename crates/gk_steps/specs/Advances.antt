-- Proof machinery: advances over a piece, from one column of the table to another. A column is the number of characters after a position.
use Rattle.std.specs.Prelude.{◌≡◌, ◌<◌, ◌≤◌, ◌-◌, ℕ, Bool, true, false, List, [], ◌∷◌, ◌++◌, length, take, drop, slice_index, slice_index_or, Option, Some, None}
use Rattle.std.specs.Str.Parse.{IsNumeral, AllDigits, digits_value}
use Rattle.gk_steps.specs.declared.pattern.FieldKind.TheVariants.{Plain, Decimal}
use Rattle.gk_steps.specs.Pattern.{PieceValue, Literal, FieldPiece}
use Rattle.gk_steps.specs.Matching.{IsSpan, Matches, IsBestMatch, FieldValue, span_value, span_values}

-- The text between the boundaries of two columns.
abbrev pub part : List ℕ → List ℕ → ℕ → ℕ → List ℕ
part text boundaries c d = take (slice_index boundaries d - slice_index boundaries c) (drop (slice_index boundaries c) text)

-- The texts that a piece can take.
abbrev pub CanTake : PieceValue → List ℕ → Type 0
CanTake (Literal literal) x = x ≡ literal
CanTake (FieldPiece name kind) x = IsSpan kind x

-- An advance over a piece from one column to another, after which the rest matches, as the row below says.
pub record IsAdvanceTo (piece : PieceValue) (text : List ℕ) (boundaries : List ℕ) (below : List Bool) (c : ℕ) (d : ℕ) : Type 0 where
  pub within : d ≤ c
  pub rest : slice_index_or below d false ≡ true
  pub takes : CanTake piece (part text boundaries c d)

-- An advance that isn't less preferred than another: a plain field takes as little as it can, the other kind as much as it can.
abbrev pub IsNotAfter : PieceValue → ℕ → ℕ → Type 0
IsNotAfter (Literal literal) d e = Unit {0}
IsNotAfter (FieldPiece name Plain) d e = e ≤ d
IsNotAfter (FieldPiece name Decimal) d e = d ≤ e

-- The preferred advance over a piece; none if there is no advance.
abbrev pub IsAdvance : PieceValue → List ℕ → List ℕ → List Bool → ℕ → Option ℕ → Type 0
IsAdvance piece text boundaries below c None = (d : ℕ) → IsAdvanceTo piece text boundaries below c d → ⊥
IsAdvance piece text boundaries below c (Some d) = IsAdvanceTo piece text boundaries below c d × ((e : ℕ) → IsAdvanceTo piece text boundaries below c e → IsNotAfter piece d e)

-- The nearest true cell before a column; none if no cell before it is true.
abbrev pub IsNearest : List Bool → ℕ → Option ℕ → Type 0
IsNearest row c None = (d : ℕ) → d < c → slice_index_or row d false ≡ false
IsNearest row c (Some d) = (d < c) × (slice_index_or row d false ≡ true) × ((e : ℕ) → e < c → d < e → slice_index_or row e false ≡ false)

-- The values of a piece that took a span: one for a field, none for a literal.
abbrev pub values_of : PieceValue → List ℕ → List FieldValue
values_of (Literal literal) x = []
values_of (FieldPiece name kind) x = span_value kind x ∷ []

-- The spans read so far: together with the preferred match of what is left, they are the preferred match.
pub record IsMatchedTo (taken : ℕ) (column : ℕ) (ps : List PieceValue) (text : List ℕ) (boundaries : List ℕ) (fields : List FieldValue) : Type 0 where
  pub spans : List (List ℕ)
  pub known : column < length boundaries
  pub matched : (rest : List (List ℕ)) × Matches (drop taken ps) (drop (slice_index boundaries column) text) rest
  pub best : (rest : List (List ℕ)) → IsBestMatch (drop taken ps) (drop (slice_index boundaries column) text) rest → IsBestMatch ps text (spans ++ rest)
  pub values : (rest : List (List ℕ)) → span_values ps (spans ++ rest) ≡ fields ++ span_values (drop taken ps) rest

-- An advance over only digits, with a value up to a limit, after which the rest matches, as the row below says.
pub record IsDigitsTo (most : ℕ) (text : List ℕ) (boundaries : List ℕ) (below : List Bool) (c : ℕ) (d : ℕ) : Type 0 where
  pub within : d ≤ c
  pub rest : slice_index_or below d false ≡ true
  pub numeral : IsNumeral 10 (part text boundaries c d)
  pub value : digits_value 10 (part text boundaries c d) ≤ most

-- Whether there is such an advance from a column.
abbrev pub HasDigits : ℕ → List ℕ → List ℕ → List Bool → ℕ → Bool → Type 0
HasDigits most text boundaries below c true = (d : ℕ) × IsDigitsTo most text boundaries below c d
HasDigits most text boundaries below c false = (d : ℕ) → IsDigitsTo most text boundaries below c d → ⊥

-- Digits that were read from one column down to another. The rest matches after none of them.
pub record IsRunTo (low : ℕ) (most : ℕ) (text : List ℕ) (boundaries : List ℕ) (below : List Bool) (c : ℕ) (value : ℕ) : Type 0 where
  pub digits : AllDigits 10 (part text boundaries c low)
  pub value_is : value ≡ digits_value 10 (part text boundaries c low)
  pub none : (d : ℕ) → low ≤ d → IsDigitsTo most text boundaries below c d → ⊥

-- An advance over such digits that is at least as long as each that ends at this column or a higher one; none if no advance ends there.
abbrev pub IsLongestTo : ℕ → ℕ → List ℕ → List ℕ → List Bool → ℕ → Option ℕ → Type 0
IsLongestTo low most text boundaries below c None = (d : ℕ) → low ≤ d → IsDigitsTo most text boundaries below c d → ⊥
IsLongestTo low most text boundaries below c (Some d) = IsDigitsTo most text boundaries below c d × ((e : ℕ) → low ≤ e → IsDigitsTo most text boundaries below c e → d ≤ e)

-- The longest of all these advances; none if there is no advance.
abbrev pub IsLongest : ℕ → List ℕ → List ℕ → List Bool → ℕ → Option ℕ → Type 0
IsLongest most text boundaries below c o = IsLongestTo 0 most text boundaries below c o

-- Digits that were read from one column down to another, and the longest advance over some of them.
pub record IsReachTo (low : ℕ) (most : ℕ) (text : List ℕ) (boundaries : List ℕ) (below : List Bool) (c : ℕ) (value : ℕ) (longest : Option ℕ) : Type 0 where
  pub digits : AllDigits 10 (part text boundaries c low)
  pub value_is : value ≡ digits_value 10 (part text boundaries c low)
  pub best : IsLongestTo low most text boundaries below c longest
