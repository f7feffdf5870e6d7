-- Proof machinery: what is known about the digits at a column.
use Rattle.std.specs.Prelude.{◌≡◌, ◌+◌, ◌<◌, length, slice_index_or, ℕ, Bool, true, false, List, []}
use Rattle.gk_steps.specs.declared.digits.Digits.{Digits}
use Rattle.gk_steps.specs.declared.pattern.FieldKind.TheVariants.{Decimal}
use Rattle.gk_steps.specs.Decimal.{largest_i64}
use Rattle.gk_steps.specs.Pattern.{FieldPiece}
use Rattle.gk_steps.specs.Advances.{HasDigits, IsAdvanceTo}

-- What is known about digits with a plus and with a minus, up to the limits of an `i64`.
pub record KnowsDigits (text : List ℕ) (boundaries : List ℕ) (below : List Bool) (c : ℕ) (digits : Digits) : Type 0 where
  pub positive : HasDigits largest_i64 text boundaries below c digits.positive
  pub negative : HasDigits (largest_i64 + 1) text boundaries below c digits.negative

-- Whether there is an advance over a number from a column.
abbrev pub HasNumber : List ℕ → List ℕ → List Bool → ℕ → Bool → Type 0
HasNumber text boundaries below c true = (d : ℕ) × IsAdvanceTo (FieldPiece [] Decimal) text boundaries below c d
HasNumber text boundaries below c false = (d : ℕ) → IsAdvanceTo (FieldPiece [] Decimal) text boundaries below c d → ⊥

-- The first cells of a row. Each says whether there is an advance over a number from its column.
pub record IsNumberRow (size : ℕ) (text : List ℕ) (boundaries : List ℕ) (below : List Bool) (row : List Bool) : Type 0 where
  pub size_is : length row ≡ size
  pub cells : (c : ℕ) → c < size → HasNumber text boundaries below c (slice_index_or row c false)
