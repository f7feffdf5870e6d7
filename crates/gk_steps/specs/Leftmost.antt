-- Proof machinery: how much of a text the first piece of a pattern takes, if the pieces after it leave no choice.
use Rattle.std.specs.Prelude.{◌≡◌, ◌<◌, ◌+◌, ◌++◌, ◌∷◌, ℕ, List, length, take, drop, slice_index_or, Option, Some, None, option_map}
use Rattle.std.specs.Str.{IsCharBoundary}
use Rattle.gk_steps.specs.declared.leftmost.PieceEnd.{PieceEnd}
use Rattle.gk_steps.specs.declared.leftmost.PieceEnd.TheVariants.{At, Nowhere, Unknown}
use Rattle.gk_steps.specs.declared.pattern.FieldKind.TheVariants.{Plain}
use Rattle.gk_steps.specs.Decimal.{IsNumber}
use Rattle.gk_steps.specs.Pattern.{PieceValue, Literal, FieldPiece}
use Rattle.gk_steps.specs.Matching.{Matches, MatchesNot, IsMatchResult, FieldValue}
use Rattle.gk_steps.specs.Finding.{DependsOnMore, IsDigit}
use Rattle.gk_steps.specs.Advances.{CanTake, values_of}

-- A literal occurs in a text at a position that is a character boundary.
pub record CanStandAt (literal : List ℕ) (text : List ℕ) (position : ℕ) : Type 0 where
  pub boundary : IsCharBoundary text position
  pub rest : List ℕ
  pub stands : drop position text ≡ literal ++ rest

-- The literal occurs at no such position after the beginning and before another position.
abbrev pub StandsNowhereBefore : List ℕ → List ℕ → ℕ → Type 0
StandsNowhereBefore literal text end = (position : ℕ) → 0 < position → position < end → CanStandAt literal text position → ⊥

-- The first such position after the beginning.
pub record IsFirst (literal : List ℕ) (text : List ℕ) (position : ℕ) : Type 0 where
  pub after : 0 < position
  pub here : CanStandAt literal text position
  pub first : StandsNowhereBefore literal text position

-- The first such position after the beginning; none if there is none.
abbrev pub IsFirstPosition : List ℕ → List ℕ → Option ℕ → Type 0
IsFirstPosition literal text None = StandsNowhereBefore literal text (length text + 1)
IsFirstPosition literal text (Some position) = IsFirst literal text position

-- No text that these pieces match begins with a digit.
abbrev pub BeginWithoutDigit : List PieceValue → Type 0
BeginWithoutDigit ps = (text : List ℕ) (spans : List (List ℕ)) → Matches ps text spans → IsDigit (slice_index_or text 0 0) → ⊥

-- The first position after the beginning at which a text has no digit.
pub record IsDigitsEnd (text : List ℕ) (end : ℕ) : Type 0 where
  pub after : 0 < end
  pub digits : (position : ℕ) → 0 < position → position < end → IsDigit (slice_index_or text position 0)
  pub other : IsDigit (slice_index_or text end 0) → ⊥

-- A text has a number before a position.
abbrev pub HasNumberTo : List ℕ → ℕ → Type 0
HasNumberTo text end = IsCharBoundary text end × IsNumber (take end text)

-- A piece takes the text before a position. What the whole pattern finds is the value of the piece, followed by what the rest of the pattern finds after the position.
pub record TakesUpTo (piece : PieceValue) (ps : List PieceValue) (text : List ℕ) (position : ℕ) : Type 0 where
  pub boundary : IsCharBoundary text position
  pub takes : CanTake piece (take position text)
  pub goes_on : (found : Option (List FieldValue)) → IsMatchResult ps (drop position text) found → IsMatchResult (piece ∷ ps) text (option_map (λ (fields : List FieldValue). values_of piece (take position text) ++ fields) found)

-- What is known about the first piece: what it takes, or that the pattern has no match. It is unknown only if it depends on more.
abbrev pub IsPieceEnd : PieceValue → List PieceValue → List ℕ → PieceEnd → Type 0
IsPieceEnd piece ps text (At position) = TakesUpTo piece ps text position
IsPieceEnd piece ps text Nowhere = MatchesNot (piece ∷ ps) text
IsPieceEnd piece ps text Unknown = DependsOnMore piece ps

-- What is known about a plain field before a literal and other pieces, whatever the field's name.
abbrev pub IsEndBefore : List ℕ → List PieceValue → List ℕ → PieceEnd → Type 0
IsEndBefore literal ps text end = (name : List ℕ) → IsPieceEnd (FieldPiece name Plain) (Literal literal ∷ ps) text end

-- What the rest of a pattern finds in the rest of a text, with the fields so far before it, is what the whole finds.
abbrev pub IsLeft : List PieceValue → List ℕ → List FieldValue → List PieceValue → List ℕ → Type 0
IsLeft ps text fields left rest = (found : Option (List FieldValue)) → IsMatchResult left rest found → IsMatchResult ps text (option_map (λ (others : List FieldValue). fields ++ others) found)

-- The result of every pattern in every text, if these pieces and this rest are left after the fields so far.
abbrev pub FindsRest : List FieldValue → List PieceValue → List ℕ → Option (List FieldValue) → Type 0
FindsRest fields left rest found = (ps : List PieceValue) (text : List ℕ) → IsLeft ps text fields left rest → IsMatchResult ps text found
