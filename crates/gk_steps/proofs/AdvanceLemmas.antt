-- The steps that the code takes.
use Rattle.gk_steps.proofs.Common.{◌≡◌, ℕ, zero, suc, ◌<◌, ◌≤◌, Bool, true, false, List, [], ◌∷◌, ◌++◌, length, drop, get_or, Option, Some, None, ap, ◌∙◌, arith, common_steps, String, string_bytes, IsUtf8, IsUtf8-between, IsUtf8-string_bytes, Plain, Decimal, Global, FieldKind, Piece, PieceValue, Literal, FieldPiece, piece_value, AllDigits, IsSpan, AreBoundaries, part, IsAdvanceTo, IsAdvance, IsNearest}
use Rattle.gk_steps.specs.declared.pattern.Piece.TheVariants as pieces
use Rattle.gk_steps.proofs.TableLemmas.{IsTextPiece, cut_at, part_size}

-- a step over a literal
pub literal_cut : (literal text boundaries : List ℕ) (row : List Bool) (c d : ℕ) → AreBoundaries text boundaries → c < length boundaries → IsAdvanceTo (Literal literal) text boundaries row c d → drop (get_or boundaries c 0) text ≡ literal ++ drop (get_or boundaries d 0) text
literal_cut literal text boundaries row c d h l s = cut_at text boundaries c d h l s.within ∙ ap (λ f. f ++ drop (get_or boundaries d 0) text) s.takes

-- a step over a plain field
pub plain_takes : (name text boundaries : List ℕ) (row : List Bool) (c d : ℕ) → IsUtf8 text → AreBoundaries text boundaries → c < length boundaries → d < c → get_or row d false ≡ true → IsAdvanceTo (FieldPiece name Plain) text boundaries row c d
plain_takes name text boundaries row c d u h l less is = grind (arith, common_steps, part_size, IsUtf8-between)

-- a field takes something
pub before : (piece : PieceValue) (text boundaries : List ℕ) (row : List Bool) (c d : ℕ) → AreBoundaries text boundaries → c < length boundaries → IsAdvanceTo piece text boundaries row c d → 0 < length (part text boundaries c d) → d < c
before piece text boundaries row c d h l s some = grind (arith, common_steps)

pub plain_is : (name text boundaries : List ℕ) (row : List Bool) (c : ℕ) (o : Option ℕ) → IsUtf8 text → AreBoundaries text boundaries → c < length boundaries → IsNearest row c o → IsAdvance (FieldPiece name Plain) text boundaries row c o
plain_is name text boundaries row c None u h l none = λ d s. let is_false = none d (before (FieldPiece name Plain) text boundaries row c d h l s s.takes.1) in let is_true = s.rest in let bad : ⊥ = cc in bad
plain_is name text boundaries row c (Some d) u h l near = (
  plain_takes name text boundaries row c d u h l near.0 near.1,
  λ e s.
      let not_nearer : d < e → ⊥ = λ less. let is_false = near.2 e (before (FieldPiece name Plain) text boundaries row c e h l s s.takes.1) less in let is_true = s.rest in let bad : ⊥ = cc in bad in
      omega (arith, not_nearer),
)

-- the name of a field says nothing here
pub rename : (name : List ℕ) (text boundaries : List ℕ) (row : List Bool) (c d : ℕ) → IsAdvanceTo (FieldPiece [] Decimal) text boundaries row c d → IsAdvanceTo (FieldPiece name Decimal) text boundaries row c d
rename name text boundaries row c d s = record { within = s.within; rest = s.rest; takes = s.takes }

pub rename_back : (name : List ℕ) (text boundaries : List ℕ) (row : List Bool) (c d : ℕ) → IsAdvanceTo (FieldPiece name Decimal) text boundaries row c d → IsAdvanceTo (FieldPiece [] Decimal) text boundaries row c d
rename_back name text boundaries row c d s = record { within = s.within; rest = s.rest; takes = s.takes }

pub named : (name : List ℕ) (text boundaries : List ℕ) (row : List Bool) (c : ℕ) (o : Option ℕ) → IsAdvance (FieldPiece [] Decimal) text boundaries row c o → IsAdvance (FieldPiece name Decimal) text boundaries row c o
named name text boundaries row c None none = λ d s. none d (rename_back name text boundaries row c d s)
named name text boundaries row c (Some d) s = (rename name text boundaries row c d s.0, λ e t. s.1 e (rename_back name text boundaries row c e t))

-- the digits of a number
pub digits_range : (ds : List ℕ) → AllDigits 10 ds → (i : ℕ) → i < length ds → (48 ≤ get_or ds i 0) × (get_or ds i 0 < 58)
digits_range [] h i l = absurd (omega arith)
digits_range (b ∷ bs) h zero l = grind (arith, common_steps)
digits_range (b ∷ bs) h (suc i) l = digits_range bs h.1 i (omega arith)

pub decimal_some : (x : List ℕ) → IsSpan Decimal x → 0 < length x
decimal_some [] h = absurd (omega (arith, h.0.0))
decimal_some (b ∷ bs) h = omega arith

-- what a piece says, from its variant
pub field_piece : (piece : Piece) (name : String Global) (kind kind' : FieldKind) → piece ≡ pieces.Field name kind → kind ≡ kind' → piece_value piece ≡ FieldPiece (string_bytes name) kind'
field_piece piece name kind kind' e k = ap piece_value e ∙ ap (λ k. FieldPiece (string_bytes name) k) k

pub text_piece : (piece : Piece) → IsTextPiece (piece_value piece)
text_piece (pieces.Literal text) = IsUtf8-string_bytes text
text_piece (pieces.Field name kind) = tt
