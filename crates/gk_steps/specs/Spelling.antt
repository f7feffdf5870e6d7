-- Proof machinery: reading a pattern from its text, piece by piece.
use Rattle.std.specs.Prelude.{codes, ◌≡◌, ℕ, Bool, true, false, not, nat_lt, is_some, ◌==◌, ◌||◌, ◌&&◌, IsTrue, List, [], ◌∷◌, ◌++◌, length, flat_map, map, Result, Ok, Err, Vec}
use Rattle.std.specs.List.{AllByRecursion, list_all}
use Rattle.std.specs.declared.alloc.Global.{Global}
use Rattle.gk_steps.specs.declared.pattern.FieldKind.{FieldKind}
use Rattle.gk_steps.specs.declared.pattern.FieldKind.TheVariants.{Plain, Decimal}
use Rattle.gk_steps.specs.declared.pattern.Piece.{Piece}
use Rattle.gk_steps.specs.declared.pattern.PatternFault.{PatternFault}
use Rattle.gk_steps.specs.declared.pattern.PatternFault.TheVariants.{Memory}
use Rattle.gk_steps.specs.Pattern.{PieceValue, Literal, FieldPiece, piece_value, piece_values, spelled_literal, spelled_piece, is_name_byte, is_field_name, field_names, field_kind, AreLongestRuns}

-- A brace: `{` or `}`.
abbrev pub is_brace : ℕ → Bool
is_brace b = (b == 123) || (b == 125)

-- A text that is empty or begins with a brace.
abbrev pub BeginsAtBrace : List ℕ → Type 0
BeginsAtBrace [] = Unit {0}
BeginsAtBrace (b ∷ bs) = is_brace b ≡ true

-- A text at which a literal ends: it is empty, or begins with a brace that isn't doubled.
abbrev pub EndsLiteral : List ℕ → Type 0
EndsLiteral [] = Unit {0}
EndsLiteral (b ∷ []) = is_brace b ≡ true
EndsLiteral (b ∷ c ∷ bs) = (is_brace b ≡ true) × (c ≡ b → ⊥)

-- A text that doesn't begin with a byte of a name.
abbrev pub EndsName : List ℕ → Type 0
EndsName [] = Unit {0}
EndsName (b ∷ bs) = is_name_byte b ≡ false

-- A text begins with no other complete run of name bytes, and has no other rest after it.
abbrev pub IsOnlyName : List ℕ → List ℕ → List ℕ → Type 0
IsOnlyName text name rest = (other after : List ℕ) → list_all is_name_byte other ≡ true → EndsName after → text ≡ other ++ after → (name ≡ other) × (rest ≡ after)

-- What follows the name of a field of this kind.
abbrev pub field_tail : FieldKind → List ℕ
field_tail Plain = codes "}"
field_tail Decimal = codes ":d}"

-- The pieces of a literal: none if it is empty.
abbrev pub literal_pieces : List ℕ → List PieceValue
literal_pieces [] = []
literal_pieces (b ∷ bs) = Literal (b ∷ bs) ∷ []

-- The pieces that a text spells, if names may occur twice.
pub record IsSpelled (text : List ℕ) (ps : List PieceValue) : Type 0 where
  pub spelled : text ≡ flat_map spelled_piece ps
  pub names : AllByRecursion (λ name. IsTrue (is_field_name name)) (field_names ps)
  pub runs : AreLongestRuns ps

-- A literal that was read, and the text after it.
pub record HasLiteral (text : List ℕ) (literal : List ℕ) (rest : List ℕ) : Type 0 where
  pub whole : text ≡ flat_map spelled_literal literal ++ rest
  pub end : EndsLiteral rest

-- A field that was read, and the text after it.
pub record HasField (text : List ℕ) (name : List ℕ) (kind : FieldKind) (rest : List ℕ) : Type 0 where
  pub is_name : IsTrue (is_field_name name)
  pub whole : text ≡ spelled_piece (FieldPiece name kind) ++ rest

-- A text that begins with no field.
abbrev pub HasNoField : List ℕ → Type 0
HasNoField text = (name : List ℕ) (kind : FieldKind) (rest : List ℕ) → HasField text name kind rest → ⊥

-- Pieces followed by the literal that a text begins with, unless it is empty.
pub record AddsLiteral (text : List ℕ) (before : List PieceValue) (after : List PieceValue) (rest : List ℕ) : Type 0 where
  pub literal : List ℕ
  pub has : HasLiteral text literal rest
  pub added : after ≡ before ++ literal_pieces literal

-- Pieces followed by the field that a text begins with.
pub record AddsField (text : List ℕ) (before : List PieceValue) (after : List PieceValue) (rest : List ℕ) : Type 0 where
  pub name : List ℕ
  pub kind : FieldKind
  pub has : HasField text name kind rest
  pub added : after ≡ before ++ FieldPiece name kind ∷ []

-- The field that a text begins with is added to the values of pieces, and this is the rest.
abbrev pub PushesField : List ℕ → List Piece → List Piece → List ℕ → Type 0
PushesField text before after rest = AddsField text (piece_values before) (piece_values after) rest

-- The literal that a text begins with is added to the values of pieces, and this is the rest.
abbrev pub PushesLiteral : List ℕ → List Piece → List Piece → List ℕ → Type 0
PushesLiteral text before after rest = AddsLiteral text (piece_values before) (piece_values after) rest

-- Pieces whose first, if there is one, is a field.
abbrev pub BeginWithField : List PieceValue → Type 0
BeginWithField [] = Unit {0}
BeginWithField (Literal text ∷ ps) = ⊥
BeginWithField (FieldPiece name kind ∷ ps) = Unit {0}

-- The pieces of a text that are left after some were read.
pub record ArePiecesLeft (done : List PieceValue) (rest : List ℕ) (ps : List PieceValue) : Type 0 where
  pub left : List PieceValue
  pub whole : ps ≡ done ++ left
  pub spelled : IsSpelled rest left
  pub field : BeginWithField left

-- Pieces that were read, and the text that is left.
pub record IsReadTo (text : List ℕ) (done : List PieceValue) (rest : List ℕ) : Type 0 where
  pub build : (ps : List PieceValue) → IsSpelled rest ps → BeginWithField ps → IsSpelled text (done ++ ps)
  pub take : (ps : List PieceValue) → IsSpelled text ps → ArePiecesLeft done rest ps

-- The returned pieces have these values, or memory was refused.
abbrev pub AnswersPieces : Result (Vec Piece Global) PatternFault → List PieceValue → Type 0
AnswersPieces (Ok pieces) ps = map piece_value pieces.items ≡ ps
AnswersPieces (Err fault) ps = fault ≡ Memory

-- Whether no name occurs twice.
abbrev pub are_distinct : List PieceValue → Bool
are_distinct [] = true
are_distinct (Literal text ∷ ps) = are_distinct ps
are_distinct (FieldPiece name kind ∷ ps) = not (is_some (field_kind ps name)) && are_distinct ps

-- Whether pieces form a pattern: there is at least one, and no name occurs twice.
abbrev pub is_pattern : List PieceValue → Bool
is_pattern ps = nat_lt 0 (length ps) && are_distinct ps
