-- Patterns, and the texts that spell them.
use Rattle.std.specs.Prelude.{codes, ◌≡◌, ◌≢◌, ◌<◌, ℕ, Bool, false, ◌==◌, ◌||◌, ◌&&◌, nat_le, IsTrue, List, [], ◌∷◌, ◌++◌, length, map, flat_map, string_bytes, Option, Some, None, if◌then◌else◌}
use Rattle.std.specs.List.{AllByRecursion, list_all}
use Rattle.std.specs.Str.{bytes_eq}
use Rattle.gk_steps.specs.declared.pattern.FieldKind.{FieldKind}
use Rattle.gk_steps.specs.declared.pattern.FieldKind.TheVariants.{Plain, Decimal}
use Rattle.gk_steps.specs.declared.pattern.Piece.{Piece}
use Rattle.gk_steps.specs.declared.pattern.Piece.TheVariants as pieces
use Rattle.gk_steps.specs.declared.pattern.Pattern.{Pattern}

-- A piece of a pattern: a run of literal characters, or a field with its name and kind. (behave's documentation: step parameters)
pub data PieceValue : Type 0 where
  Literal : List ℕ → PieceValue
  FieldPiece : List ℕ → FieldKind → PieceValue

-- The value of a `Piece`.
abbrev pub piece_value : Piece → PieceValue
piece_value (pieces.Literal text) = Literal (string_bytes text)
piece_value (pieces.Field name kind) = FieldPiece (string_bytes name) kind

-- The values of pieces, in order.
abbrev pub piece_values : List Piece → List PieceValue
piece_values pieces = map piece_value pieces

-- The value of a `Pattern`.
abbrev pub pattern_value : Pattern → List PieceValue
pattern_value p = map piece_value p.pieces.items

-- The spelling of a byte of a literal: braces are doubled. (Python's format strings)
abbrev pub spelled_literal : ℕ → List ℕ
spelled_literal b = if (b == 123) || (b == 125) then b ∷ b ∷ [] else b ∷ []

-- The spelling of a piece. A plain field is spelled `{name}`, a field of the other kind `{name:d}`. (behave's documentation: step parameters)
abbrev pub spelled_piece : PieceValue → List ℕ
spelled_piece (Literal text) = flat_map spelled_literal text
spelled_piece (FieldPiece name Plain) = codes "{" ++ name ++ codes "}"
spelled_piece (FieldPiece name Decimal) = codes "{" ++ name ++ codes ":d}"

-- An ASCII letter or `_`.
abbrev pub is_name_letter : ℕ → Bool
is_name_letter b = (nat_le 65 b && nat_le b 90) || ((nat_le 97 b && nat_le b 122) || (b == 95))

-- An ASCII letter, a digit or `_`.
abbrev pub is_name_byte : ℕ → Bool
is_name_byte b = is_name_letter b || (nat_le 48 b && nat_le b 57)

-- A field's name: an ASCII letter or `_`, then ASCII letters, digits and `_`.
abbrev pub is_field_name : List ℕ → Bool
is_field_name [] = false
is_field_name (b ∷ bs) = is_name_letter b && list_all is_name_byte bs

-- A piece that a pattern can have: a literal that isn't empty, or a field with a valid name.
abbrev pub IsPiece : PieceValue → Type 0
IsPiece (Literal text) = 0 < length text
IsPiece (FieldPiece name kind) = IsTrue (is_field_name name)

-- A text that begins with a piece. Reading any other text as a pattern asks for no memory.
pub record BeginsWithPiece (text : List ℕ) : Type 0 where
  pub piece : PieceValue
  pub rest : List ℕ
  pub is_piece : IsPiece piece
  pub whole : text ≡ spelled_piece piece ++ rest

-- The names of a pattern's fields, in order.
abbrev pub field_names : List PieceValue → List (List ℕ)
field_names [] = []
field_names (Literal text ∷ ps) = field_names ps
field_names (FieldPiece name kind ∷ ps) = name ∷ field_names ps

-- No name occurs twice.
abbrev pub AreDistinctNames : List (List ℕ) → Type 0
AreDistinctNames [] = Unit {0}
AreDistinctNames (name ∷ names) = AllByRecursion (λ other. other ≢ name) names × AreDistinctNames names

-- Literals are the longest runs: none is empty, and no literal comes right after another.
abbrev pub AreLongestRuns : List PieceValue → Type 0
AreLongestRuns [] = Unit {0}
AreLongestRuns (Literal text ∷ Literal text' ∷ ps) = ⊥
AreLongestRuns (Literal text ∷ ps) = (0 < length text) × AreLongestRuns ps
AreLongestRuns (FieldPiece name kind ∷ ps) = AreLongestRuns ps

-- A text spells these pieces: it is their spellings, joined. The literals are the longest runs, the names are valid and none occurs twice, and there is at least one piece. (behave's documentation: step parameters; which names are valid is this project's profile)
pub record SpellsPattern (text : List ℕ) (ps : List PieceValue) : Type 0 where
  pub spelled : text ≡ flat_map spelled_piece ps
  pub names : AllByRecursion (λ name. IsTrue (is_field_name name)) (field_names ps)
  pub distinct : AreDistinctNames (field_names ps)
  pub runs : AreLongestRuns ps
  pub some : 0 < length ps

-- The kind of the field of this name; none if the pattern has no such field.
abbrev pub field_kind : List PieceValue → List ℕ → Option FieldKind
field_kind [] name = None
field_kind (Literal text ∷ ps) name = field_kind ps name
field_kind (FieldPiece other kind ∷ ps) name = if bytes_eq other name then Some kind else field_kind ps name

-- A text spells at most one pattern.
abbrev pub SpellingIsUnique : Type 0
SpellingIsUnique = (text : List ℕ) (a b : List PieceValue) → SpellsPattern text a → SpellsPattern text b → a ≡ b
