-- The pieces that a pattern's text spells, computed byte by byte.
use Rattle.std.specs.Prelude.{◌≡◌, ℕ, Bool, true, false, ◌==◌, ◌&&◌, List, [], ◌∷◌, ◌++◌, flat_map, Option, Some, None, if◌then◌else◌}
use Rattle.std.specs.List.{list_all}
use Rattle.std.specs.Str.{bytes_eq}
use Rattle.gk_steps.specs.declared.pattern.FieldKind.TheVariants.{Plain, Decimal}
use Rattle.gk_steps.specs.Pattern.{PieceValue, Literal, FieldPiece, spelled_piece, is_name_byte, is_field_name, field_names, SpellsPattern}
use Rattle.gk_steps.specs.Spelling.{is_brace, is_pattern}

-- A place in the text of a pattern: outside of fields, after a brace, in a name after these bytes of it, and after the colon and the `d` behind a name.
pub data PatternPlace : Type 0 where
  Outside : PatternPlace
  AfterBrace : ℕ → PatternPlace
  InName : List ℕ → PatternPlace
  AfterColon : List ℕ → PatternPlace
  AfterLetter : List ℕ → PatternPlace

-- Pieces after one more byte of a literal in front.
abbrev pub after_byte : ℕ → List PieceValue → List PieceValue
after_byte b (Literal text ∷ ps) = Literal (b ∷ text) ∷ ps
after_byte b ps = Literal (b ∷ []) ∷ ps

-- The pieces of a text from this place on, if it spells any: one brace opens a field, and two of them are one byte of a literal. (Python's format strings; behave's documentation: step parameters)
abbrev pub pieces_from : PatternPlace → List ℕ → List PieceValue
pieces_from place [] = []
pieces_from Outside (b ∷ bs) = if is_brace b then pieces_from (AfterBrace b) bs else after_byte b (pieces_from Outside bs)
pieces_from (AfterBrace brace) (b ∷ bs) = if b == brace then after_byte b (pieces_from Outside bs) else pieces_from (InName (b ∷ [])) bs
pieces_from (InName name) (b ∷ bs) = if is_name_byte b then pieces_from (InName (name ++ b ∷ [])) bs else (if b == 125 then FieldPiece name Plain ∷ pieces_from Outside bs else pieces_from (AfterColon name) bs)
pieces_from (AfterColon name) (b ∷ bs) = pieces_from (AfterLetter name) bs
pieces_from (AfterLetter name) (b ∷ bs) = FieldPiece name Decimal ∷ pieces_from Outside bs

-- Whether literals are the longest runs: none is empty, and no literal comes right after another.
abbrev pub are_longest_runs : List PieceValue → Bool
are_longest_runs [] = true
are_longest_runs (Literal text ∷ Literal text' ∷ ps) = false
are_longest_runs (Literal [] ∷ ps) = false
are_longest_runs (Literal (b ∷ bs) ∷ ps) = are_longest_runs ps
are_longest_runs (FieldPiece name kind ∷ ps) = are_longest_runs ps

-- Whether a text spells these pieces.
abbrev pub spells_pattern : List ℕ → List PieceValue → Bool
spells_pattern text ps = bytes_eq (flat_map spelled_piece ps) text && (list_all is_field_name (field_names ps) && (are_longest_runs ps && is_pattern ps))

-- The pieces that a text spells; none if it spells no pattern.
unfoldable pub pieces_of : List ℕ → Option (List PieceValue)
pieces_of text = let ps = pieces_from Outside text in if spells_pattern text ps then Some ps else None

-- The computed pieces are those that a text spells.
pub record SpellingIsComputed : Type 0 where
  pub computed : (text : List ℕ) (ps : List PieceValue) → SpellsPattern text ps → pieces_of text ≡ Some ps
  pub spelled : (text : List ℕ) (ps : List PieceValue) → pieces_of text ≡ Some ps → SpellsPattern text ps
