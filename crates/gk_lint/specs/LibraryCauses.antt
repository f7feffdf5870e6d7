-- Causes of the faults of a library's lines, and what to do about each.
use Rattle.std.specs.Prelude.{codes, ℕ, suc, ◌-◌, Bool, false, not, is_some, ◌&&◌, List, [], ◌∷◌, ◌++◌, take, find, flat_map, slice_get, Option, Some, None, option_map, option_and_then, if◌then◌else◌}
use Rattle.std.specs.Fmt.{decimal}
use Rattle.gk_gherkin.specs.declared.feature.StepType.{StepType}
use Rattle.gk_steps.specs.declared.pattern.FieldKind.{FieldKind}
use Rattle.gk_steps.specs.declared.pattern.FieldKind.TheVariants.{Plain, Decimal}
use Rattle.gk_steps.specs.declared.library_fault.LibraryFault.{LibraryFault}
use Rattle.gk_steps.specs.declared.library_fault.LibraryFault.TheVariants.{UnknownAction, MissingField, FieldKind as KindFault, Ambiguous}
use Rattle.gk_steps.specs.declared.library_line.EntryText.{EntryText}
use Rattle.gk_steps.specs.Pattern.{PieceValue, FieldPiece, spelled_piece, field_kind}
use Rattle.gk_steps.specs.PatternReading.{pieces_of}
use Rattle.gk_steps.specs.Matching.{match_of}
use Rattle.gk_steps.specs.Finding.{is_of_type}
use Rattle.gk_steps.specs.Action.{ActionRowValue, action_row_value, action_table, action_row, kind_of_field}
use Rattle.gk_steps.specs.LibraryFile.{Sides, type_of, sides_of}
use Rattle.gk_steps.specs.LibraryFault.{line_of_library_fault}
use Rattle.gk_steps.specs.LibraryLine.{has_right_kind}
use Rattle.gk_lint.specs.declared.library_causes.LibraryCause.{LibraryCause}
use Rattle.gk_lint.specs.declared.library_causes.LibraryCause.TheVariants as causes
use Rattle.gk_lint.specs.Likeness.{is_one_off}
use Rattle.gk_lint.specs.LineContext.{unplaced}

-- The cause of a fault: a missing field that an action needs, a field of the wrong kind, an unknown name that is near that of an action, or the line of an earlier entry that matches the pattern, too.
pub data CauseValue : Type 0 where
  Lacks : ActionRowValue → List ℕ → CauseValue
  OtherKind : ActionRowValue → List ℕ → CauseValue
  NearAction : ActionRowValue → CauseValue
  MatchedBy : ℕ → CauseValue

-- The value of a `LibraryCause`.
abbrev pub cause_value : LibraryCause → CauseValue
cause_value (causes.Lacks row field) = Lacks (action_row_value row) field.now
cause_value (causes.OtherKind row field) = OtherKind (action_row_value row) field.now
cause_value (causes.NearAction row) = NearAction (action_row_value row)
cause_value (causes.MatchedBy line) = MatchedBy line

-- The field of this name as a pattern has to spell it.
abbrev pub field_text : List ℕ → List ℕ
field_text name = spelled_piece (FieldPiece name (kind_of_field name))

-- A further field of a list.
abbrev pub further_field : List ℕ → List ℕ
further_field name = codes " and " ++ field_text name

-- The fields of these names, in a list.
abbrev pub fields_text : List (List ℕ) → List ℕ
fields_text [] = []
fields_text (name ∷ names) = field_text name ++ flat_map further_field names

-- The words for a field of this kind, before the name of its action.
abbrev pub kind_words : FieldKind → List ℕ
kind_words Plain = codes " is a text in "
kind_words Decimal = codes " is a number in "

-- What to do about a line, by its cause.
abbrev pub library_cause_text : CauseValue → List ℕ
library_cause_text (Lacks row field) = row.name ++ (codes " needs " ++ (fields_text row.needs ++ (codes "; missing: " ++ field_text field)))
library_cause_text (OtherKind row field) = codes "write " ++ (field_text field ++ (codes ": " ++ (field ++ (kind_words (kind_of_field field) ++ row.name))))
library_cause_text (NearAction row) = codes "the nearest action is " ++ (row.name ++ codes "; docs/guide/library_files.md lists all")
library_cause_text (MatchedBy line) = codes "line " ++ (decimal line ++ codes " matches it, too: put the special entry first, or make it differ")

-- The type of an entry, and the texts on the two sides of its arrow.
pub record EntryParts : Type 0 where
  pub step_type : Option StepType
  pub sides : Sides

-- Proof machinery: the value of an `EntryText`.
abbrev pub parts_value : EntryText → EntryParts
parts_value text = record { step_type = text.step_type; sides = record { pattern = text.pattern.now; action = text.action.now } }

-- The parts of an entry, if both are known.
abbrev pub parts_with : Option (Option StepType) → Option Sides → Option EntryParts
parts_with (Some step_type) (Some sides) = Some (record { step_type = step_type; sides = sides })
parts_with (Some step_type) None = None
parts_with None sides = None

-- The parts of the entry that a line with this text spells, if it has a type and an arrow.
abbrev pub parts_of : List ℕ → Option EntryParts
parts_of text = parts_with (type_of (unplaced text)) (sides_of (unplaced text))

-- Whether pieces lack the field of this name.
abbrev pub lacks : List PieceValue → List ℕ → Bool
lacks ps name = not (is_some (field_kind ps name))

-- Whether pieces have the field of this name, but of the wrong kind.
abbrev pub has_other_kind : List PieceValue → List ℕ → Bool
has_other_kind ps name = not (has_right_kind ps name)

-- The field of pieces that a fault concerns: the first that the action needs and they lack, or the first that it uses and is of the wrong kind in them.
abbrev pub wrong_field : LibraryFault → ActionRowValue → List PieceValue → Option CauseValue
wrong_field (MissingField n) row ps = option_map (Lacks row) (find (lacks ps) row.needs)
wrong_field (KindFault n) row ps = option_map (OtherKind row) (find (has_other_kind ps) row.uses)
wrong_field fault row ps = None

-- The field of an entry that a fault concerns, if the entry has an action and a pattern.
abbrev pub field_cause : LibraryFault → Sides → Option CauseValue
field_cause fault sides = option_and_then (λ row. option_and_then (wrong_field fault row) (pieces_of sides.pattern)) (action_row sides.action)

-- Whether the name of an action is at most one letter off from this one, ignoring case.
abbrev pub is_near : List ℕ → ActionRowValue → Bool
is_near name row = is_one_off name row.name

-- Whether these pieces match a text.
abbrev pub pieces_match : List ℕ → List PieceValue → Bool
pieces_match text ps = is_some (match_of ps text)

-- Whether a pattern with this text matches another text.
abbrev pub spelled_matches : Option (List PieceValue) → List ℕ → Bool
spelled_matches None text = false
spelled_matches (Some ps) text = pieces_match text ps

-- Whether an entry has the type of another one, and matches the text of its pattern. (behave's documentation: ambiguous steps)
abbrev pub entry_matches : EntryParts → Option EntryParts → Bool
entry_matches parts None = false
entry_matches parts (Some other) = is_of_type other.step_type parts.step_type && spelled_matches (pieces_of other.sides.pattern) parts.sides.pattern

-- The number of the first of some lines that spells an entry of the same type that matches, if the first line has the number after this one.
abbrev pub first_match : EntryParts → ℕ → List (List ℕ) → Option ℕ
first_match parts before [] = None
first_match parts before (line ∷ lines) = if entry_matches parts (parts_of line) then Some (suc before) else first_match parts (suc before) lines

-- The cause of a fault of an entry below these lines, if one can be named. (behave's documentation: step implementations)
abbrev pub cause_of : List (List ℕ) → LibraryFault → EntryParts → Option CauseValue
cause_of above (UnknownAction n) parts = option_map NearAction (find (is_near parts.sides.action) action_table)
cause_of above (Ambiguous n) parts = option_map MatchedBy (first_match parts 0 above)
cause_of above fault parts = field_cause fault parts.sides

-- The cause of a fault at the line at a position, if the file has it.
abbrev pub cause_at_line : List (List ℕ) → LibraryFault → ℕ → Option (List ℕ) → Option CauseValue
cause_at_line texts fault position None = None
cause_at_line texts fault position (Some text) = option_and_then (cause_of (take position texts) fault) (parts_of text)

-- The cause of a fault of a library file whose lines have these texts, if one can be named.
abbrev pub library_cause : List (List ℕ) → LibraryFault → Option CauseValue
library_cause texts fault = option_and_then (λ n. cause_at_line texts fault (n - 1) (slice_get texts (n - 1))) (line_of_library_fault fault)
