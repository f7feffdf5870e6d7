-- The meaning of a step library file, line by line.
use Rattle.std.specs.Prelude.{codes, not, ◌≡◌, ℕ, Bool, false, ◌==◌, ◌||◌, List, [], ◌∷◌, ◌++◌, length, drop, filter, IsSome, Option, Some, None, option_map, if◌then◌else◌, Result, Ok, Err}
use Rattle.std.specs.List.{AllByRecursion, before_first, after_first}
use Rattle.std.specs.Str.{bytes_eq}
use Rattle.gk_gherkin.specs.declared.feature.StepType.{StepType}
use Rattle.gk_gherkin.specs.declared.feature.StepType.TheVariants.{Given, When, Then}
use Rattle.gk_gherkin.specs.Lines.{LineValue, Lines}
use Rattle.gk_gherkin.specs.Text.{is_blank, trim}
use Rattle.gk_gherkin.specs.Text.{begins}
use Rattle.gk_steps.specs.declared.pattern.FieldKind.{FieldKind}
use Rattle.gk_steps.specs.declared.library.Library.{Library}
use Rattle.gk_steps.specs.declared.library_fault.LibraryFault.{LibraryFault}
use Rattle.gk_steps.specs.declared.library_fault.LibraryFault.TheVariants.{Memory}
use Rattle.gk_steps.specs.Pattern.{PieceValue, BeginsWithPiece, SpellsPattern, field_kind}
use Rattle.gk_steps.specs.Matching.{Matches}
use Rattle.gk_steps.specs.Finding.{EntryValue, LibraryValue, NoneFound, library_value}
use Rattle.gk_steps.specs.Action.{ActionRowValue, action_row, kind_of_field}

-- Ignored lines: trimmed, they are empty or begin with `#`.
abbrev pub is_ignored : LineValue → Bool
is_ignored line = (length (trim line.text) == 0) || begins (trim line.text) (codes "#")

-- The entry type that a word names: `Some None` for `step`, and `None` for a word that names no type.
abbrev pub entry_type : List ℕ → Option (Option StepType)
entry_type word =
    if bytes_eq word (codes "given") then Some (Some Given) else
    (if bytes_eq word (codes "when") then Some (Some When) else
    (if bytes_eq word (codes "then") then Some (Some Then) else
    (if bytes_eq word (codes "step") then Some None else None)))

-- The type of a line: what the word before the first space or tab of the trimmed line names.
unfoldable pub type_of : LineValue → Option (Option StepType)
type_of line = entry_type (before_first is_blank (trim line.text))

-- The two sides of an `=>`: a pattern's text and an action's name.
pub record Sides : Type 0 where
  pub pattern : List ℕ
  pub action : List ℕ

-- The sides after one more byte in front. It joins the left side if a later `=>` was found; otherwise it may begin an `=>`.
abbrev pub into_sides : List ℕ → Option Sides → Option Sides
into_sides (b ∷ bs) (Some sides) = Some (record { pattern = b ∷ sides.pattern; action = sides.action })
into_sides (b ∷ bs) None = if begins (b ∷ bs) (codes "=>") then Some (record { pattern = []; action = drop 1 bs }) else None
into_sides [] sides = None

-- The two sides of the last `=>` in a text; none if there is no `=>`.
unfoldable pub last_arrow : List ℕ → Option Sides
last_arrow [] = None
last_arrow (b ∷ bs) = into_sides (b ∷ bs) (last_arrow bs)

-- Both sides, trimmed.
abbrev pub trimmed_sides : Sides → Sides
trimmed_sides sides = record { pattern = trim sides.pattern; action = trim sides.action }

-- The pattern's text and the action's name: the trimmed sides of the last `=>` after the type. None if there is no `=>` after it.
unfoldable pub sides_of : LineValue → Option Sides
sides_of line = option_map trimmed_sides (last_arrow (after_first is_blank (trim line.text)))

-- The pattern has each field that the action needs.
abbrev pub HasNeededFields : ActionRowValue → List PieceValue → Type 0
HasNeededFields row ps = AllByRecursion (λ name. IsSome (field_kind ps name)) row.needs

-- Each field of the pattern that the action uses is of the kind that its name requires.
abbrev pub HasRightKinds : ActionRowValue → List PieceValue → Type 0
HasRightKinds row ps = AllByRecursion (λ name. (kind : FieldKind) → field_kind ps name ≡ Some kind → kind ≡ kind_of_field name) row.uses

-- A line that spells an entry, after earlier ones: its number, a type, a pattern and an action. The pattern has the fields that the action needs, and those that it uses are of the right kinds. No earlier entry of the type matches the pattern's text as written. (behave's documentation: ambiguous steps)
pub record SpellsEntry (earlier : List EntryValue) (line : LineValue) (entry : EntryValue) : Type 0 where
  pub is_line : entry.line ≡ line.line
  pub sides : Sides
  pub row : ActionRowValue
  pub is_type : type_of line ≡ Some entry.step_type
  pub is_cut : sides_of line ≡ Some sides
  pub is_pattern : SpellsPattern sides.pattern entry.pattern
  pub is_action : action_row sides.action ≡ Some row
  pub action : entry.action ≡ row.action
  pub needs : HasNeededFields row entry.pattern
  pub kinds : HasRightKinds row entry.pattern
  pub unambiguous : NoneFound earlier entry.step_type sides.pattern

-- Lines that spell entries, one each, in order.
abbrev pub SpellEntries : List EntryValue → Lines → List EntryValue → Type 0
SpellEntries earlier [] [] = Unit {0}
SpellEntries earlier (line ∷ ls) (entry ∷ entries) = SpellsEntry earlier line entry × SpellEntries (earlier ++ entry ∷ []) ls entries
SpellEntries earlier _ _ = ⊥

-- The reading of a library file's lines: each line that isn't ignored spells an entry.
abbrev pub ReadsLibrary : Lines → List EntryValue → Type 0
ReadsLibrary ls entries = SpellEntries [] (filter (λ line. not (is_ignored line)) ls) entries

-- Lines that have a reading as a library.
abbrev pub IsReadableLibrary : Lines → Type 0
IsReadableLibrary ls = (entries : List EntryValue) × ReadsLibrary ls entries

-- The fault of a line whose first word names no type.
abbrev pub IsBadType : List EntryValue → LineValue → Type 0
IsBadType earlier line = type_of line ≡ None

-- After a valid type: no `=>`, or a text that spells no pattern.
pub record IsBadPattern (earlier : List EntryValue) (line : LineValue) : Type 0 where
  pub step_type : Option StepType
  pub is_type : type_of line ≡ Some step_type
  pub bad : (sides : Sides) (ps : List PieceValue) → sides_of line ≡ Some sides → SpellsPattern sides.pattern ps → ⊥

-- The valid type and pattern of a line whose fault concerns its action, its fields or an earlier entry.
pub record HasPattern (line : LineValue) (step_type : Option StepType) (sides : Sides) (ps : List PieceValue) : Type 0 where
  pub is_type : type_of line ≡ Some step_type
  pub is_cut : sides_of line ≡ Some sides
  pub is_pattern : SpellsPattern sides.pattern ps

-- After a valid type and pattern: a name that no action has.
pub record IsUnknownAction (earlier : List EntryValue) (line : LineValue) : Type 0 where
  pub step_type : Option StepType
  pub sides : Sides
  pub ps : List PieceValue
  pub good : HasPattern line step_type sides ps
  pub bad : action_row sides.action ≡ None

-- After a known action: a pattern that lacks a field that the action needs.
pub record IsMissingField (earlier : List EntryValue) (line : LineValue) : Type 0 where
  pub step_type : Option StepType
  pub sides : Sides
  pub ps : List PieceValue
  pub row : ActionRowValue
  pub good : HasPattern line step_type sides ps
  pub is_action : action_row sides.action ≡ Some row
  pub bad : HasNeededFields row ps → ⊥

-- After all needed fields: a used field of the wrong kind.
pub record IsOtherKind (earlier : List EntryValue) (line : LineValue) : Type 0 where
  pub step_type : Option StepType
  pub sides : Sides
  pub ps : List PieceValue
  pub row : ActionRowValue
  pub good : HasPattern line step_type sides ps
  pub is_action : action_row sides.action ≡ Some row
  pub needs : HasNeededFields row ps
  pub bad : HasRightKinds row ps → ⊥

-- After the right kinds: an earlier entry of the same type matches the pattern's text as written.
pub record IsAmbiguous (earlier : List EntryValue) (line : LineValue) : Type 0 where
  pub step_type : Option StepType
  pub sides : Sides
  pub ps : List PieceValue
  pub row : ActionRowValue
  pub good : HasPattern line step_type sides ps
  pub is_action : action_row sides.action ≡ Some row
  pub needs : HasNeededFields row ps
  pub kinds : HasRightKinds row ps
  pub before : List EntryValue
  pub entry : EntryValue
  pub after : List EntryValue
  pub whole : earlier ≡ before ++ entry ∷ after
  pub same : entry.step_type ≡ step_type
  pub spans : List (List ℕ)
  pub matches : Matches entry.pattern sides.pattern spans

-- A fault on line n: the lines before it are a library, the lines up to and including it begin none, and the fault's own condition holds for it.
pub record StopsLibraryAt (ls : Lines) (n : ℕ) (Fault : List EntryValue → LineValue → Type 0) : Type 0 where
  pub before : Lines
  pub line : LineValue
  pub after : Lines
  pub whole : ls ≡ before ++ line ∷ after
  pub number : line.line ≡ n
  pub entries : List EntryValue
  pub fits : ReadsLibrary before entries
  pub counts : is_ignored line ≡ false
  pub stops : (more : Lines) → IsReadableLibrary (before ++ line ∷ more) → ⊥
  pub fault : Fault entries line

-- A line with a type, an `=>` and a pattern's text that begins with a piece. Reading any other line asks for no memory.
pub record EntryNeedsMemory (line : LineValue) : Type 0 where
  pub step_type : Option StepType
  pub sides : Sides
  pub is_type : type_of line ≡ Some step_type
  pub is_cut : sides_of line ≡ Some sides
  pub needs : BeginsWithPiece sides.pattern

-- The first line that isn't ignored asks for memory. No line before it does, and no first line of another form does.
pub record LibraryNeedsMemory (ls : Lines) : Type 0 where
  pub line : LineValue
  pub rest : Lines
  pub first : filter (λ line. not (is_ignored line)) ls ≡ line ∷ rest
  pub needs : EntryNeedsMemory line

-- A returned library has these entries, or memory was refused.
abbrev pub AnswersLibrary : Result Library LibraryFault → LibraryValue → Type 0
AnswersLibrary (Ok library) entries = library_value library ≡ entries
AnswersLibrary (Err fault) entries = fault ≡ Memory

-- Lines have at most one reading.
abbrev pub LibraryReadingIsUnique : Type 0
LibraryReadingIsUnique = (ls : Lines) (a b : List EntryValue) → ReadsLibrary ls a → ReadsLibrary ls b → a ≡ b
