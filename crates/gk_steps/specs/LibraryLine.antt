-- The type, the pattern's text and the action's name of a library's line; and the kinds of fields.
use Rattle.std.specs.Prelude.{◌≡◌, ℕ, Bool, true, false, is_some, List, [], ◌∷◌, ◌++◌, Option, Some, None}
use Rattle.std.specs.List.{list_all}
use Rattle.gk_gherkin.specs.Lines.{LineValue}
use Rattle.gk_gherkin.specs.declared.feature.StepType.{StepType}
use Rattle.gk_steps.specs.declared.action.Action.{Action}
use Rattle.gk_steps.specs.declared.pattern.FieldKind.{FieldKind}
use Rattle.gk_steps.specs.declared.pattern.FieldKind.TheVariants.{Plain, Decimal}
use Rattle.gk_steps.specs.declared.library_fault.LibraryFault.{LibraryFault}
use Rattle.gk_steps.specs.declared.library_fault.LibraryFault.TheVariants as faults
use Rattle.gk_steps.specs.Pattern.{PieceValue, BeginsWithPiece, SpellsPattern, field_kind}
use Rattle.gk_steps.specs.Action.{ActionRowValue, action_row, kind_of_field}
use Rattle.gk_steps.specs.Finding.{EntryValue}
use Rattle.gk_steps.specs.LibraryFile.{Sides, SpellsEntry, is_ignored, type_of, sides_of, HasNeededFields, HasRightKinds, IsBadType, IsBadPattern, IsUnknownAction, IsMissingField, IsOtherKind, IsAmbiguous, EntryNeedsMemory}

-- A line's type and the two sides of its arrow.
pub record IsEntryText (line : LineValue) (step_type : Option StepType) (pattern : List ℕ) (action : List ℕ) : Type 0 where
  pub is_type : type_of line ≡ Some step_type
  pub is_cut : sides_of line ≡ Some (record { pattern = pattern; action = action })

-- The reason why a line has no type, or no arrow after it.
abbrev pub EntryTextFaultSays : LibraryFault → LineValue → Type 0
EntryTextFaultSays (faults.BadType n) line = (n ≡ line.line) × (type_of line ≡ None)
EntryTextFaultSays (faults.BadPattern n) line = (n ≡ line.line) × (step_type : Option StepType) × (type_of line ≡ Some step_type) × (sides_of line ≡ None)
EntryTextFaultSays _ line = ⊥

-- Whether two field kinds are equal.
abbrev pub is_same_kind : FieldKind → FieldKind → Bool
is_same_kind Plain Plain = true
is_same_kind Decimal Decimal = true
is_same_kind _ _ = false

-- Whether there is a field of this kind or no field.
abbrev pub is_none_or_kind : Option FieldKind → FieldKind → Bool
is_none_or_kind None kind = true
is_none_or_kind (Some other) kind = is_same_kind other kind

-- Whether the field of this name, if there is one, is of the kind that the name requires.
abbrev pub has_right_kind : List PieceValue → List ℕ → Bool
has_right_kind ps name = is_none_or_kind (field_kind ps name) (kind_of_field name)

-- Proof machinery, from here on: reading a line, part by part.

-- The texts on the two sides of an arrow: a pattern and an action's name.
abbrev pub sides : List ℕ → List ℕ → Sides
sides pattern action = record { pattern = pattern; action = action }

-- Whether a pattern has all needed fields.
abbrev pub has_needed : List (List ℕ) → List PieceValue → Bool
has_needed names ps = list_all (λ name. is_some (field_kind ps name)) names

-- Whether all used fields are of the kinds that their names require.
abbrev pub has_right_kinds : List (List ℕ) → List PieceValue → Bool
has_right_kinds names ps = list_all (has_right_kind ps) names

-- The action of this name; the pattern has its needed fields, and its used fields are of the right kinds.
pub record FitsAction (name : List ℕ) (ps : List PieceValue) (action : Action) : Type 0 where
  pub row : ActionRowValue
  pub is_action : action_row name ≡ Some row
  pub action_is : action ≡ row.action
  pub needs : HasNeededFields row ps
  pub kinds : HasRightKinds row ps

-- A needed field is missing.
pub record LacksField (name : List ℕ) (ps : List PieceValue) : Type 0 where
  pub row : ActionRowValue
  pub is_action : action_row name ≡ Some row
  pub bad : HasNeededFields row ps → ⊥

-- The needed fields are present, but a used field is of the other kind.
pub record HasOtherKind (name : List ℕ) (ps : List PieceValue) : Type 0 where
  pub row : ActionRowValue
  pub is_action : action_row name ≡ Some row
  pub needs : HasNeededFields row ps
  pub bad : HasRightKinds row ps → ⊥

-- The reason why no action fits.
abbrev pub ActionFaultSays : LibraryFault → ℕ → List ℕ → List PieceValue → Type 0
ActionFaultSays (faults.UnknownAction n) line name ps = (n ≡ line) × (action_row name ≡ None)
ActionFaultSays (faults.MissingField n) line name ps = (n ≡ line) × LacksField name ps
ActionFaultSays (faults.FieldKind n) line name ps = (n ≡ line) × HasOtherKind name ps
ActionFaultSays _ line name ps = ⊥

-- The reason why a text spells no pattern, or that it asks for memory.
abbrev pub PatternFaultSays : LibraryFault → ℕ → List ℕ → Type 0
PatternFaultSays (faults.BadPattern n) line text = (n ≡ line) × ((ps : List PieceValue) → SpellsPattern text ps → ⊥)
PatternFaultSays faults.Memory line text = BeginsWithPiece text
PatternFaultSays _ line text = ⊥

-- The reason why a line spells no entry, or that it asks for memory.
abbrev pub EntryFaultSays : LibraryFault → List EntryValue → LineValue → Type 0
EntryFaultSays faults.Memory earlier line = EntryNeedsMemory line
EntryFaultSays (faults.BadType n) earlier line = (n ≡ line.line) × IsBadType earlier line
EntryFaultSays (faults.BadPattern n) earlier line = (n ≡ line.line) × IsBadPattern earlier line
EntryFaultSays (faults.UnknownAction n) earlier line = (n ≡ line.line) × IsUnknownAction earlier line
EntryFaultSays (faults.MissingField n) earlier line = (n ≡ line.line) × IsMissingField earlier line
EntryFaultSays (faults.FieldKind n) earlier line = (n ≡ line.line) × IsOtherKind earlier line
EntryFaultSays (faults.Ambiguous n) earlier line = (n ≡ line.line) × IsAmbiguous earlier line
EntryFaultSays _ earlier line = ⊥

-- Entries with one more, spelled by a line.
pub record AddsEntry (before : List EntryValue) (line : LineValue) (after : List EntryValue) : Type 0 where
  pub entry : EntryValue
  pub spells : SpellsEntry before line entry
  pub added : after ≡ before ++ entry ∷ []

-- Entries after a line: the same if it is ignored, otherwise with its entry added.
pub data AddsLine (before : List EntryValue) (line : LineValue) (after : List EntryValue) : Type 0 where
  Ignored : is_ignored line ≡ true → after ≡ before → AddsLine before line after
  Spelled : is_ignored line ≡ false → AddsEntry before line after → AddsLine before line after

-- The reason why a line that isn't ignored spells no entry, or that it asks for memory.
pub record LineFaultSays (fault : LibraryFault) (earlier : List EntryValue) (line : LineValue) : Type 0 where
  pub counts : is_ignored line ≡ false
  pub fault_is : EntryFaultSays fault earlier line
