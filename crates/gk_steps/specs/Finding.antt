-- The entry of a library that a step's text finds.
use denote.Ref.{Bor}
use Rattle.std.specs.Prelude.{codes, option_map, ◌≡◌, ◌<◌, ◌≤◌, ◌⊎◌, ℕ, suc, ℤ, Bool, true, false, List, [], ◌∷◌, if◌then◌else◌, map, slice_get, Option, Some, None, option_and_then}
use Rattle.std.specs.Option.{option_or, option_map_or}
use Rattle.std.specs.Str.{bytes_eq}
use Rattle.gk_gherkin.specs.declared.feature.StepType.{StepType}
use Rattle.gk_gherkin.specs.declared.feature.StepType.TheVariants as types
use Rattle.gk_steps.specs.declared.action.Action.{Action}
use Rattle.gk_steps.specs.declared.action.Action.TheVariants as actions
use Rattle.gk_steps.specs.declared.pattern.FieldKind.TheVariants.{Plain, Decimal}
use Rattle.gk_steps.specs.declared.library.Entry.{Entry}
use Rattle.gk_steps.specs.declared.library.Library.{Library}
use Rattle.gk_steps.specs.declared.finding.Found.{Found}
use Rattle.gk_steps.specs.declared.used_fields.UsedFields.{UsedFields}
use Rattle.gk_steps.specs.declared.used_fields.FoundUse.{FoundUse}
use Rattle.gk_steps.specs.Pattern.{PieceValue, Literal, FieldPiece, pattern_value}
use Rattle.gk_steps.specs.LiteralEnds.{FitsStart, FitsEnd}
use Rattle.gk_steps.specs.Matching.{FieldValue, TextField, NumberField, field_value, MatchesNot, IsMatchResult, match_of}

-- An entry: its line, its step type, its pattern and its action. An entry without a type is for steps of every type. (behave's documentation: step implementations)
pub record EntryValue : Type 0 where
  pub line : ℕ
  pub step_type : Option StepType
  pub pattern : List PieceValue
  pub action : Action

-- The value of an `Entry`.
abbrev pub entry_value : Entry → EntryValue
entry_value e = record { line = e.line; step_type = e.step_type; pattern = pattern_value e.pattern; action = e.action }

-- The values of entries, in order.
abbrev pub entry_values : List Entry → List EntryValue
entry_values entries = map entry_value entries

-- The entries of a library, in order. (behave's documentation: step implementations)
abbrev pub LibraryValue : Type 0
LibraryValue = List EntryValue

-- The value of a `Library`.
abbrev pub library_value : Library → LibraryValue
library_value l = map entry_value l.entries.items

-- A found entry: its position in the library, from 0, and its fields in the pattern's order.
pub record FoundValue : Type 0 where
  pub entry : ℕ
  pub fields : List FieldValue

-- The value of a `Found`.
abbrev pub found_value : Found → FoundValue
found_value f = record { entry = f.entry; fields = map field_value f.fields.items }

-- An entry of exactly this type whose first and last pieces, if they are literals, begin and end the text. `None` is the type of entries for steps of every type.
pub record HasCandidate (entries : LibraryValue) (step_type : Option StepType) (text : List ℕ) : Type 0 where
  pub position : ℕ
  pub entry : EntryValue
  pub stands : slice_get entries position ≡ Some entry
  pub is_type : entry.step_type ≡ step_type
  pub prefix : FitsStart entry.pattern text
  pub back : FitsEnd entry.pattern text

-- Such an entry exists among the entries of a step's type and those for steps of every type.
abbrev pub HasCandidateFor : LibraryValue → StepType → List ℕ → Type 0
HasCandidateFor entries step_type text = HasCandidate entries (Some step_type) text ⊎ HasCandidate entries None text

-- An ASCII digit.
abbrev pub IsDigit : ℕ → Type 0
IsDigit byte = (48 ≤ byte) × (byte < 58)

-- Pieces that may take a digit first: they begin with a field, or with a literal that begins with a digit or is empty.
abbrev pub MayTakeDigit : List PieceValue → Type 0
MayTakeDigit [] = ⊥
MayTakeDigit (FieldPiece name kind ∷ ps) = Unit {0}
MayTakeDigit (Literal [] ∷ ps) = Unit {0}
MayTakeDigit (Literal (byte ∷ bytes) ∷ ps) = IsDigit byte

-- What the first piece takes depends on more than a literal and a plain field after it. The piece is a number before pieces that may take a digit, or a plain field before another field or before a literal that a number or another literal follows.
abbrev pub DependsOnMore : PieceValue → List PieceValue → Type 0
DependsOnMore (Literal literal) ps = ⊥
DependsOnMore (FieldPiece name Decimal) ps = MayTakeDigit ps
DependsOnMore (FieldPiece name Plain) [] = ⊥
DependsOnMore (FieldPiece name Plain) (FieldPiece other kind ∷ ps) = Unit {0}
DependsOnMore (FieldPiece name Plain) (Literal literal ∷ []) = ⊥
DependsOnMore (FieldPiece name Plain) (Literal literal ∷ FieldPiece other Plain ∷ ps) = ⊥
DependsOnMore (FieldPiece name Plain) (Literal literal ∷ FieldPiece other Decimal ∷ ps) = Unit {0}
DependsOnMore (FieldPiece name Plain) (Literal literal ∷ Literal other ∷ ps) = Unit {0}

-- A match of the pattern may need a table: what some piece takes depends on more than a literal and a plain field after it.
abbrev pub MayNeedTable : List PieceValue → Type 0
MayNeedTable [] = ⊥
MayNeedTable (p ∷ ps) = DependsOnMore p ps ⊎ MayNeedTable ps

-- An entry of exactly this type whose ends fit the text, and whose match may need a table.
pub record HasTableCandidate (entries : LibraryValue) (step_type : Option StepType) (text : List ℕ) : Type 0 where
  pub position : ℕ
  pub entry : EntryValue
  pub stands : slice_get entries position ≡ Some entry
  pub is_type : entry.step_type ≡ step_type
  pub prefix : FitsStart entry.pattern text
  pub back : FitsEnd entry.pattern text
  pub table : MayNeedTable entry.pattern

-- Such an entry exists among the entries of a step's type and those for steps of every type.
abbrev pub HasTableCandidateFor : LibraryValue → StepType → List ℕ → Type 0
HasTableCandidateFor entries step_type text = HasTableCandidate entries (Some step_type) text ⊎ HasTableCandidate entries None text

-- No entry of exactly this type matches the text. `None` is the type of entries for steps of every type.
abbrev pub NoneFound : LibraryValue → Option StepType → List ℕ → Type 0
NoneFound entries step_type text = (position : ℕ) (entry : EntryValue) → slice_get entries position ≡ Some entry → entry.step_type ≡ step_type → MatchesNot entry.pattern text

-- No entry of exactly this type before a position matches the text.
abbrev pub NoneBefore : ℕ → LibraryValue → Option StepType → List ℕ → Type 0
NoneBefore size entries step_type text = (earlier : ℕ) (other : EntryValue) → earlier < size → slice_get entries earlier ≡ Some other → other.step_type ≡ step_type → MatchesNot other.pattern text

-- The preferred match of the first entry of this type that has a match, in library order.
pub record IsFirstFound (entries : LibraryValue) (step_type : Option StepType) (text : List ℕ) (found : FoundValue) : Type 0 where
  pub entry : EntryValue
  pub position : slice_get entries found.entry ≡ Some entry
  pub is_type : entry.step_type ≡ step_type
  pub fields : IsMatchResult entry.pattern text (Some found.fields)
  pub first : NoneBefore found.entry entries step_type text

-- The result of a search among the entries of one type.
abbrev pub IsFoundOf : LibraryValue → Option StepType → List ℕ → Option FoundValue → Type 0
IsFoundOf entries step_type text None = NoneFound entries step_type text
IsFoundOf entries step_type text (Some found) = IsFirstFound entries step_type text found

-- The result of looking up a step: first among the entries of its type in library order, then among those of type `step`. (behave's documentation: step implementations)
abbrev pub IsFound : LibraryValue → StepType → List ℕ → Option FoundValue → Type 0
IsFound entries step_type text None = NoneFound entries (Some step_type) text × NoneFound entries None text
IsFound entries step_type text (Some found) = IsFirstFound entries (Some step_type) text found ⊎ (NoneFound entries (Some step_type) text × IsFirstFound entries None text found)

-- The result of looking up a text among the entries of type `step` only.
abbrev pub IsFoundAny : LibraryValue → List ℕ → Option FoundValue → Type 0
IsFoundAny entries text found = IsFoundOf entries None text found

-- Whether two step types are equal.
abbrev pub is_same_type : StepType → StepType → Bool
is_same_type types.Given types.Given = true
is_same_type types.When types.When = true
is_same_type types.Then types.Then = true
is_same_type _ _ = false

-- Whether two entry types are equal. `None` is the type of entries for steps of every type.
abbrev pub is_of_type : Option StepType → Option StepType → Bool
is_of_type None None = true
is_of_type (Some a) (Some b) = is_same_type a b
is_of_type _ _ = false

-- The fields that a pattern finds in a text if its entry is of the type that is looked for; otherwise none.
abbrev pub match_where : Bool → List PieceValue → List ℕ → Option (List FieldValue)
match_where true ps text = match_of ps text
match_where false ps text = None

-- A found entry, from its position and its fields.
abbrev pub found_at : ℕ → List FieldValue → FoundValue
found_at position fields = record { entry = position; fields = fields }

-- The result of a search among entries whose first has this position, computed.
abbrev pub found_from : ℕ → LibraryValue → Option StepType → List ℕ → Option FoundValue
found_from position [] step_type text = None
found_from position (e ∷ es) step_type text = elim (match_where (is_of_type e.step_type step_type) e.pattern text) [ Some fields ↦ Some (found_at position fields) | None ↦ found_from (suc position) es step_type text ]

-- The result of looking up a text among the entries of type `step`, computed.
unfoldable pub found_any : LibraryValue → List ℕ → Option FoundValue
found_any library text = found_from 0 library None text

-- The result of looking up a step, computed: an entry of the step's type is looked for first, then one of type `step`. (behave's documentation: step implementations)
unfoldable pub found : LibraryValue → StepType → List ℕ → Option FoundValue
found library step_type text = option_or (found_from 0 library (Some step_type) text) (found_from 0 library None text)

-- Fields whose number and kinds are those of a pattern, in its order.
abbrev pub HaveKindsOf : List PieceValue → List FieldValue → Type 0
HaveKindsOf [] [] = Unit {0}
HaveKindsOf (Literal text ∷ ps) fields = HaveKindsOf ps fields
HaveKindsOf (FieldPiece name Plain ∷ ps) (TextField text ∷ fields) = HaveKindsOf ps fields
HaveKindsOf (FieldPiece name Decimal ∷ ps) (NumberField n ∷ fields) = HaveKindsOf ps fields
HaveKindsOf _ fields = ⊥

-- A found entry fits a library: its position is that of an entry there, and its fields have the number and kinds of that entry's pattern.
pub record FitsLibrary (entries : LibraryValue) (found : FoundValue) : Type 0 where
  pub entry : EntryValue
  pub position : slice_get entries found.entry ≡ Some entry
  pub fields : HaveKindsOf entry.pattern found.fields

-- The computed results are what a text finds, there is no other result, and what it finds fits the library.
pub record FindsWhatIsFound : Type 0 where
  pub is_found : (library : LibraryValue) (step_type : StepType) (text : List ℕ) → IsFound library step_type text (found library step_type text)
  pub only : (library : LibraryValue) (step_type : StepType) (text : List ℕ) (other : Option FoundValue) → IsFound library step_type text other → other ≡ found library step_type text
  pub is_found_any : (library : LibraryValue) (text : List ℕ) → IsFoundAny library text (found_any library text)
  pub only_any : (library : LibraryValue) (text : List ℕ) (other : Option FoundValue) → IsFoundAny library text other → other ≡ found_any library text
  pub fits : (library : LibraryValue) (step_type : StepType) (text : List ℕ) (f : FoundValue) → IsFound library step_type text (Some f) → FitsLibrary library f
  pub fits_any : (library : LibraryValue) (text : List ℕ) (f : FoundValue) → IsFoundAny library text (Some f) → FitsLibrary library f

-- The action of a found entry; `Fail` if the library has no entry at its position. An entry that a text finds has one.
abbrev pub action_of : LibraryValue → FoundValue → Action
action_of library f = option_map_or (λ (e : EntryValue). e.action) (slice_get library f.entry) actions.Fail

-- The field of this name among those of a pattern; none if it has no such field. (behave's documentation: step parameters)
abbrev pub field_named : List ℕ → List PieceValue → List FieldValue → Option FieldValue
field_named name (Literal text ∷ ps) fields = field_named name ps fields
field_named name (FieldPiece other kind ∷ ps) (field ∷ fields) = if bytes_eq other name then Some field else field_named name ps fields
field_named name _ fields = None

-- The value of a found entry's field of this name, if it has one. (behave's documentation: step parameters)
abbrev pub field_of : LibraryValue → FoundValue → List ℕ → Option FieldValue
field_of library f name = option_and_then (λ (e : EntryValue). field_named name e.pattern f.fields) (slice_get library f.entry)

-- The text of a plain field.
abbrev pub as_text : FieldValue → Option (List ℕ)
as_text (TextField text) = Some text
as_text (NumberField n) = None

-- The number of a field of kind `d`.
abbrev pub as_number : FieldValue → Option ℤ
as_number (TextField text) = None
as_number (NumberField n) = Some n

-- The text of the field of this name; none if there is no such field or it is a number. (behave's documentation: step parameters)
abbrev pub text_field : LibraryValue → FoundValue → List ℕ → Option (List ℕ)
text_field library f name = option_and_then as_text (field_of library f name)

-- The number of the field of this name; none if there is no such field or it is a text. (behave's documentation: step parameters)
abbrev pub number_field : LibraryValue → FoundValue → List ℕ → Option ℤ
number_field library f name = option_and_then as_number (field_of library f name)

-- The content of a borrowed text, if there is one.
abbrev pub borrowed_text : Option (Bor (List ℕ)) → Option (List ℕ)
borrowed_text text = option_map (λ (t : Bor (List ℕ)). t.now) text

-- The values of a found entry's fields that actions use. (behave's documentation: step parameters)
pub record HasUsedFields (library : LibraryValue) (f : FoundValue) (u : UsedFields) : Type 0 where
  pub name : borrowed_text u.name ≡ text_field library f (codes "name")
  pub to : borrowed_text u.to ≡ text_field library f (codes "to")
  pub step : borrowed_text u.step ≡ text_field library f (codes "step")
  pub number : u.number ≡ number_field library f (codes "n")
  pub text : borrowed_text u.text ≡ text_field library f (codes "text")

-- The action of a found entry, and the values of its fields that actions use.
pub record HasUse (library : LibraryValue) (f : FoundValue) (u : FoundUse) : Type 0 where
  pub action : u.action ≡ action_of library f
  pub fields : HasUsedFields library f u.fields

-- What a step's action works with, if an entry is found. (behave's documentation: step implementations)
abbrev pub IsUseOf : LibraryValue → Option FoundValue → Option FoundUse → Type 0
IsUseOf library None None = Unit {0}
IsUseOf library (Some f) (Some u) = HasUse library f u
IsUseOf library _ _ = ⊥
