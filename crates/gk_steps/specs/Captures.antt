-- Proof machinery: what a match keeps of its fields' values.
use Rattle.std.specs.Prelude.{◌≡◌, ◌++◌, ℕ, Bool, List, slice_get, Option, Some, None, if◌then◌else◌}
use Rattle.gk_gherkin.specs.declared.feature.StepType.{StepType}
use Rattle.gk_steps.specs.declared.captures.Capture.{Capture}
use Rattle.gk_steps.specs.declared.captures.Capture.TheVariants as taken
use Rattle.gk_steps.specs.Pattern.{PieceValue}
use Rattle.gk_steps.specs.Matching.{FieldValue, TextField, NumberField, IsMatchResult}
use Rattle.gk_steps.specs.Leftmost.{FindsRest}
use Rattle.gk_steps.specs.Finding.{EntryValue, FoundValue, LibraryValue, IsFoundOf}

-- The value of a `Capture`.
abbrev pub capture_value : Capture → FieldValue
capture_value (taken.Text text) = TextField text.now
capture_value (taken.Number n) = NumberField n

-- Something is kept exactly if fields are found, and it is what is kept of them.
abbrev pub AreKept : {K : Type 0} → (K → List FieldValue → Type 0) → Option K → Option (List FieldValue) → Type 0
AreKept keeps None None = Unit {0}
AreKept keeps (Some kept) (Some fields) = keeps kept fields
AreKept keeps _ _ = ⊥

-- What is kept if something was found, and nothing otherwise.
abbrev pub kept_if : {K : Type 0} → Bool → K → Option K
kept_if found kept = if found then Some kept else None

-- What is kept of what a pattern finds in a text.
abbrev pub IsKeptResult : {K : Type 0} → (List PieceValue → K → List FieldValue → Type 0) → List PieceValue → List ℕ → Option K → Type 0
IsKeptResult keeps ps text kept = (fields : Option (List FieldValue)) × AreKept (keeps ps) kept fields × IsMatchResult ps text fields

-- What is kept of the result of every pattern in every text, if these pieces and this rest are left after some pieces and their fields.
abbrev pub KeepsRest : {K : Type 0} → (List PieceValue → K → List FieldValue → Type 0) → List PieceValue → List FieldValue → List PieceValue → List ℕ → Option K → Type 0
KeepsRest keeps done before left rest kept = (fields : Option (List FieldValue)) × AreKept (keeps (done ++ left)) kept fields × FindsRest before left rest fields

-- For all pieces and fields that `old` keeps: what is kept of the result, if these pieces and this rest are left after them.
abbrev pub KeepsMore : {K : Type 0} → (List PieceValue → K → List FieldValue → Type 0) → K → List PieceValue → List ℕ → Option K → Type 0
KeepsMore keeps old left rest kept = (done : List PieceValue) (before : List FieldValue) → keeps done old before → KeepsRest keeps done before left rest kept

-- A found entry: its position in the library, and what was kept of its field values.
pub record Hit (K : Type 0) : Type 0 where
  pub entry : ℕ
  pub kept : K

-- A hit at this position, with what was kept, if there is a position.
abbrev pub hit_of : {K : Type 0} → K → Option ℕ → Option (Hit K)
hit_of kept None = None
hit_of kept (Some entry) = Some (record { entry = entry; kept = kept })

-- The hit of a found entry: it has the entry's position, and what is kept of the found fields of its pattern.
pub record IsHitOf {K : Type 0} (keeps : List PieceValue → K → List FieldValue → Type 0) (entries : LibraryValue) (hit : Hit K) (found : FoundValue) : Type 0 where
  pub position : hit.entry ≡ found.entry
  pub entry : EntryValue
  pub stands : slice_get entries found.entry ≡ Some entry
  pub kept : keeps entry.pattern hit.kept found.fields

-- There is a hit exactly if an entry is found, and it is the hit of that entry.
abbrev pub IsHit : {K : Type 0} → (List PieceValue → K → List FieldValue → Type 0) → LibraryValue → Option (Hit K) → Option FoundValue → Type 0
IsHit keeps entries None None = Unit {0}
IsHit keeps entries (Some hit) (Some found) = IsHitOf keeps entries hit found
IsHit keeps entries _ _ = ⊥

-- The hit of what is found among the entries of one type.
abbrev pub HitsWhatIsFound : {K : Type 0} → (List PieceValue → K → List FieldValue → Type 0) → LibraryValue → Option StepType → List ℕ → Option (Hit K) → Type 0
HitsWhatIsFound keeps entries step_type text hit = (found : Option FoundValue) × IsHit keeps entries hit found × IsFoundOf entries step_type text found
