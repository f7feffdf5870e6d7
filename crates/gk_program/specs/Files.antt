-- What reading the files returns.
use Rattle.std.specs.Prelude.{◌≡◌, ◌⊎◌, ◌++◌, List, [], ◌∷◌, ℕ, map, Option, Some, None, Result, Ok, Err, String, Vec, option_map, string_bytes}
use Rattle.std.specs.declared.alloc.Global.{Global}
use Rattle.gk_request.specs.Source.{SourceValue}
use Rattle.gk_request.specs.Request.{FilesValue}
use Rattle.gk_request.specs.declared.source.Source.{Source}
use Rattle.gk_io.specs.declared.whole_read.SourceFault.{SourceFault}
use Rattle.gk_io.specs.declared.whole_read.SourceFault.TheVariants as reading
use Rattle.gk_program.specs.declared.fault.Fault.{Fault}
use Rattle.gk_program.specs.declared.fault.Fault.TheVariants.{OfFile, OfRun}
use Rattle.gk_program.specs.declared.fault.FileFault.{FileFault}
use Rattle.gk_program.specs.declared.fault.FileFault.TheVariants.{CannotRead, TooLong}
use Rattle.gk_request.specs.declared.run_fault.RunFault.TheVariants.{Memory}

-- Proof machinery: the name of a source.
abbrev pub name_of : Source → List ℕ
name_of source = string_bytes source.name

-- The result of reading a file: its bytes, or why they can't be read.
abbrev pub bytes_or_fault : Result (Vec ℕ Global) SourceFault → Result (List ℕ) SourceFault
bytes_or_fault (Ok bytes) = Ok bytes.items
bytes_or_fault (Err fault) = Err fault

-- The program's fault for a file of this name that couldn't be read, for this reason. That of a file with too many bytes is given.
abbrev pub IsFaultOfReading : FileFault → List ℕ → SourceFault → Fault → Type 0
IsFaultOfReading over_limit name reading.Device (OfFile other fault) = (string_bytes other ≡ name) × (fault ≡ CannotRead)
IsFaultOfReading over_limit name reading.TooLong (OfFile other fault) = (string_bytes other ≡ name) × (fault ≡ over_limit)
IsFaultOfReading over_limit name reading.Memory (OfRun fault) = fault ≡ Memory
IsFaultOfReading over_limit name by fault = ⊥

-- How a system is read: in the first state, reading the file of this name returns this result, and leaves the second state.
abbrev pub Reading : Type 0 → Type 1
Reading S = S → List ℕ → Result (List ℕ) SourceFault → S → Type 0

-- Files are read one after another from a system, each from the state that the previous one left. Nothing more is read.
abbrev pub AreRead : {S : Type 0} → Reading S → S → List SourceValue → S → Type 0
AreRead reads old [] new = old ≡ new
AreRead {S} reads old (file ∷ files) new = (between : S) × reads old file.name (Ok file.bytes) between × AreRead reads between files new

-- The file of this name was requested, and could not be read. The fault is that of this file.
abbrev pub IsNotRead : {S : Type 0} → Reading S → FileFault → S → List ℕ → S → Fault → Type 0
IsNotRead reads over_limit old name new fault = (by : SourceFault) × reads old name (Err by) new × IsFaultOfReading over_limit name by fault

-- The first of the files that are left could not be read. Or memory was refused before it was requested, or when none was left.
abbrev pub StopsHere : {S : Type 0} → Reading S → S → List (List ℕ) → S → Fault → Type 0
StopsHere reads old [] new fault = (old ≡ new) × (fault ≡ OfRun Memory)
StopsHere reads old (name ∷ names) new fault = IsNotRead reads TooLong old name new fault ⊎ (old ≡ new) × (fault ≡ OfRun Memory)

-- A prefix of these files was read, in their order, and then reading stops. Nothing more is read.
pub record StopsReading {S : Type 0} (reads : Reading S) (old : S) (names : List (List ℕ)) (new : S) (fault : Fault) : Type 0 where
  pub files : List SourceValue
  pub left : List (List ℕ)
  pub between : S
  pub order : map (λ file. file.name) files ++ left ≡ names
  pub read : AreRead reads old files between
  pub stops : StopsHere reads between left new fault

-- A list of the value, if there is one.
abbrev pub one_of : {X : Type 0} → Option X → List X
one_of None = []
one_of (Some x) = x ∷ []

-- The files of a run in the order in which they are read: the library file, the hooks file, the feature files.
abbrev pub files_in_order : FilesValue → List SourceValue
files_in_order files = one_of files.library ++ (one_of files.hooks ++ files.sources)

-- The names of these files, in the same order.
abbrev pub names_in_order : Option (String Global) → Option (String Global) → List (String Global) → List (List ℕ)
names_in_order library hooks names =
    one_of (option_map string_bytes library) ++ (one_of (option_map string_bytes hooks) ++ map string_bytes names)
