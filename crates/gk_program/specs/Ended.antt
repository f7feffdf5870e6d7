-- What is printed for faults, and how the program ends.
use Rattle.std.specs.Prelude.{◌≡◌, ◌⊎◌, ℕ, Bool, true, false, List, [], ◌++◌, flat_map, if◌then◌else◌, Option, Some, None, Result, Ok, Err, option_map, string_bytes}
use Rattle.std.specs.Io.KnownBytes.{Appends}
use Rattle.clap.specs.Words.{Text}
use Rattle.gk_explain.specs.Shown.{file_shown}
use Rattle.gk_gherkin.specs.Feature.{texts}
use Rattle.gk_io.specs.Counted.{one_more}
use Rattle.gk_select.specs.declared.select_fault.SelectFault.TheVariants.{BadTagText}
use Rattle.gk_request.specs.AllFaults.{AreFaultsOf, files_after}
use Rattle.gk_request.specs.Inputs.{IsBadText}
use Rattle.gk_request.specs.Request.{files_value}
use Rattle.gk_request.specs.declared.run_fault.RunFault.{RunFault}
use Rattle.gk_request.specs.declared.run_fault.RunFault.TheVariants as run
use Rattle.gk_findings.specs.FaultNotes.{env_notes, notes, unreadable_note}
use Rattle.gk_cli.specs.Writing.{Device}
use Rattle.gk_cli.specs.declared.arguments.Mode.{Mode}
use Rattle.gk_cli.specs.declared.arguments.Mode.TheVariants.{Report, Findings}
use Rattle.gk_program.specs.Asked.{SaysGiven, mode_of}
use Rattle.gk_program.specs.Fault.{line_of, name_of, nowhere, place_of, status_of}
use Rattle.gk_program.specs.Files.{Reading}
use Rattle.gk_program.specs.Program.{SaysDone}
use Rattle.gk_program.specs.declared.asked.ArgumentsFault.{ArgumentsFault}
use Rattle.gk_program.specs.declared.asked.Asked.{Asked}
use Rattle.gk_program.specs.declared.ended.ProgramEnd.{ProgramEnd}
use Rattle.gk_program.specs.declared.fault.Fault.{Fault}
use Rattle.gk_program.specs.declared.fault.Fault.TheVariants.{Env, OfFile, OfRun}
use Rattle.gk_program.specs.declared.fault.Faults.{Faults}
use Rattle.gk_program.specs.declared.fault.FileFault.TheVariants.{CannotRead}
use Rattle.gk_program.specs.declared.fault.Inputs.{Inputs}
use Rattle.gk_program.specs.declared.fault.FaultPlace.{FaultPlace}

-- Whether notes are printed below faults in this mode: below those of a report there are none.
abbrev pub has_notes : Mode → Bool
has_notes Report = false
has_notes mode = true

-- The name of a file as it is printed, if there is one: for a report as it was given, and otherwise as explanations and findings show it.
abbrev pub printed_name : Mode → Option (List ℕ) → Option (List ℕ)
printed_name Report name = name
printed_name mode name = option_map file_shown name

-- The notes below a fault, which is that of a text of tags, if one is given.
abbrev pub notes_on : Option (List ℕ) → Option Inputs → Fault → List ℕ
notes_on tags inputs (Env mistake name) = env_notes mistake (string_bytes name)
notes_on tags inputs (OfFile name CannotRead) = unreadable_note
notes_on tags (Some inputs) (OfRun fault) = notes tags (files_value inputs.files) fault
notes_on tags inputs fault = []

-- What is printed for a fault in this mode: its line, and its notes, if the mode has any.
abbrev pub block : Mode → Option (List ℕ) → Option Inputs → Fault → List ℕ
block mode tags inputs fault = line_of (printed_name mode (name_of inputs fault)) fault ++ (if has_notes mode then notes_on tags inputs fault else [])

-- What is printed for faults of files of a run, one after the other.
abbrev pub blocks : Mode → Option Inputs → List RunFault → List ℕ
blocks mode inputs faults = flat_map (λ fault. block mode None inputs (OfRun fault)) faults

-- The text of tags that the first fault is about, if there are notes: the first text that spells no rule.
abbrev pub IsTextAt : Bool → Option Inputs → Fault → Option (List ℕ) → Type 0
IsTextAt true (Some inputs) (OfRun (run.Select None BadTagText)) text = IsBadText (texts inputs.tags.items) text
IsTextAt noted inputs first text = text ≡ None

-- The faults that are printed after the first: with `--lint`, one for each invalid file that a run reads later.
abbrev pub AreLater : Mode → Option Inputs → Fault → List RunFault → Type 0
AreLater (Findings steps) (Some inputs) (OfRun first) later = AreFaultsOf (files_after (files_value inputs.files) first) later
AreLater mode inputs first later = later ≡ []

-- What is printed for faults in this mode, and the place of the first.
abbrev pub IsListing : Mode → Faults → List ℕ → FaultPlace → Type 0
IsListing mode faults text place =
    (tags : Option (List ℕ)) × IsTextAt (has_notes mode) faults.inputs faults.first tags
    × (later : List RunFault) × AreLater mode faults.inputs faults.first later
    × (text ≡ block mode tags faults.inputs faults.first ++ blocks mode faults.inputs later)
    × (place ≡ place_of (printed_name mode (name_of faults.inputs faults.first)) faults.first)

-- The writer took the whole text and didn't fail, or it failed.
abbrev pub IsTaken : List ℕ → Device → Device → Type 0
IsTaken text old new = (Appends old.bytes new.bytes text × (new.failures ≡ old.failures)) ⊎ (new.failures ≡ one_more old.failures)

-- The line of a fault in a file of this name, if a file has it, is printed, and the program ends with its status and its place.
abbrev pub IsLineEnd : Option (List ℕ) → Fault → Device → Device → ProgramEnd → Type 0
IsLineEnd name fault old new ended = (ended ≡ record { status = status_of fault; place = place_of name fault }) × IsTaken (line_of name fault) old new

-- What is printed if memory is refused for the text: the line of the first fault alone. If the name in it isn't printed as it was given, the line says that memory was refused.
abbrev pub IsPlainEnd : Mode → Option (List ℕ) → Fault → Device → Device → ProgramEnd → Type 0
IsPlainEnd Report name fault old new ended = IsLineEnd name fault old new ended
IsPlainEnd mode None fault old new ended = IsLineEnd None fault old new ended
IsPlainEnd mode (Some name) fault old new ended = IsLineEnd None (OfRun run.Memory) old new ended

-- How the program ends, and what it writes to standard error: nothing without a fault, and then it isn't called. Otherwise all of the text for the faults, with the status and the place of the first, or what is printed if memory is refused.
abbrev pub SaysEnd : Mode → Result ℕ Faults → Device → Device → ProgramEnd → Type 0
SaysEnd mode (Ok status) old new ended = (new ≡ old) × (ended ≡ record { status = status; place = nowhere })
SaysEnd mode (Err faults) old new ended =
    ((ended.status ≡ status_of faults.first) × (text : List ℕ) × IsListing mode faults text ended.place × IsTaken text old new)
    ⊎ IsPlainEnd mode (name_of faults.inputs faults.first) faults.first old new ended

-- The program ended so with these arguments: its status and the place of its fault, what it wrote to standard output, and what it wrote to standard error.
pub record IsEnded {S : Type 0} (reads : Reading S) (arguments : Result (List Text) ArgumentsFault) (before after : S) (old new errors_old errors_new : Device) (ended : ProgramEnd) : Type 0 where
  pub asked : Asked
  pub given : SaysGiven arguments asked
  pub done : Result ℕ Faults
  pub says : SaysDone reads asked before after old new done
  pub end : SaysEnd (mode_of asked) done errors_old errors_new ended
