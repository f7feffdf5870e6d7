-- What the arguments ask for.
use Rattle.std.specs.Prelude.{◌≡◌, ◌⊎◌, ◌++◌, ℕ, List, [], map, Result, Ok, Err, String, Vec, string_bytes}
use Rattle.std.specs.declared.alloc.Global.{Global}
use Rattle.clap.specs.Words.{IsAmong, Text, kind_of}
use Rattle.clap.specs.declared.error.Error.{Error}
use Rattle.clap.specs.declared.error.kind.ErrorKind.{ErrorKind}
use Rattle.clap.specs.declared.error.kind.ErrorKind.TheVariants.{DisplayHelp, DisplayVersion}
use Rattle.gk_cli.specs.Arguments.{PairValue, SaysArguments, faults_in, pair_value}
use Rattle.gk_cli.specs.declared.arguments.Mode.{Mode}
use Rattle.gk_cli.specs.declared.arguments.Mode.TheVariants.{Report}
use Rattle.gk_cli.specs.declared.arguments.Words.{Words}
use Rattle.gk_cli.specs.declared.arguments.WordsFault.TheVariants as words
use Rattle.gk_findings.specs.declared.hints.EnvMistake.TheVariants.{NoEquals}
use Rattle.gk_request.specs.declared.run_fault.RunFault.TheVariants.{Memory}
use Rattle.gk_program.specs.Files.{names_in_order}
use Rattle.gk_program.specs.declared.asked.ArgumentsFault.{ArgumentsFault}
use Rattle.gk_program.specs.declared.asked.ArgumentsFault.TheVariants as arguments
use Rattle.gk_program.specs.declared.asked.Asked.{Asked}
use Rattle.gk_program.specs.declared.asked.Asked.TheVariants.{Help, Run, Nothing}
use Rattle.gk_program.specs.declared.fault.Fault.{Fault}
use Rattle.gk_program.specs.declared.fault.Fault.TheVariants.{NotUtf8, Usage, Env, File, OfRun}

-- A request for help or the version, and not a mistake.
abbrev pub IsRequest : ErrorKind → Type 0
IsRequest kind = (kind ≡ DisplayHelp) ⊎ (kind ≡ DisplayVersion)

-- The arguments ask for nothing, because of this fault, whose text is the same in each mode.
abbrev pub nothing_asked : Fault → Asked
nothing_asked fault = Nothing fault Report

-- Proof machinery: a request for help isn't a mistake, and a mistake isn't a request for help. Clap decides what the text is, and nothing here says it.
abbrev pub SaysError : Error → Asked → Type 0
SaysError e (Help text) = IsRequest (kind_of e)
SaysError e (Nothing (Usage text) mode) = IsRequest (kind_of e) → ⊥
SaysError e (Nothing (OfRun Memory) mode) = Unit {0}
SaysError e asked = ⊥

-- What some arguments ask for, or what is wrong with them. A request for help isn't a mistake, and a mistake isn't a request for help.
abbrev pub SaysAsked : List Text → Asked → Type 0
SaysAsked arguments (Help text) = (kind : ErrorKind) × IsRequest kind × IsAmong kind (faults_in arguments)
SaysAsked arguments (Run w) = SaysArguments arguments (Ok w)
SaysAsked arguments (Nothing (Usage text) mode) = (kind : ErrorKind) × (IsRequest kind → ⊥) × IsAmong kind (faults_in arguments)
SaysAsked arguments (Nothing (Env NoEquals value) mode) = SaysArguments arguments (Err (words.Env mode value))
SaysAsked arguments (Nothing File mode) = SaysArguments arguments (Err words.File)
SaysAsked arguments (Nothing (OfRun Memory) mode) = Unit {0}
SaysAsked arguments (Nothing fault mode) = ⊥

-- The arguments as texts, or why there are none.
abbrev pub given_value : Result (Vec (String Global) Global) ArgumentsFault → Result (List Text) ArgumentsFault
given_value (Ok words) = Ok (map string_bytes words.items)
given_value (Err fault) = Err fault

-- What is asked for, if there are arguments.
abbrev pub SaysGiven : Result (List Text) ArgumentsFault → Asked → Type 0
SaysGiven (Ok arguments) asked = SaysAsked arguments asked
SaysGiven (Err arguments.NotUtf8) asked = asked ≡ nothing_asked NotUtf8
SaysGiven (Err arguments.Memory) asked = asked ≡ nothing_asked (OfRun Memory)

-- The mode in which faults are printed.
abbrev pub mode_of : Asked → Mode
mode_of (Run w) = w.mode
mode_of (Nothing fault mode) = mode
mode_of (Help text) = Report

-- The names of the given files, in the order in which they are read: the library file, the hooks file, the feature files.
abbrev pub names_given : Words → List (List ℕ)
names_given w = names_in_order w.library w.hooks w.files.items

-- The files to be put into the world: the name that each gets there, and its path.
abbrev pub files_to_put : Words → List PairValue
files_to_put w = map pair_value w.world_files.items

-- The names of all files that a run reads, in order: the paths of the files to be put, then those of the given files.
abbrev pub names_asked_by : Words → List (List ℕ)
names_asked_by w = map (λ file. (pair_value file).text) w.world_files.items ++ names_given w

-- These are the names of the files that are asked for, in that order. Only a run asks for files. If memory was refused, nothing is known of them.
abbrev pub AreNamesOf : Asked → List (List ℕ) → Type 0
AreNamesOf (Run w) names = names ≡ names_asked_by w
AreNamesOf (Nothing (OfRun fault) mode) names = ⊥
AreNamesOf asked names = names ≡ []

-- These are the names of the files that the arguments ask for.
pub record AreNamesAsked (arguments : Result (List Text) ArgumentsFault) (names : List (List ℕ)) : Type 0 where
  pub asked : Asked
  pub says : SaysGiven arguments asked
  pub names_are : AreNamesOf asked names
