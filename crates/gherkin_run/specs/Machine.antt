-- What the machine returns for a file, and what the program ends with.
use Rattle.std.specs.Prelude.{◌≡◌, ◌<◌, ℕ, List, length, Option, Result, Ok, Err, IfSome}
use Rattle.std.specs.declared.io.ErrorKind.{ErrorKind}
use Rattle.std.specs.declared.io.ErrorKind.TheVariants.{OutOfMemory}
use Rattle.gk_gherkin.specs.Lines.{limit}
use Rattle.gk_cli.specs.Writing.{Device}
use Rattle.gk_io.specs.declared.whole_read.SourceFault.{SourceFault}
use Rattle.gk_io.specs.declared.whole_read.SourceFault.TheVariants as reading
use Rattle.gk_program.specs.Ended.{IsEnded}
use Rattle.gk_program.specs.Files.{Reading}
use Rattle.gk_program.specs.declared.asked.ArgumentsFault.{ArgumentsFault}
use Rattle.gk_program.specs.declared.asked.ArgumentsFault.TheVariants as arguments
use Rattle.gk_program.specs.declared.ended.ProgramEnd.{ProgramEnd}

-- Some file gave this result. If it is known what that file holds, it holds exactly these bytes, or, at `TooLong`, more bytes than a source may have. Nothing is said of other faults.
abbrev pub IsOfSomeFile : {F : Type 0} → (F → Option (List ℕ)) → Result (List ℕ) SourceFault → Type 0
IsOfSomeFile {F} holds (Ok bytes) = (file : F) × IfSome (holds file) (λ whole. bytes ≡ whole)
IsOfSomeFile {F} holds (Err reading.TooLong) = (file : F) × IfSome (holds file) (λ whole. limit < length whole)
IsOfSomeFile holds (Err fault) = Unit {0}

-- Reading a file of the machine returns what some file holds. Nothing is said of the state of the machine.
abbrev pub reads_some : {F : Type 0} → {S : Type 0} → (F → Option (List ℕ)) → Reading S
reads_some holds before name answer after = IsOfSomeFile holds answer

-- The fault of a file that can't be opened: out of memory, or that it can't be read.
abbrev pub fault_of_open : ErrorKind → SourceFault
fault_of_open OutOfMemory = reading.Memory
fault_of_open kind = reading.Device

-- The fault of arguments that can't be had: out of memory, or that they aren't UTF-8.
abbrev pub fault_of_arguments : ErrorKind → ArgumentsFault
fault_of_arguments OutOfMemory = arguments.Memory
fault_of_arguments kind = arguments.NotUtf8

-- The program ended with this status, for some arguments: nothing says which they are.
pub record IsRunOn {S : Type 0} (reads : Reading S) (before after : S) (old new errors_old errors_new : Device) (status : ℕ) : Type 0 where
  pub arguments : Result (List (List ℕ)) ArgumentsFault
  pub ended : ProgramEnd
  pub ended_so : IsEnded reads arguments before after old new errors_old errors_new ended
  pub status_is : status ≡ ended.status
