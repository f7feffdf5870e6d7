-- What the program writes to standard output.
use Rattle.std.specs.Prelude.{◌≡◌, ◌⊎◌, ℕ, List, map, Some, Result, Ok, Err, option_map, string_bytes, IfOk, IfErr}
use Rattle.std.specs.Io.KnownBytes.{Keeps}
use Rattle.gk_world.specs.State.{Contents, nothing_yet}
use Rattle.gk_gherkin.specs.Feature.{texts}
use Rattle.gk_io.specs.Counted.{one_more}
use Rattle.gk_request.specs.Request.{Request, FilesValue, files_value, request_of_files}
use Rattle.gk_request.specs.declared.run_fault.RunFault.{RunFault}
use Rattle.gk_request.specs.declared.run_fault.RunFault.TheVariants.{Write}
use Rattle.gk_cli.specs.Arguments.{PairValue, pair_value}
use Rattle.gk_cli.specs.Modes.{IsWrittenAs, SaysFaultAs}
use Rattle.gk_cli.specs.Writing.{Device, IsStopped, IsUntouched, IsWritten, UsesWriter}
use Rattle.gk_cli.specs.declared.arguments.Mode.{Mode}
use Rattle.gk_cli.specs.declared.arguments.Words.{Words}
use Rattle.gk_program.specs.Asked.{files_to_put, names_given}
use Rattle.gk_program.specs.Fault.{alone}
use Rattle.gk_program.specs.Files.{AreRead, Reading, StopsReading, files_in_order}
use Rattle.gk_program.specs.WorldFiles.{ArePut, AreTaken, StopsAtVariable, StopsPutting, with_variables}
use Rattle.gk_program.specs.declared.asked.Asked.{Asked}
use Rattle.gk_program.specs.declared.asked.Asked.TheVariants.{Help, Nothing, Run}
use Rattle.gk_program.specs.declared.fault.Fault.{Fault}
use Rattle.gk_program.specs.declared.fault.Fault.TheVariants.{OfRun}
use Rattle.gk_program.specs.declared.fault.Faults.{Faults}
use Rattle.gk_program.specs.declared.fault.Inputs.{Inputs}

-- Standard output was flushed once, and took nothing more.
pub record IsFlushed (old new : Device) : Type 0 where
  pub written : Keeps old.bytes new.bytes
  pub calls : new.calls ≡ old.calls
  pub idle : new.idle ≡ old.idle
  pub flushes : new.flushes ≡ one_more old.flushes

-- This text, and no more, was written to standard output, by calls that each moved at least one byte, and was flushed once. No call failed, and the status is 0.
pub record IsShown (text : List ℕ) (old new : Device) (status : ℕ) : Type 0 where
  pub written : Device
  pub is : IsWritten old written text
  pub flushed : IsFlushed written new
  pub quiet : new.failures ≡ old.failures
  pub well : status ≡ 0

-- All of this text was written, and then the flush failed.
pub record FailsToFlushText (text : List ℕ) (old new : Device) : Type 0 where
  pub written : Device
  pub is : IsWritten old written text
  pub flushed : IsFlushed written new
  pub failed : new.failures ≡ one_more old.failures

-- Why this text was not shown, and which part of it was written. If a write failed, a prefix was written, and nothing was flushed. If the flush failed, all of it was written.
abbrev pub IsTextFault : List ℕ → Device → Device → RunFault → Type 0
IsTextFault text old new Write = IsStopped old new text Write ⊎ FailsToFlushText text old new
IsTextFault text old new fault = ⊥

-- What a flush after this result of a call gives: the same result, or that the flush failed. After a fault nothing is flushed.
abbrev pub SaysFlush : Result ℕ RunFault → Device → Device → Result ℕ RunFault → Type 0
SaysFlush (Ok status) old new (Ok same) = (same ≡ status) × IsFlushed old new × (new.failures ≡ old.failures)
SaysFlush (Ok status) old new (Err fault) = (fault ≡ Write) × IsFlushed old new × (new.failures ≡ one_more old.failures)
SaysFlush (Err fault) old new result = (result ≡ Err fault) × (new ≡ old)

-- The output of a suite was written and flushed once, and its status is returned; or it was not, with the fault of the suite or of the flush.
pub record IsOutput (mode : Mode) (files : FilesValue) (request : Request) (contents : Contents) (old new : Device) (result : Result ℕ RunFault) : Type 0 where
  pub written : Result ℕ RunFault
  pub between : Device
  pub suite : IfOk written (IsWrittenAs mode files request contents old between)
  pub stopped : IfErr written (SaysFaultAs mode files request contents old between)
  pub used : UsesWriter written old between
  pub flush : SaysFlush written between new result

-- The sources have the names of the given files, in order. There is a library file if and only if one was given, and it has the given name; the same holds for the hooks file.
pub record AreGiven (w : Words) (files : FilesValue) : Type 0 where
  pub sources : map (λ s. s.name) files.sources ≡ map string_bytes w.files.items
  pub library : option_map (λ s. s.name) files.library ≡ option_map string_bytes w.library
  pub hooks : option_map (λ s. s.name) files.hooks ≡ option_map string_bytes w.hooks

-- The variables that were given.
abbrev pub variables_given : Words → List PairValue
variables_given w = map pair_value w.env.items

-- The world has these contents before a run: the variables are taken, and then each file of `--file` was read from the system and put under its name, in order.
pub record IsPrepared {S : Type 0} (reads : Reading S) (w : Words) (before after : S) (contents : Contents) : Type 0 where
  pub taken : AreTaken (variables_given w)
  pub put : ArePut reads (files_to_put w) before after (with_variables nothing_yet (variables_given w)) contents

-- Why a run isn't begun: a variable isn't taken, a file of `--file` isn't put, or a given file isn't read. It is the first such fault, and no file was read after it.
abbrev pub StopsBefore : {S : Type 0} → Reading S → Words → S → S → Fault → Type 0
StopsBefore {S} reads w before after fault =
    StopsAtVariable (variables_given w) fault × (before ≡ after)
    ⊎ (AreTaken (variables_given w) × StopsPutting reads (files_to_put w) before after fault
    ⊎ ((start : S) × (contents : Contents) × IsPrepared reads w before start contents × StopsReading reads start (names_given w) after fault))

-- What a run with these words gives for this result of its output: the status, or the fault with the inputs of the run.
abbrev pub IsResultOf : Words → FilesValue → Result ℕ RunFault → Result ℕ Faults → Type 0
IsResultOf w files (Ok status) done = done ≡ Ok status
IsResultOf w files (Err fault) done =
    (inputs : Inputs) × (texts inputs.tags.items ≡ texts w.options.tags.items) × (files_value inputs.files ≡ files)
    × (done ≡ Err (record { first = OfRun fault; inputs = Some inputs }))

-- The world is prepared. Then the given files, and no others, were read from the system, in order. The output and the status are those of one run of the bytes that it returned, which begins with the contents of the world.
pub record IsRun {S : Type 0} (reads : Reading S) (w : Words) (before after : S) (old new : Device) (done : Result ℕ Faults) : Type 0 where
  pub start : S
  pub contents : Contents
  pub prepared : IsPrepared reads w before start contents
  pub files : FilesValue
  pub given : AreGiven w files
  pub read : AreRead reads start (files_in_order files) after
  pub result : Result ℕ RunFault
  pub output : IsOutput w.mode files (request_of_files w.options files) contents old new result
  pub done_is : IsResultOf w files result done

-- Nothing is done, because of this fault, and standard output isn't called.
abbrev pub IsNothing : Device → Device → Fault → Result ℕ Faults → Type 0
IsNothing old new fault done = IsUntouched old new × (done ≡ Err (alone fault))

-- What a run with these words gives.
abbrev pub SaysRun : {S : Type 0} → Reading S → Words → S → S → Device → Device → Result ℕ Faults → Type 0
SaysRun reads w before after old new done =
    ((fault : Fault) × StopsBefore reads w before after fault × IsNothing old new fault done)
    ⊎ IsRun reads w before after old new done

-- What showing a text gives.
abbrev pub SaysShown : List ℕ → Device → Device → Result ℕ Faults → Type 0
SaysShown text old new (Ok status) = IsShown text old new status
SaysShown text old new (Err faults) = (fault : RunFault) × IsTextFault text old new fault × (faults ≡ alone (OfRun fault))

-- What was done of what the arguments ask for, and what was written to standard output. Only a run reads files.
abbrev pub SaysDone : {S : Type 0} → Reading S → Asked → S → S → Device → Device → Result ℕ Faults → Type 0
SaysDone reads (Help text) before after old new done = SaysShown (string_bytes text) old new done × (before ≡ after)
SaysDone reads (Run w) before after old new done = SaysRun reads w before after old new done
SaysDone reads (Nothing fault mode) before after old new done = IsNothing old new fault done × (before ≡ after)
