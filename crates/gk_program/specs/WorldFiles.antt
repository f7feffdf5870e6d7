-- The variables of `--env` and the files of `--file`, which are put into the world before a run.
use Rattle.std.specs.Prelude.{◌≡◌, ◌⊎◌, ◌++◌, IsUtf8, ℕ, true, false, List, ◌∷◌, fold, map, None, Result, Ok, Err, string_bytes}
use Rattle.std.specs.List.{All}
use Rattle.gk_world.specs.State.{Contents}
use Rattle.gk_world.specs.Refusals.{IsFault, is_bad_name, is_too_long, put_refusal}
use Rattle.gk_world.specs.Sandbox.{SandboxValue, with_env, with_file}
use Rattle.gk_world.specs.declared.refusals.WorldFault.{WorldFault}
use Rattle.gk_world.specs.declared.refusals.WorldFault.TheVariants as world
use Rattle.gk_findings.specs.declared.hints.EnvMistake.TheVariants.{BadName, LongValue}
use Rattle.gk_cli.specs.Arguments.{PairValue}
use Rattle.gk_request.specs.Source.{SourceValue}
use Rattle.gk_request.specs.declared.run_fault.RunFault.TheVariants.{Memory}
use Rattle.gk_program.specs.Files.{AreRead, IsNotRead, Reading}
use Rattle.gk_program.specs.declared.fault.Fault.{Fault}
use Rattle.gk_program.specs.declared.fault.Fault.TheVariants.{Env, File, OfFile, OfRun}
use Rattle.gk_program.specs.declared.fault.FileFault.TheVariants.{NotText, TextTooLong}

-- Contents with some variables put in, in order. If several have the same name, the last one counts.
abbrev pub with_variables : Contents → List PairValue → Contents
with_variables c variables = fold (λ c v. with_env c v.name v.text) c variables

-- The world takes each of these variables.
abbrev pub AreTaken : List PairValue → Type 0
AreTaken variables = All (λ v. put_refusal v.name v.text ≡ None) variables

-- The fault of a variable of this name that the world refuses, for this reason.
abbrev pub IsFaultOfVariable : List ℕ → WorldFault → Fault → Type 0
IsFaultOfVariable name world.Memory fault = fault ≡ OfRun Memory
IsFaultOfVariable name world.TextTooLong (Env mistake same) = (string_bytes same ≡ name) × (mistake ≡ LongValue)
IsFaultOfVariable name by (Env mistake same) = (string_bytes same ≡ name) × (mistake ≡ BadName)
IsFaultOfVariable name by fault = ⊥

-- Some variables are taken, and the next isn't, for this reason: its name is bad or its text is too long, or there is no such reason and memory was refused.
pub record StopsAtVariable (given : List PairValue) (fault : Fault) : Type 0 where
  pub before : List PairValue
  pub next : PairValue
  pub left : List PairValue
  pub all : before ++ next ∷ left ≡ given
  pub taken : AreTaken before
  pub by : WorldFault
  pub refused : IsFault (put_refusal next.name next.text) by
  pub stops : IsFaultOfVariable next.name by fault

-- A file that was put into the world: its name there, the path that was read, and the text that was found.
pub record PutFile : Type 0 where
  pub name : List ℕ
  pub path : List ℕ
  pub text : List ℕ

-- The name and the path that were given for it.
abbrev pub given_of : PutFile → PairValue
given_of file = record { name = file.name; text = file.path }

-- What was read for it: its path and all its bytes.
abbrev pub read_of : PutFile → SourceValue
read_of file = record { name = file.path; bytes = file.text }

-- The contents with these files put, in order. Of equal names the last counts.
abbrev pub with_files : Contents → List PutFile → Contents
with_files c files = fold (λ c file. with_file c file.name file.text) c files

-- The bytes are UTF-8, and the world takes them as a text of this name.
abbrev pub IsText : PutFile → Type 0
IsText file = IsUtf8 file.text × (put_refusal file.name file.text ≡ None)

-- Each given path was read from the system, in order, and its text was put under its name. Nothing else was read or put.
pub record ArePut {S : Type 0} (reads : Reading S) (given : List PairValue) (before after : S) (old new : Contents) : Type 0 where
  pub files : List PutFile
  pub all : map given_of files ≡ given
  pub read : AreRead reads before (map read_of files) after
  pub texts : All IsText files
  pub put : new ≡ with_files old files

-- Why these bytes of the file of this path aren't put: they aren't UTF-8, or they are and are too many, or memory was refused.
abbrev pub IsNoText : List ℕ → List ℕ → Fault → Type 0
IsNoText path bytes (OfFile name NotText) = (string_bytes name ≡ path) × (IsUtf8 bytes → ⊥)
IsNoText path bytes (OfFile name TextTooLong) = (string_bytes name ≡ path) × IsUtf8 bytes × (is_too_long bytes ≡ true)
IsNoText path bytes (OfRun fault) = fault ≡ Memory
IsNoText path bytes fault = ⊥

-- Why a file with a good name isn't put: its path can't be read, or not what was read.
abbrev pub IsFaultOfFile : {S : Type 0} → Reading S → S → PairValue → S → Fault → Type 0
IsFaultOfFile reads before given after fault =
    IsNotRead reads TextTooLong before given.text after fault
    ⊎ ((bytes : List ℕ) × reads before given.text (Ok bytes) after × IsNoText given.text bytes fault)

-- Why the file of this name and path isn't put. A bad name is found before the path is read.
abbrev pub IsNotPut : {S : Type 0} → Reading S → S → PairValue → S → Fault → Type 0
IsNotPut reads before given after File = (is_bad_name given.name ≡ true) × (before ≡ after)
IsNotPut reads before given after fault = (is_bad_name given.name ≡ false) × IsFaultOfFile reads before given after fault

-- Some files were put, in order, and the next isn't, for this reason.
pub record StopsPutting {S : Type 0} (reads : Reading S) (given : List PairValue) (before after : S) (fault : Fault) : Type 0 where
  pub files : List PutFile
  pub next : PairValue
  pub left : List PairValue
  pub between : S
  pub all : map given_of files ++ next ∷ left ≡ given
  pub read : AreRead reads before (map read_of files) between
  pub texts : All IsText files
  pub stops : IsNotPut reads between next after fault

-- Proof machinery: one file was read and put.
pub record IsPut {S : Type 0} (reads : Reading S) (given : PairValue) (before after : S) (old new : SandboxValue) : Type 0 where
  pub text : List ℕ
  pub read : reads before given.text (Ok text) after
  pub is_text : IsText (record { name = given.name; path = given.text; text = text })
  pub put : new.now ≡ with_file old.now given.name text
  pub layers : new.saved ≡ old.saved

-- Proof machinery: bytes are put as the text of a file, or not.
abbrev pub SaysText : List ℕ → List ℕ → List ℕ → SandboxValue → SandboxValue → Result (Unit {0}) Fault → Type 0
SaysText name bytes path old new (Ok u) = IsUtf8 bytes × (put_refusal name bytes ≡ None) × (new.now ≡ with_file old.now name bytes) × (new.saved ≡ old.saved)
SaysText name bytes path old new (Err fault) = IsNoText path bytes fault
