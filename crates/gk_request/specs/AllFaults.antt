-- The faults of all files of a run.
use Rattle.std.specs.Prelude.{◌≡◌, ◌≢◌, ◌⊎◌, suc, List, [], ◌∷◌, ◌++◌, drop, None, Result, Ok, Err}
use Rattle.gk_request.specs.declared.run_fault.RunFault.{RunFault}
use Rattle.gk_request.specs.declared.run_fault.RunFault.TheVariants.{Select, Write, Memory}
use Rattle.gk_request.specs.declared.request.Options.{Options}
use Rattle.gk_request.specs.Request.{FilesValue, bytes_of, request_of_files}
use Rattle.gk_request.specs.RunFault.{RunFile, DoesRead, IsFaultOf, IsUnread, SaysFile, reading_order, number_of}

-- The faults of files, in order: one for each file that doesn't read.
abbrev pub AreFaultsOf : List RunFile → List RunFault → Type 0
AreFaultsOf [] faults = faults ≡ []
AreFaultsOf (file ∷ files) faults =
    (DoesRead file × AreFaultsOf files faults)
    ⊎ ((fault : RunFault) × (others : List RunFault) × IsFaultOf file fault × AreFaultsOf files others × (faults ≡ fault ∷ others))

-- All files of a run, in the order in which they are read.
abbrev pub run_files : FilesValue → List RunFile
run_files files = reading_order (bytes_of files.library) (bytes_of files.hooks) files.sources

-- The files of a run that are read after the one with the fault. After a fault of the texts of tags these are all files, and after Write and Memory none.
abbrev pub files_after : FilesValue → RunFault → List RunFile
files_after files (Select None fault) = run_files files
files_after files Write = []
files_after files Memory = []
files_after files fault = drop (suc (number_of fault)) (run_files files)

-- The first fault of a run and those of the files after it, as faults of files. A fault of the texts of tags isn't a fault of a file.
abbrev pub with_first : RunFault → List RunFault → List RunFault
with_first (Select None fault) later = later
with_first first later = first ∷ later

-- Law: suppose that the request for these files doesn't read, for this first reason, which isn't Memory. Then it and the faults of the files read after it are the faults of all files, apart from a fault of the texts of tags.
abbrev pub AllFaultsAreFound : Type 0
AllFaultsAreFound =
    (options : Options) (files : FilesValue) (first : RunFault) (later : List RunFault) → first ≢ Memory → IsUnread (request_of_files options files) first
    → AreFaultsOf (files_after files first) later → AreFaultsOf (run_files files) (with_first first later)

-- Proof machinery, from here on: the file reads, or doesn't for this reason.
abbrev pub SaysOfFile : RunFile → Result (Unit {0}) RunFault → Type 0
SaysOfFile file (Ok u) = DoesRead file
SaysOfFile file (Err fault) = SaysFile file fault

-- The fault of a file was added to others, if it has one.
abbrev pub IsFoundIn : RunFile → List RunFault → List RunFault → Type 0
IsFoundIn file old new = (DoesRead file × (new ≡ old)) ⊎ ((fault : RunFault) × IsFaultOf file fault × (new ≡ old ++ fault ∷ []))
