-- The line, the status and the place of each fault.
use Rattle.std.specs.Prelude.{ℕ, List, ◌++◌, length, Option, Some, None, codes, string_bytes, unwrap_or}
use Rattle.gk_request.specs.FaultLine as of_run
use Rattle.gk_request.specs.FaultLine.{fault_line, name_at_fault, placed}
use Rattle.gk_request.specs.Request.{files_value}
use Rattle.gk_request.specs.RunFault.{status_of_fault}
use Rattle.gk_program.specs.declared.fault.Fault.{Fault}
use Rattle.gk_program.specs.declared.fault.Fault.TheVariants.{NotUtf8, Usage, Env, File, OfFile, OfRun}
use Rattle.gk_program.specs.declared.fault.Faults.{Faults}
use Rattle.gk_program.specs.declared.fault.FileFault.{FileFault}
use Rattle.gk_program.specs.declared.fault.FileFault.TheVariants.{NotText, TextTooLong, CannotRead, TooLong}
use Rattle.gk_program.specs.declared.fault.Inputs.{Inputs}
use Rattle.gk_program.specs.declared.fault.FaultPlace.{FaultPlace}

-- The words for the fault of a file.
abbrev pub file_fault_text : FileFault → List ℕ
file_fault_text NotText = codes "not UTF-8"
file_fault_text TextTooLong = codes "longer than 1048576 bytes"
file_fault_text CannotRead = codes "cannot read"
file_fault_text TooLong = codes "longer than 16777216 bytes"

-- A text after the program's name, as a line.
abbrev pub says : List ℕ → List ℕ
says text = codes "gherkin_run: " ++ (text ++ codes "\n")

-- The line of a fault in a file of this name, if a file has it. A mistake that clap finds has clap's own text.
abbrev pub line_of : Option (List ℕ) → Fault → List ℕ
line_of name NotUtf8 = codes "gherkin_run: not UTF-8\n"
line_of name (Usage text) = string_bytes text
line_of name (Env mistake before) = codes "gherkin_run: bad --env\n"
line_of name File = codes "gherkin_run: bad --file\n"
line_of name (OfFile given fault) = says (placed name None (file_fault_text fault))
line_of name (OfRun fault) = says (fault_line name fault)

-- The status that the program ends with at a fault.
abbrev pub status_of : Fault → ℕ
status_of (OfFile name fault) = 3
status_of (OfRun fault) = status_of_fault fault
status_of fault = 2

-- The line in a file that a fault names.
abbrev pub line_at : Fault → Option ℕ
line_at (OfRun fault) = of_run.line_at_fault fault
line_at fault = None

-- The place of a fault in no file.
abbrev pub nowhere : FaultPlace
nowhere = record { name_length = 0; line = 0 }

-- The place of a fault in a file of this name, if there is one, on this line, if it is on one.
abbrev pub place_at : Option (List ℕ) → Option ℕ → FaultPlace
place_at None line = nowhere
place_at (Some name) line = record { name_length = length name; line = unwrap_or line 0 }

-- The place of a fault in a file of this name, if a file has it.
abbrev pub place_of : Option (List ℕ) → Fault → FaultPlace
place_of name fault = place_at name (line_at fault)

-- The name of the file that has a fault. A fault of a run is that of these inputs.
abbrev pub name_of : Option Inputs → Fault → Option (List ℕ)
name_of inputs (OfFile name fault) = Some (string_bytes name)
name_of (Some inputs) (OfRun fault) = name_at_fault (files_value inputs.files) fault
name_of inputs fault = None

-- A fault before the inputs of a run were read.
abbrev pub alone : Fault → Faults
alone fault = record { first = fault; inputs = None }
