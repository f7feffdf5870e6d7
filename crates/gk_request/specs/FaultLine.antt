-- The place of a fault of a run, and its line.
use Rattle.std.specs.Prelude.{ℕ, List, ◌++◌, codes, slice_get, Option, Some, None, option_map}
use Rattle.std.specs.Fmt.{decimal}
use Rattle.gk_gherkin.specs.ReadFault.{line_of_fault, text_of_fault}
use Rattle.gk_select.specs.SelectFault.{text_of_select_fault}
use Rattle.gk_steps.specs.LibraryFault.{line_of_library_fault, text_of_library_fault}
use Rattle.gk_request.specs.declared.run_fault.RunFault.{RunFault}
use Rattle.gk_request.specs.declared.run_fault.RunFault.TheVariants.{Read, Library, Hooks, Select, Write, Memory}
use Rattle.gk_request.specs.Source.{SourceValue}
use Rattle.gk_request.specs.Request.{FilesValue}

-- The file that a fault is in. The texts of tags are in none, and Write and Memory have none.
abbrev pub file_at_fault : FilesValue → RunFault → Option SourceValue
file_at_fault files (Read input fault) = slice_get files.sources input
file_at_fault files (Library fault) = files.library
file_at_fault files (Hooks fault) = files.hooks
file_at_fault files (Select (Some input) fault) = slice_get files.sources input
file_at_fault files (Select None fault) = None
file_at_fault files Write = None
file_at_fault files Memory = None

-- The name of the file that a fault is in.
abbrev pub name_at_fault : FilesValue → RunFault → Option (List ℕ)
name_at_fault files fault = option_map (λ (file : SourceValue). file.name) (file_at_fault files fault)

-- The line that a fault names.
abbrev pub line_at_fault : RunFault → Option ℕ
line_at_fault (Read input fault) = line_of_fault fault
line_at_fault (Library fault) = line_of_library_fault fault
line_at_fault (Hooks fault) = line_of_fault fault
line_at_fault (Select input fault) = None
line_at_fault Write = None
line_at_fault Memory = None

-- A text after the name of its file and the line, if they are known.
abbrev pub placed : Option (List ℕ) → Option ℕ → List ℕ → List ℕ
placed None line text = text
placed (Some name) None text = name ++ (codes ": " ++ text)
placed (Some name) (Some n) text = name ++ (codes ":" ++ (decimal n ++ (codes ": " ++ text)))

-- The line of a fault of a run, for a file with this name, without its line feed: the name and the line, if they are known, and the words of the crate that reads the file.
abbrev pub fault_line : Option (List ℕ) → RunFault → List ℕ
fault_line name (Read input fault) = placed name (line_of_fault fault) (text_of_fault fault)
fault_line name (Library fault) = placed name (line_of_library_fault fault) (text_of_library_fault fault)
fault_line name (Hooks fault) = placed name (line_of_fault fault) (text_of_fault fault)
fault_line name (Select (Some input) fault) = placed name None (text_of_select_fault fault)
fault_line name (Select None fault) = text_of_select_fault fault
fault_line name Write = codes "cannot write"
fault_line name Memory = codes "out of memory"
