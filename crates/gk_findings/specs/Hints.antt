-- Hints on how to fix faults, in one line each. (this project's profile)
use Rattle.std.specs.Prelude.{ℕ, ◌-◌, List, codes, Option, Some, None, option_map, unwrap_or}
use Rattle.std.specs.Str.Lines.{lines}
use Rattle.std.specs.Str.Lossy.{utf8_lossy}
use Rattle.gk_gherkin.specs.Lines.{without_mark}
use Rattle.gk_gherkin.specs.declared.read_fault.ReadFault.{ReadFault}
use Rattle.gk_gherkin.specs.declared.read_fault.ReadFault.TheVariants as reading
use Rattle.gk_select.specs.declared.select_fault.SelectFault.{SelectFault}
use Rattle.gk_select.specs.declared.select_fault.SelectFault.TheVariants as selecting
use Rattle.gk_steps.specs.declared.library_fault.LibraryFault.{LibraryFault}
use Rattle.gk_steps.specs.declared.library_fault.LibraryFault.TheVariants as library
use Rattle.gk_lint.specs.LibraryCauses.{library_cause, library_cause_text}
use Rattle.gk_lint.specs.UnexpectedLines.{cause_at, cause_text}
use Rattle.gk_request.specs.Source.{SourceValue}
use Rattle.gk_request.specs.declared.run_fault.RunFault.{RunFault}
use Rattle.gk_request.specs.declared.run_fault.RunFault.TheVariants.{Read, Library, Hooks, Select, Write, Memory}
use Rattle.gk_findings.specs.declared.hints.EnvMistake.{EnvMistake}
use Rattle.gk_findings.specs.declared.hints.EnvMistake.TheVariants.{NoEquals, BadName, LongValue}

-- The hint for a file that can't be opened or read.
abbrev pub unreadable_hint : List ℕ
unreadable_hint = codes "check its name and permissions; for a folder, name its files, as in features/*.feature; for FILE:12, write --line 12 FILE"

-- The hint for an argument of `--env`. The limits are those of the world.
abbrev pub env_hint : EnvMistake → List ℕ
env_hint NoEquals = codes "write NAME=VALUE, with = after the name"
env_hint BadName = codes "give the variable a name of 1 to 255 bytes before the ="
env_hint LongValue = codes "shorten its value: at most 1048576 bytes"

-- The hint for a file that is too long.
abbrev pub too_long_hint : List ℕ
too_long_hint = codes "divide the file"

-- The hint for a file that isn't UTF-8.
abbrev pub not_utf8_hint : List ℕ
not_utf8_hint = codes "save the file as UTF-8"

-- The hint if memory was refused.
abbrev pub no_memory_hint : List ℕ
no_memory_hint = codes "divide the files, or spread them over several runs"

-- The hint for a fault of a feature file.
abbrev pub feature_hint : ReadFault → List ℕ
feature_hint (reading.NotUtf8 n) = not_utf8_hint
feature_hint (reading.Unexpected n) = codes "look at the lines above, too"
feature_hint (reading.BadTag n) = codes "write an @ before each tag, and a # before remarks"
feature_hint (reading.CellCount n) = codes "give each row as many cells as the first; write \\| for a bar inside a cell"
feature_hint (reading.UnclosedText n) = codes "close it with a line of the same three characters alone"
feature_hint (reading.TagsAtEnd n) = codes "give the tags a scenario, or take them out"
feature_hint (reading.Language n) = codes "write the keywords in English, and take this comment out"
feature_hint reading.TooLong = too_long_hint
feature_hint reading.Memory = no_memory_hint
feature_hint (reading.BadHook n) = codes "write before_ or after_, and then all:, feature:, rule:, scenario: or tag @NAME:, each heading once"
feature_hint (reading.BadRow n) = codes "close the row with a bar"

-- The hint for a fault of a hooks file. It is the one for a feature file, except for an unexpected line.
abbrev pub hooks_hint : ReadFault → List ℕ
hooks_hint (reading.Unexpected n) = codes "write each heading as before_all: or after_all:, and below it only steps, each with its keyword"
hooks_hint fault = feature_hint fault

-- The hint for a fault of a library file.
abbrev pub library_hint : LibraryFault → List ℕ
library_hint (library.NotUtf8 n) = not_utf8_hint
library_hint (library.BadType n) = codes "begin the line with given, when, then or step, in lower case"
library_hint (library.BadPattern n) = codes "write PATTERN => ACTION, with {{ and }} for braces, and a name of its own for each field"
library_hint (library.UnknownAction n) = codes "take a name of the table of actions, in lower case"
library_hint (library.MissingField n) = codes "name the fields as the action does"
library_hint (library.FieldKind n) = codes "write {n:d} for the number; name, to, text and step are texts"
library_hint (library.Ambiguous n) = codes "put the special entry first, or make it differ"
library_hint library.TooLong = too_long_hint
library_hint library.Memory = no_memory_hint

-- The hint for texts of tags, or for the cases of a feature.
abbrev pub select_hint : SelectFault → List ℕ
select_hint selecting.TooMany = codes "divide the outline or the file"
select_hint selecting.BadTagText = codes "write it as '@a and not @b', or as @a,~@b"
select_hint selecting.Memory = no_memory_hint

-- The hint for a fault of a run, by the fault alone.
abbrev pub hint : RunFault → List ℕ
hint (Read input fault) = feature_hint fault
hint (Library fault) = library_hint fault
hint (Hooks fault) = hooks_hint fault
hint (Select input fault) = select_hint fault
hint Write = codes "make room, and run again"
hint Memory = no_memory_hint

-- The lines of a file, without the byte-order mark that it may begin with. Bytes that aren't UTF-8 appear as U+FFFD.
abbrev pub lines_in : List ℕ → List (List ℕ)
lines_in bytes = lines (without_mark (utf8_lossy bytes))

-- The hint for a fault of a file with these lines. That for an unexpected line of a feature file goes by what is above the line, and that for a fault of a library by its line and those above, if a cause is found there.
abbrev pub hint_by : List (List ℕ) → RunFault → List ℕ
hint_by lines (Read input (reading.Unexpected n)) = unwrap_or (option_map cause_text (cause_at lines (n - 1))) (hint (Read input (reading.Unexpected n)))
hint_by lines (Library fault) = unwrap_or (option_map library_cause_text (library_cause lines fault)) (hint (Library fault))
hint_by lines fault = hint fault

-- The hint for a fault in a file, if it is in one.
abbrev pub hint_in : Option SourceValue → RunFault → List ℕ
hint_in None fault = hint fault
hint_in (Some file) fault = hint_by (lines_in file.bytes) fault
