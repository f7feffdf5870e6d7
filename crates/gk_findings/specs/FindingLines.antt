-- The output lines of findings.
use Rattle.std.specs.Prelude.{ℕ, Bool, ◌-◌, ◌==◌, List, [], ◌++◌, codes, flat_map, slice_get, Option, Some, None, if◌then◌else◌}
use Rattle.std.specs.Fmt.{decimal}
use Rattle.gk_explain.specs.EventLines.{place_text}
use Rattle.gk_explain.specs.Nearest.{entry_shown, type_word}
use Rattle.gk_explain.specs.Shown.{file_shown, unquoted}
use Rattle.gk_gherkin.specs.Text.{trim}
use Rattle.gk_steps.specs.Finding.{EntryValue, LibraryValue}
use Rattle.gk_lint.specs.declared.findings.FindingKind.{FindingKind}
use Rattle.gk_lint.specs.declared.findings.FindingKind.TheVariants.{UndefinedStep, CleanupWithoutStep}
use Rattle.gk_lint.specs.Findings.{FindingValue, HintValue, Nothing, Column, OtherType, Nearest, finding_text}
use Rattle.gk_findings.specs.declared.finding_lines.NotedLibrary.{NotedLibrary}
use Rattle.gk_findings.specs.Notes.{note, quoted}

-- The line of a finding in a file of this name.
abbrev pub finding_line : List ℕ → FindingValue → List ℕ
finding_line name f = place_text name f.line ++ (finding_text f.kind ++ codes "\n")

-- A library as notes name it: its entries, whether steps are looked up in it, and the name of its file.
pub record NotedLibraryValue : Type 0 where
  pub entries : LibraryValue
  pub steps : Bool
  pub name : List ℕ

-- Proof machinery: the value of a `NotedLibrary`.
abbrev pub noted_library_value : NotedLibrary → NotedLibraryValue
noted_library_value l = record { entries = l.hints; steps = l.steps; name = l.name.now }

-- The note that names a column, with invisible characters as escapes.
unfoldable pub column_note : List ℕ → List ℕ
column_note column = note (codes "the nearest column is: " ++ unquoted column)

-- The note that quotes a line without the spaces and tabs around it.
abbrev pub line_note : Option (List ℕ) → List ℕ
line_note None = []
line_note (Some text) = quoted (unquoted (trim text))

-- The note that names the nearest entry.
unfoldable pub nearest_note : EntryValue → List ℕ
nearest_note e = note (codes "the nearest entry is: " ++ entry_shown e)

-- What follows the type of an entry that matches, but is for other steps than the one with a finding of this kind.
unfoldable pub after_type : FindingKind → List ℕ
after_type CleanupWithoutStep = codes " entry; a cleanup needs step"
after_type kind = codes " entry; step would match every keyword"

-- The words that name a line, before the name of its file.
unfoldable pub matches_line : ℕ → List ℕ
matches_line line = codes "matches line " ++ (decimal line ++ codes " of ")

-- A line of a file of this name, as a part of a sentence.
abbrev pub line_in_file : List ℕ → ℕ → List ℕ
line_in_file name line = matches_line line ++ unquoted name

-- The words for an entry for steps of another type, with these words after its type.
unfoldable pub other_type : List ℕ → EntryValue → List ℕ
other_type after e = codes ", which is a " ++ (type_word e.step_type ++ after)

-- The note that an entry of a library file of this name matches, but is for other steps.
abbrev pub other_type_note : List ℕ → List ℕ → EntryValue → List ℕ
other_type_note after library e = note (line_in_file library e.line ++ other_type after e)

-- The note on what the author of a step may have meant.
abbrev pub hint_note : List ℕ → List ℕ → HintValue → List ℕ
hint_note after library Nothing = []
hint_note after library (Column column) = column_note column
hint_note after library (OtherType e) = other_type_note after library e
hint_note after library (Nearest e) = nearest_note e

-- The line of a finding among these lines, if it is a step whose text or whose cleanup's text finds nothing.
abbrev pub step_line : List (List ℕ) → ℕ → FindingKind → List ℕ
step_line lines line UndefinedStep = line_note (slice_get lines (line - 1))
step_line lines line CleanupWithoutStep = line_note (slice_get lines (line - 1))
step_line lines line kind = []

-- The line of a finding, and its notes: the line of the step, and what its author may have meant. The names are those of the library file and of this file.
abbrev pub noted : List ℕ → List ℕ → List (List ℕ) → FindingValue → List ℕ
noted library name lines f = finding_line name f ++ (step_line lines f.line f.kind ++ hint_note (after_type f.kind) library f.hint)

-- The lines of findings in a file of this name and with these lines, one after the other, each with its notes.
abbrev pub noted_lines : List ℕ → List ℕ → List (List ℕ) → List FindingValue → List ℕ
noted_lines library name lines findings = flat_map (noted library name lines) findings

-- The lines of findings in a file of this name, one after the other, without notes.
abbrev pub finding_lines : List ℕ → List FindingValue → List ℕ
finding_lines name findings = flat_map (finding_line name) findings

-- The line that counts the unused entries of a library file of this name, if there are any.
unfoldable pub count_line : List ℕ → ℕ → ℕ → List ℕ
count_line name unused entries = if unused == 0 then [] else file_shown name ++ (codes ": no step finds " ++ (decimal unused ++ (codes " of " ++ (decimal entries ++ codes " entries\n"))))

-- The line for a tag of `--tags` that occurs nowhere: the tag, with invisible characters as escapes.
unfoldable pub tag_line : List ℕ → List ℕ
tag_line tag = codes "--tags " ++ (unquoted tag ++ codes ": no such tag\n")

-- The lines for such tags, one after the other.
abbrev pub tag_lines : List (List ℕ) → List ℕ
tag_lines tags = flat_map tag_line tags

-- The line for a `--line` that chooses nothing.
abbrev pub idle_line : ℕ → List ℕ
idle_line n = codes "--line " ++ (decimal n ++ codes ": chooses no scenario\n")

-- The lines for such numbers, one after the other.
abbrev pub idle_lines : List ℕ → List ℕ
idle_lines numbers = flat_map idle_line numbers
