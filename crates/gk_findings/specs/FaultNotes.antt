-- The notes below a fault.
use Rattle.std.specs.Prelude.{ℕ, ◌-◌, List, [], ◌++◌, codes, slice_get, Option, Some, None}
use Rattle.std.specs.Str.Lines.{lines}
use Rattle.std.specs.Str.Lossy.{utf8_lossy}
use Rattle.gk_select.specs.TagStops.{tag_stop}
use Rattle.gk_explain.specs.Shown.{unquoted}
use Rattle.gk_request.specs.declared.run_fault.RunFault.{RunFault}
use Rattle.gk_request.specs.declared.run_fault.RunFault.TheVariants.{Write, Memory}
use Rattle.gk_request.specs.Source.{SourceValue}
use Rattle.gk_request.specs.Request.{FilesValue}
use Rattle.gk_request.specs.FaultLine.{file_at_fault, line_at_fault}
use Rattle.gk_findings.specs.Notes.{note, quoted, quote}
use Rattle.gk_findings.specs.Hints.{env_hint, hint_in, unreadable_hint}
use Rattle.gk_findings.specs.TagHints.{tags_hint}
use Rattle.gk_findings.specs.declared.hints.EnvMistake.{EnvMistake}
use Rattle.gk_findings.specs.declared.hints.EnvMistake.TheVariants.{NoEquals}

-- What follows the name in an argument of `--env` with this mistake.
abbrev pub after_name : EnvMistake → List ℕ
after_name NoEquals = []
after_name mistake = codes "="

-- The notes on an argument of `--env`: its text up to the `=`, and a hint.
abbrev pub env_notes : EnvMistake → List ℕ → List ℕ
env_notes mistake name = quoted (unquoted name ++ after_name mistake) ++ note (env_hint mistake)

-- The note on a file that can't be opened or read.
abbrev pub unreadable_note : List ℕ
unreadable_note = note unreadable_hint

-- The line of a file with this number, counted from 1. Bytes that aren't UTF-8 appear as U+FFFD. (std's `lines` and `from_utf8_lossy`)
abbrev pub line_text : List ℕ → ℕ → Option (List ℕ)
line_text bytes n = slice_get (lines (utf8_lossy bytes)) (n - 1)

-- The quoted line of a file, if a line of it is named.
abbrev pub quote_of : Option SourceValue → Option ℕ → List ℕ
quote_of None line = []
quote_of (Some file) None = []
quote_of (Some file) (Some n) = quote (line_text file.bytes n)

-- The notes below a fault of a file, or of none: the line that it names, and a hint.
abbrev pub file_notes : FilesValue → RunFault → List ℕ
file_notes files fault = quote_of (file_at_fault files fault) (line_at_fault fault) ++ note (hint_in (file_at_fault files fault) fault)

-- The notes below a fault of a run. If a text of tags is given, the fault is that it spells no rule: the text, and where it breaks. Write and Memory have none.
abbrev pub notes : Option (List ℕ) → FilesValue → RunFault → List ℕ
notes (Some text) files fault = quoted (unquoted text) ++ note (tags_hint (tag_stop text))
notes None files Write = []
notes None files Memory = []
notes None files fault = file_notes files fault
