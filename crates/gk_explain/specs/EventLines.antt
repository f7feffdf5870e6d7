-- What is kept of an event of a run, and its lines.
use Rattle.std.specs.Prelude.{ℕ, List, [], ◌++◌, Option, Some, None, option_map, string_bytes, codes}
use Rattle.std.specs.Fmt.{decimal}
use Rattle.gk_gherkin.specs.Keyword.{keyword_text}
use Rattle.gk_run.specs.declared.cleanups.Registration.{Registration}
use Rattle.gk_run.specs.declared.results.Mark.{Mark}
use Rattle.gk_run.specs.declared.results.Mark.TheVariants.{Acted}
use Rattle.gk_run.specs.declared.section.Part.{Part}
use Rattle.gk_run.specs.declared.section.Part.TheVariants as parts
use Rattle.gk_run.specs.Ending.{status_of_mark, reason_of_mark}
use Rattle.gk_run.specs.Events.{Event as RunEvent, of_step, of_cleanup}
use Rattle.gk_run.specs.Walk.{place_of}
use Rattle.gk_steps.specs.Finding.{LibraryValue}
use Rattle.gk_report.specs.PlainReport.{status_line, step_verdict}
use Rattle.gk_explain.specs.declared.event_lines.KeptEvent.{KeptEvent}
use Rattle.gk_explain.specs.declared.event_lines.KeptStep.{KeptStep}
use Rattle.gk_explain.specs.declared.event_lines.Names.{Names}
use Rattle.gk_explain.specs.Details.{event_details}
use Rattle.gk_explain.specs.Shown.{file_shown, escaped}

-- The names of the hooks file and of the feature file that contain the steps.
pub record NamesValue : Type 0 where
  pub hooks : List ℕ
  pub source : List ℕ

-- Proof machinery: the value of a `Names`.
abbrev pub names_value : Names → NamesValue
names_value names = record { hooks = names.hooks.now; source = names.source.now }

-- The name of the file that contains the steps of a part of a section.
abbrev pub file_of : NamesValue → Part → List ℕ
file_of names parts.Before = names.hooks
file_of names parts.Steps = names.source
file_of names parts.After = names.hooks

-- The text before a step of a part of a section.
abbrev pub part_text : Part → List ℕ
part_text parts.Before = codes "before: "
part_text parts.Steps = []
part_text parts.After = codes "after: "

-- A place in a file: its name, and a line.
unfoldable pub place_text : List ℕ → ℕ → List ℕ
place_text file line = file_shown file ++ codes ":" ++ decimal line ++ codes ": "

-- The status of a step's mark, with the reason of a step that failed.
abbrev pub mark_text : Mark → List ℕ
mark_text mark = step_verdict (status_of_mark mark) (reason_of_mark mark)

-- The keyword and the text of a step.
pub record StepWords : Type 0 where
  pub keyword : List ℕ
  pub text : List ℕ

-- What is kept of an event: the place of the step, or of the step that registered the cleanup; the words of the step, unless it is a cleanup; its mark; and the text below its line.
pub record KeptValue : Type 0 where
  pub at : Registration
  pub step : Option StepWords
  pub mark : Mark
  pub details : List ℕ

-- Proof machinery: the words of a `KeptStep`.
abbrev pub step_words : KeptStep → StepWords
step_words step = record { keyword = keyword_text step.keyword; text = string_bytes step.text }

-- Proof machinery: the value of a `KeptEvent`.
abbrev pub kept_value : KeptEvent → KeptValue
kept_value event = record { at = event.at; step = option_map step_words event.step; mark = event.mark; details = string_bytes event.details }

-- What is kept of an event.
abbrev pub kept_of : LibraryValue → RunEvent → KeptValue
kept_of library (of_step stage step mark used registered s) =
    record { at = place_of stage step; step = Some (record { keyword = step.keyword; text = step.text }); mark = mark; details = event_details library (of_step stage step mark used registered s) }
kept_of library (of_cleanup level cleanup outcome s) = record { at = cleanup.at; step = None; mark = Acted outcome; details = event_details library (of_cleanup level cleanup outcome s) }

-- The line of a cleanup that was registered at this place.
unfoldable pub line_of_cleanup : NamesValue → Registration → Mark → List ℕ
line_of_cleanup names at mark = status_line (codes "  " ++ place_text (file_of names at.part) at.line ++ codes "cleanup") (mark_text mark)

-- The line of a step at this place.
unfoldable pub line_of_step : NamesValue → Registration → StepWords → Mark → List ℕ
line_of_step names at step mark =
    status_line (codes "  " ++ place_text (file_of names at.part) at.line ++ part_text at.part ++ step.keyword ++ codes " " ++ escaped step.text) (mark_text mark)

-- The line of a step, or of a cleanup.
abbrev pub line_of : NamesValue → Registration → Option StepWords → Mark → List ℕ
line_of names at None mark = line_of_cleanup names at mark
line_of names at (Some step) mark = line_of_step names at step mark

-- The line of an event.
abbrev pub event_line : NamesValue → KeptValue → List ℕ
event_line names event = line_of names event.at event.step event.mark

-- The lines of an event: its own, and the text below it.
abbrev pub event_lines : NamesValue → KeptValue → List ℕ
event_lines names event = event_line names event ++ event.details
