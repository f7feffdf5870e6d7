-- The state that explains a run.
use Rattle.std.specs.Prelude.{ℕ, List, [], ◌∷◌, ◌++◌, map, Option, string_bytes, string_capacity}
use Rattle.gk_select.specs.ExampleRows.{ExampleRowValue, entry_value, row_lists}
use Rattle.gk_steps.specs.Finding.{LibraryValue}
use Rattle.gk_run.specs.declared.results.Status.{Status}
use Rattle.gk_run.specs.declared.section.Level.{Level}
use Rattle.gk_run.specs.declared.section.Level.TheVariants as levels
use Rattle.gk_run.specs.Results.{CaseRow, RuleRow, FeatureRow}
use Rattle.gk_run.specs.Events.{Event as RunEvent, Ended, of_case, of_rule}
use Rattle.gk_explain.specs.declared.explanation.Explained.{Explained}
use Rattle.gk_explain.specs.declared.explanation.Explanation.{Explanation}
use Rattle.gk_explain.specs.Event.{level_of}
use Rattle.gk_explain.specs.EventLines.{NamesValue}
use Rattle.gk_explain.specs.SectionEvents.{SectionValue, section_value, section_lines, no_event, after_event}
use Rattle.gk_explain.specs.RowLines.{row_of, named_row}
use Rattle.gk_explain.specs.Headings.{case_heading, rule_heading, feature_heading, run_heading, explained, listed}

-- The library in which the run finds its steps; the names of the files; the rows of the open feature's cases, and those of each later feature; what is kept of the open run, feature, rule and scenario; what is ready to be written; and the list of what failed.
pub record ExplanationValue : Type 0 where
  pub library : LibraryValue
  pub names : NamesValue
  pub rows : List (Option ExampleRowValue)
  pub coming : List (List (Option ExampleRowValue))
  pub run : SectionValue
  pub feature : SectionValue
  pub rule : SectionValue
  pub scenario : SectionValue
  pub ready : List ℕ
  pub failures : List ℕ

-- The names of the files, with this one of the feature.
abbrev pub names_with : Explained → List ℕ → NamesValue
names_with explained source = record { hooks = explained.hooks.now; source = source }

-- The value of an `Explanation`.
abbrev pub explanation_value : Explanation → ExplanationValue
explanation_value e = record {
  library = e.nearest;
  names = names_with e.explained (string_bytes e.source);
  rows = map entry_value e.rows.now;
  coming = row_lists e.coming.now;
  run = section_value e.run;
  feature = section_value e.feature;
  rule = section_value e.rule;
  scenario = section_value e.scenario;
  ready = string_bytes e.explained.ready;
  failures = string_bytes e.explained.failures;
}

-- The room that is kept for the name of a feature's file. A name of at most this length needs no growth.
abbrev pub name_room : Explanation → ℕ
name_room e = string_capacity e.source

-- Nothing happened yet, and no feature was begun. Each feature has a list of its cases' rows, in the order of the features.
abbrev pub nothing_said : LibraryValue → List ℕ → List (List (Option ExampleRowValue)) → ExplanationValue
nothing_said library hooks rows = record { library = library; names = record { hooks = hooks; source = [] }; rows = []; coming = rows; run = no_event; feature = no_event; rule = no_event; scenario = no_event; ready = []; failures = [] }

-- A change of the section of a level.
abbrev pub with_section : Level → (SectionValue → SectionValue) → ExplanationValue → ExplanationValue
with_section levels.Run change e = record e { run = change e.run }
with_section levels.Feature change e = record e { feature = change e.feature }
with_section levels.Rule change e = record e { rule = change e.rule }
with_section levels.Scenario change e = record e { scenario = change e.scenario }

-- One more event, added to its section.
abbrev pub with_event : RunEvent → ExplanationValue → ExplanationValue
with_event event e = with_section (level_of event) (after_event e.library event) e

-- Something has ended with a status, under a heading and with the lines of its events. It is ready, and in the list, if it failed or was refused memory.
abbrev pub with_end : List ℕ → Status → List ℕ → ExplanationValue → ExplanationValue
with_end heading status lines e = record e { ready = e.ready ++ explained heading status lines; failures = e.failures ++ listed heading status }

-- The scenario at an index of its feature, with these lines, has ended with a result, and nothing is kept of it. If it is the case of a row, its explanation names the row below the heading.
abbrev pub with_case_of : List ℕ → ℕ → CaseRow → ExplanationValue → ExplanationValue
with_case_of lines index c e = let ended = with_end (case_heading e.names.source c) c.status (named_row (row_of index e.rows) ++ lines) e in record ended { scenario = no_event }

-- The open scenario, which has this index in its feature, has ended with a result.
abbrev pub with_case : ℕ → CaseRow → ExplanationValue → ExplanationValue
with_case index c e = with_case_of (section_lines e.names e.scenario) index c e

-- The open rule has ended with a result.
abbrev pub with_rule : RuleRow → ExplanationValue → ExplanationValue
with_rule r e = let ended = with_end (rule_heading e.names.source r) r.around (section_lines e.names e.rule) e in record ended { rule = no_event }

-- A scenario or a rule has ended.
abbrev pub with_ended : Ended → ExplanationValue → ExplanationValue
with_ended (of_case index c) e = with_case index c e
with_ended (of_rule r) e = with_rule r e

-- A feature whose cases have these rows begins, or one without rows if there is no list left.
abbrev pub with_rows : List (List (Option ExampleRowValue)) → ExplanationValue → ExplanationValue
with_rows [] e = record e { rows = [] }
with_rows (rows ∷ others) e = record e { rows = rows; coming = others }

-- A feature of a file begins.
abbrev pub with_source : List ℕ → ExplanationValue → ExplanationValue
with_source source e = let begun = with_rows e.coming e in record begun { names = record { hooks = e.names.hooks; source = source } }

-- The open feature has ended with a result.
abbrev pub with_feature : FeatureRow → ExplanationValue → ExplanationValue
with_feature f e = let ended = with_end (feature_heading e.names.source f) f.around (section_lines e.names e.feature) e in record ended { feature = no_event }

-- The run has ended; the status is that of its hooks and cleanups.
abbrev pub with_run : Status → ExplanationValue → ExplanationValue
with_run around e = let ended = with_end run_heading around (section_lines e.names e.run) e in record ended { run = no_event }

-- What was ready was taken.
abbrev pub with_taken : ExplanationValue → ExplanationValue
with_taken e = record e { ready = [] }
