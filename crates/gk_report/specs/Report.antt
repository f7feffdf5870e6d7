-- The report as bytes: its head, the parts of the features in order, and its tail.
use Rattle.std.specs.Prelude.{◌≡◌, codes, ℕ, Bool, true, false, ◌&&◌, List, [], ◌∷◌, ◌++◌, find, Option}
use Rattle.std.specs.Str.{bytes_eq}
use Rattle.serde_json.specs.Written.{compact_text}
use Rattle.gk_run.specs.declared.results.Status.{Status}
use Rattle.gk_run.specs.Results.{FeatureRow, Results}
use Rattle.gk_report.specs.declared.report.Format.{Format}
use Rattle.gk_report.specs.declared.report.Format.TheVariants as formats
use Rattle.gk_report.specs.declared.report.Style.{Style}
use Rattle.gk_report.specs.declared.summary.Summary.{Summary}
use Rattle.gk_report.specs.ReportTexts.{line_feed}
use Rattle.gk_report.specs.Summary.{summary_of, status_of, status, status_by}
use Rattle.gk_report.specs.PlainReport.{plain_part, closing_lines}
use Rattle.gk_report.specs.ProgressReport.{progress_part}
use Rattle.gk_report.specs.JsonReport.{json_head, json_part, json_tail, document}

-- The name of a format. (behave's documentation: formatters)
abbrev pub format_name : Format → List ℕ
format_name formats.Plain = codes "plain"
format_name formats.Progress = codes "progress"
format_name formats.Json = codes "json"

-- The style of a plain report that omits nothing.
abbrev pub plain_style : Style
plain_style = record { format = formats.Plain; no_skipped = false }

-- All formats.
abbrev pub all_formats : List Format
all_formats = formats.Plain ∷ formats.Progress ∷ formats.Json ∷ []

-- The first of some formats that has this name; none if no format has it.
abbrev pub format_among : List Format → List ℕ → Option Format
format_among some name = find (λ (format : Format). bytes_eq (format_name format) name) some

-- The format of this name; none if no format has it.
abbrev pub format_named : List ℕ → Option Format
format_named name = format_among all_formats name

-- The head in a format.
abbrev pub head_in : Format → List ℕ
head_in formats.Plain = []
head_in formats.Progress = []
head_in formats.Json = json_head

-- The part of a feature in a format. `first` is true as long as each earlier part was empty.
abbrev pub part_in : Format → Bool → Bool → FeatureRow → List ℕ
part_in formats.Plain no_skipped first f = plain_part no_skipped f
part_in formats.Progress no_skipped first f = progress_part no_skipped f
part_in formats.Json no_skipped first f = json_part no_skipped first f

-- The tail in a format: counts, how the run's own hooks and cleanups ended, and the status that the run ends with.
abbrev pub tail_in : Format → Summary → Status → ℕ → List ℕ
tail_in formats.Plain summary around number = closing_lines summary around
tail_in formats.Progress summary around number = closing_lines summary around
tail_in formats.Json summary around number = json_tail around number summary

-- The head of a report.
abbrev pub head : Style → List ℕ
head style = head_in style.format

-- The part of a feature.
abbrev pub part : Style → Bool → FeatureRow → List ℕ
part style first f = part_in style.format style.no_skipped first f

-- Whether nothing is printed.
abbrev pub is_empty : List ℕ → Bool
is_empty [] = true
is_empty (b ∷ bs) = false

-- The parts of features in order. `first` is true if each part before them was empty.
abbrev pub parts_from : Style → Bool → List FeatureRow → List ℕ
parts_from style first [] = []
parts_from style first (f ∷ fs) = part style first f ++ parts_from style (first && is_empty (part style first f)) fs

-- The parts of a run's features in order.
abbrev pub parts : Style → List FeatureRow → List ℕ
parts style rows = parts_from style true rows

-- The tail of a report. The counts are those of all features, including hidden ones.
abbrev pub tail : Style → List FeatureRow → Status → List ℕ
tail style rows around = tail_in style.format (summary_of rows) around (status_of rows around)

-- The tail of a report, from the counts of a summary.
abbrev pub tail_by : Style → Summary → Status → List ℕ
tail_by style summary around = tail_in style.format summary around (status_by summary around)

-- For all results that have this summary, the text is their tail.
abbrev pub IsTailOf : Style → Summary → Status → List ℕ → Type 0
IsTailOf style summary around text = (rows : List FeatureRow) → summary ≡ summary_of rows → text ≡ tail style rows around

-- The report of a run's results.
abbrev pub report : Style → Results → List ℕ
report style results = head style ++ (parts style results.features ++ tail style results.features results.around)

-- A JSON report is the compact text of one document, followed by a line feed.
abbrev pub IsOneDocument : Type 0
IsOneDocument = (no_skipped : Bool) (results : Results) →
    report (record { format = formats.Json; no_skipped = no_skipped }) results
    ≡ compact_text (document no_skipped results.features results.around (status results) (summary_of results.features)) ++ line_feed

-- How a report grows. One more feature adds its part, which is the first printed one if nothing is printed yet. What is written after some features begins the report of all results that begin with them. The head, the parts of all features and the tail are the whole report.
pub record ReportsGrowByParts : Type 0 where
  pub next : (style : Style) (rows : List FeatureRow) (row : FeatureRow) →
      parts style (rows ++ row ∷ []) ≡ parts style rows ++ part style (is_empty (parts style rows)) row
  pub begins : (style : Style) (results : Results) (rows more : List FeatureRow) → results.features ≡ rows ++ more →
      (rest : List ℕ) × (report style results ≡ (head style ++ parts style rows) ++ rest)
  pub whole : (style : Style) (results : Results) →
      report style results ≡ (head style ++ parts style results.features) ++ tail style results.features results.around
