-- The progress format: a line for each feature.
use Rattle.std.specs.Prelude.{ℕ, Bool, cond, List, [], ◌++◌, map, codes}
use Rattle.gk_run.specs.declared.results.Status.{Status}
use Rattle.gk_run.specs.declared.results.Status.TheVariants as statuses
use Rattle.gk_run.specs.Results.{CaseRow, FeatureRow}
use Rattle.gk_report.specs.ReportTexts.{status_text, one_line, line_feed, is_hidden, printed_cases}

-- The character of a scenario: `.`, `F`, `S`, `U` or `M`. No verdict is undefined. (this project's profile, after behave's progress formatter)
abbrev pub status_character : Status → ℕ
status_character statuses.Passed = 46
status_character statuses.Failed = 70
status_character statuses.Skipped = 83
status_character statuses.Undefined = 70
status_character statuses.Untested = 85
status_character statuses.Memory = 77

-- The characters of the scenarios that are printed.
abbrev pub case_characters : Bool → List CaseRow → List ℕ
case_characters no_skipped cases = map (λ c. status_character c.status) (printed_cases no_skipped cases)

-- The line of a feature: its source's name, the characters of its scenarios, and its verdict.
abbrev pub progress_line : Bool → FeatureRow → List ℕ
progress_line no_skipped f = one_line f.source ++ codes "  " ++ case_characters no_skipped f.cases ++ codes "  " ++ status_text f.status ++ line_feed

-- The part of a feature: its line, or nothing if it is hidden.
unfoldable pub progress_part : Bool → FeatureRow → List ℕ
progress_part no_skipped f = cond (is_hidden no_skipped f.status) [] (progress_line no_skipped f)
