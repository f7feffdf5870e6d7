-- Headings and explanations of what failed.
use Rattle.std.specs.Prelude.{ℕ, cond, List, [], ◌∷◌, ◌++◌, codes}
use Rattle.gk_run.specs.declared.results.Status.{Status}
use Rattle.gk_run.specs.Results.{CaseRow, RuleRow, FeatureRow, case_row, rule_row, feature_row}
use Rattle.gk_run.specs.Running.{is_failed_or_memory}
use Rattle.gk_report.specs.ReportTexts.{status_text, line_feed}
use Rattle.gk_report.specs.PlainReport.{status_line}
use Rattle.gk_explain.specs.declared.headings.ExplainedEnd.{ExplainedEnd}
use Rattle.gk_explain.specs.declared.headings.ExplainedEnd.TheVariants as variants
use Rattle.gk_explain.specs.EventLines.{place_text}
use Rattle.gk_explain.specs.Shown.{escaped}

-- The heading of a scenario of a file.
unfoldable pub case_heading : List ℕ → CaseRow → List ℕ
case_heading source c = place_text source c.line ++ c.keyword ++ codes ": " ++ escaped c.name

-- The heading of the hooks and cleanups of a rule of a file.
unfoldable pub rule_heading : List ℕ → RuleRow → List ℕ
rule_heading source r = place_text source r.line ++ codes "Rule: (hooks and cleanups)"

-- The text after the name of a feature.
unfoldable pub around_text : List ℕ
around_text = codes " (hooks and cleanups)"

-- The heading of the hooks and cleanups of the feature of a file.
unfoldable pub feature_heading : List ℕ → FeatureRow → List ℕ
feature_heading source f = place_text source f.line ++ codes "Feature: " ++ escaped f.name ++ around_text

-- The heading of the hooks and cleanups of the run.
unfoldable pub run_heading : List ℕ
run_heading = codes "Run: (hooks and cleanups)"

-- Proof machinery: the heading of what has ended, in a file.
abbrev pub heading_of : List ℕ → ExplainedEnd → List ℕ
heading_of source (variants.Scenario c) = case_heading source (case_row c.now)
heading_of source (variants.Rule r) = rule_heading source (rule_row r.now)
heading_of source (variants.Feature f) = feature_heading source (feature_row f.now)
heading_of source (variants.Run around) = run_heading

-- Proof machinery: the status with which it ended.
abbrev pub ended_status : ExplainedEnd → Status
ended_status (variants.Scenario c) = c.now.status
ended_status (variants.Rule r) = r.now.around
ended_status (variants.Feature f) = f.now.around
ended_status (variants.Run around) = around

-- An explanation: a heading with a status, the lines of events, and an empty line.
unfoldable pub explanation_text : List ℕ → Status → List ℕ → List ℕ
explanation_text heading status lines = status_line heading (status_text status) ++ lines ++ line_feed

-- The explanation of what ended with this status, if it failed or was refused memory; otherwise nothing.
abbrev pub explained : List ℕ → Status → List ℕ → List ℕ
explained heading status lines = cond (is_failed_or_memory status) (explanation_text heading status lines) []

-- Its line in the list of what failed, if it failed or was refused memory; otherwise nothing.
abbrev pub listed : List ℕ → Status → List ℕ
listed heading status = cond (is_failed_or_memory status) (heading ++ line_feed) []

-- The list of what failed, followed by an empty line unless the list is empty.
abbrev pub failures_text : List ℕ → List ℕ
failures_text [] = []
failures_text (byte ∷ bytes) = (byte ∷ bytes) ++ line_feed
