-- The plain format, and the closing lines that it shares with progress.
use Rattle.std.specs.Prelude.{ℕ, ◌+◌, Bool, cond, ◌==◌, List, [], ◌++◌, length, map, flat_map, Option, Some, None, option_map, codes}
use Rattle.std.specs.Fmt.{decimal}
use Rattle.gk_run.specs.declared.results.Status.{Status}
use Rattle.gk_run.specs.declared.results.Reason.{Reason}
use Rattle.gk_report.specs.declared.summary.Counts.{Counts}
use Rattle.gk_report.specs.declared.summary.Summary.{Summary}
use Rattle.gk_report.specs.declared.plain_report.LinesLeft.{LinesLeft}
use Rattle.gk_run.specs.Results.{StepRow, CaseRow, RuleRow, FeatureRow, case_row, rule_row, is_passed}
use Rattle.gk_report.specs.ReportTexts.{status_text, reason_text, one_line, line_feed, is_hidden, printed_cases}
use Rattle.gk_report.specs.RuleGroups.{RuleGroup, cases_before, cases_behind, groups_by_line}

-- A line's text, three dots, and a status.
unfoldable pub status_line : List ℕ → List ℕ → List ℕ
status_line text verdict = text ++ codes " ... " ++ verdict ++ line_feed

-- The status of a step, with the reason if it failed.
abbrev pub step_verdict : Status → Option Reason → List ℕ
step_verdict status None = status_text status
step_verdict status (Some why) = status_text status ++ codes ": " ++ reason_text why

-- The line of a step.
unfoldable pub step_line : StepRow → List ℕ
step_line s = status_line (codes "    " ++ s.keyword ++ codes " " ++ one_line s.text) (step_verdict s.status s.reason)

-- The line of a scenario's heading.
unfoldable pub case_line : CaseRow → List ℕ
case_line c = status_line (codes "  " ++ c.keyword ++ codes ": " ++ one_line c.name) (status_text c.status)

-- The line of hooks and cleanups after an indent; empty if they passed.
unfoldable pub around_line : List ℕ → Status → List ℕ
around_line indent around = cond (is_passed around) [] (status_line (indent ++ codes "(hooks and cleanups)") (status_text around))

-- The lines of a scenario: those of its heading, its steps, and its hooks and cleanups.
abbrev pub case_lines : CaseRow → List ℕ
case_lines c = case_line c ++ flat_map step_line c.steps ++ around_line (codes "    ") c.around

-- The lines of the printed scenarios among these.
abbrev pub printed_lines : Bool → List CaseRow → List ℕ
printed_lines no_skipped cases = flat_map case_lines (printed_cases no_skipped cases)

-- The line of a rule's hooks and cleanups; empty if they passed.
unfoldable pub rule_line : RuleRow → List ℕ
rule_line r = cond (is_passed r.around) [] (status_line (codes "  (rule, line " ++ decimal r.line ++ codes ": hooks and cleanups)") (status_text r.around))

-- The lines of a rule: its printed scenarios, then its own hooks and cleanups.
abbrev pub group_lines : Bool → RuleGroup → List ℕ
group_lines no_skipped g = printed_lines no_skipped g.cases ++ rule_line g.rule

-- The lines of the scenarios of a feature: those that aren't in a rule, then those of each rule.
abbrev pub scenario_lines : Bool → List RuleRow → List CaseRow → List ℕ
scenario_lines no_skipped rules cases =
    printed_lines no_skipped (cases_before rules cases) ++ flat_map (group_lines no_skipped) (groups_by_line rules (cases_behind rules cases))

-- The line of the rule that scenarios are in; empty if they are in none.
abbrev pub line_of : Option RuleRow → List ℕ
line_of None = []
line_of (Some r) = rule_line r

-- The lines of scenarios that begin in a rule or in none: those before the next rule, the line of the rule that they are in, and the lines of the rules that follow.
abbrev pub lines_in : Bool → Option RuleRow → List RuleRow → List CaseRow → List ℕ
lines_in no_skipped rule rules cases =
    printed_lines no_skipped (cases_before rules cases) ++ (line_of rule ++ flat_map (group_lines no_skipped) (groups_by_line rules (cases_behind rules cases)))

-- The lines that are left.
abbrev pub lines_left : Bool → LinesLeft → List ℕ
lines_left no_skipped left = lines_in no_skipped (option_map rule_row left.rule) (map rule_row left.rules.now) (map case_row left.cases.now)

-- Proof machinery: the number of rules and scenarios that follow.
abbrev pub lines_to_go : LinesLeft → ℕ
lines_to_go left = length left.rules.now + length left.cases.now

-- The line of a feature's heading.
unfoldable pub feature_line : FeatureRow → List ℕ
feature_line f = status_line (codes "Feature: " ++ one_line f.name) (status_text f.status)

-- The text after the scenarios of a feature: the line of the feature's hooks and cleanups, then an empty line.
abbrev pub feature_end : Status → List ℕ
feature_end around = around_line (codes "  ") around ++ line_feed

-- The lines of a feature: its heading, its printed scenarios by their rules, its own hooks and cleanups, and an empty line.
abbrev pub feature_lines : Bool → FeatureRow → List ℕ
feature_lines no_skipped f = feature_line f ++ scenario_lines no_skipped f.rules f.cases ++ around_line (codes "  ") f.around ++ line_feed

-- The part of a feature: its lines, or nothing if it is hidden.
unfoldable pub plain_part : Bool → FeatureRow → List ℕ
plain_part no_skipped f = cond (is_hidden no_skipped f.status) [] (feature_lines no_skipped f)

-- The plural `s`; empty for 1.
abbrev pub plural : ℕ → List ℕ
plural n = cond (n == 1) [] (codes "s")

-- A comma, a number and a word.
unfoldable pub counted : ℕ → List ℕ → List ℕ
counted n word = codes ", " ++ decimal n ++ codes " " ++ word

-- A comma, a number and a word if the number isn't 0; otherwise empty.
abbrev pub counted_if_any : ℕ → List ℕ → List ℕ
counted_if_any n word = cond (n == 0) [] (counted n word)

-- The number of those that passed, with the noun for them.
abbrev pub passed_part : List ℕ → ℕ → List ℕ
passed_part noun n = decimal n ++ codes " " ++ noun ++ plural n ++ codes " passed"

-- A line of counts. (behave's documentation: summary, all but untested and memory)
unfoldable pub count_line : List ℕ → Counts → List ℕ → List ℕ
count_line noun c undefined =
    passed_part noun c.passed ++ counted c.failed (codes "failed") ++ counted c.skipped (codes "skipped")
    ++ undefined ++ counted_if_any c.untested (codes "untested") ++ counted_if_any c.memory (codes "memory") ++ line_feed

-- Proof machinery: the undefined ones in a line of counts, for steps only. (behave's documentation: summary)
abbrev pub undefined_part : Bool → Counts → List ℕ
undefined_part of_steps c = cond of_steps (counted c.undefined (codes "undefined")) []

-- The closing lines: the run's own hooks and cleanups, and the counts. (behave's documentation: summary)
unfoldable pub closing_lines : Summary → Status → List ℕ
closing_lines s around =
    around_line [] around
    ++ count_line (codes "feature") s.features []
    ++ count_line (codes "scenario") s.scenarios []
    ++ count_line (codes "step") s.steps (counted s.steps.undefined (codes "undefined"))
