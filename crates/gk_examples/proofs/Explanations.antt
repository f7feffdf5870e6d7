-- Worked explanations, by computation.
use Rattle.std.specs.Prelude.{◌≡◌, ℕ, List, [], ◌∷◌, None, Some, codes, pos, refl, Option}
use Rattle.std.specs.Fmt.{digits}
use Rattle.std.specs.Str.{chars, is_utf8}
use lib.Utf8
use Rattle.gk_gherkin.specs.declared.feature.StepType.TheVariants as types
use Rattle.gk_gherkin.specs.Feature.{StepValue, Empty, Table}
use Rattle.gk_select.specs.ExampleRows.{ExampleRowValue}
use Rattle.gk_world.specs.State.{State}
use Rattle.gk_run.specs.declared.results.Mark.TheVariants as marks
use Rattle.gk_run.specs.declared.results.Outcome.TheVariants as outcomes
use Rattle.gk_run.specs.declared.results.Reason.TheVariants as reasons
use Rattle.gk_run.specs.declared.results.Status.{Status}
use Rattle.gk_run.specs.declared.results.Status.TheVariants as statuses
use Rattle.gk_run.specs.declared.section.Level.TheVariants as levels
use Rattle.gk_run.specs.declared.section.Part.TheVariants as parts
use Rattle.gk_run.specs.declared.section.Part.{Part}
use Rattle.gk_run.specs.Acting.{CleanupValue, UseValue}
use Rattle.gk_run.specs.Results.{CaseRow, FeatureRow}
use Rattle.gk_run.specs.Events.{Event as RunEvent, of_step, of_cleanup}
use Rattle.gk_report.specs.ReportTexts.{status_text, reason_text}
use Rattle.gk_report.specs.PlainReport.{status_line}
use Rattle.gk_steps.specs.declared.action.Action.TheVariants as actions
use Rattle.gk_steps.specs.declared.pattern.FieldKind.TheVariants as kinds
use Rattle.gk_steps.specs.Pattern.{Literal, FieldPiece}
use Rattle.gk_steps.specs.Matching.{match_of}
use Rattle.gk_steps.specs.Finding.{EntryValue, LibraryValue, found}
use Rattle.gk_explain.specs.Shown.{quoted_window, cut_line, marked_text_with, escaped, file_shown, shown, unquoted}
use Rattle.gk_explain.specs.Details.{event_details}
use Rattle.gk_lint.specs.Findings.{OtherType, Nearest}
use Rattle.gk_lint.specs.Likeness.{same_letters, is_one_off, common_len, differ_at_first}
use Rattle.gk_explain.specs.Nearest.{hint_text, before_nearest, other_type_line}
use Rattle.gk_explain.specs.Tables.{refused_file}
use Rattle.gk_explain.specs.EventLines.{line_of_step, line_of_cleanup, place_text}
use Rattle.gk_explain.specs.RowLines.{row_line}
use Rattle.gk_explain.specs.Headings.{case_heading, rule_heading, feature_heading, around_text, run_heading, explanation_text}
use Rattle.gk_explain.specs.Explanation.{ExplanationValue, nothing_said, with_event, with_case, with_rule, with_source, with_feature, with_run}

-- A step with a keyword, a text and a line.
abbrev step : List ℕ → List ℕ → ℕ → StepValue
step keyword text line = record { keyword = keyword; step_type = types.Given; text = text; block = Empty; line = line }

-- A scenario with a verdict.
abbrev scenario : Status → CaseRow
scenario verdict = record { keyword = codes "Scenario"; name = codes "s"; line = 6; status = verdict; around = statuses.Passed; cleanups = []; steps = [] }

-- A feature whose own hooks and cleanups ended so.
abbrev feature : Status → FeatureRow
feature around = record { source = codes "f"; name = codes "n"; line = 1; status = around; around = around; rules = []; cases = [] }

-- A feature of the file `f` begins, with hooks of the file `h`.
abbrev begun : ExplanationValue
begun = with_source (codes "f") (nothing_said [] (codes "h") [])

-- Events, one after another.
abbrev after_events : List RunEvent → ExplanationValue → ExplanationValue
after_events [] e = e
after_events (event ∷ others) e = after_events others (with_event event e)

-- A cleanup that was registered at a place.
abbrev registered_at : Part → ℕ → CleanupValue → CleanupValue
registered_at part line cleanup = record cleanup { at = record { part = part; line = line } }

-- A scenario between two hooks, with a cleanup, whose second step failed.
abbrev of_scenario : State → CleanupValue → ExplanationValue
of_scenario s cleanup =
    after_events (of_step (record { level = levels.Scenario; part = parts.Before }) (step (codes "Given") (codes "a") 2) (marks.Acted outcomes.Passed) None [] s
    ∷ of_step (record { level = levels.Scenario; part = parts.Steps }) (step (codes "When") (codes "b\nc") 7) (marks.Acted outcomes.Passed) None [] s
    ∷ of_step (record { level = levels.Scenario; part = parts.Steps }) (step (codes "Then") (codes "d") 8) (marks.Acted (outcomes.Failed reasons.Differs)) None [] s
    ∷ of_step (record { level = levels.Scenario; part = parts.Steps }) (step (codes "And") (codes "e") 10) marks.Skipped None [] s
    ∷ of_step (record { level = levels.Scenario; part = parts.After }) (step (codes "When") (codes "g") 4) marks.Undefined None [] s
    ∷ of_cleanup levels.Scenario (registered_at parts.Before 2 cleanup) outcomes.Memory s ∷ []) begun

-- Where it failed it is explained.
failed_is_explained : (s : State) (cleanup : CleanupValue) → (with_case 0 (scenario statuses.Failed) (of_scenario s cleanup)).ready
    ≡ codes "f:6: Scenario: s ... failed\n  h:2: before: Given a ... passed\n  f:7: When b\\nc ... passed\n  f:8: Then d ... failed: differs\n  f:10: And e ... skipped\n  h:4: after: When g ... undefined\n  h:2: cleanup ... memory\n\n"
unfolding found chars lib.Utf8.encode event_details digits status_text reason_text escaped file_shown status_line line_of_step line_of_cleanup place_text case_heading explanation_text
failed_is_explained s cleanup = refl

-- Where it passed nothing is said of it.
passed_is_not : (s : State) (cleanup : CleanupValue) → with_case 0 (scenario statuses.Passed) (of_scenario s cleanup) ≡ begun
unfolding found chars lib.Utf8.encode event_details digits status_text reason_text escaped file_shown status_line line_of_step line_of_cleanup place_text case_heading explanation_text
passed_is_not s cleanup = refl

-- The rows of a feature's cases. The second case has none.
abbrev rows : List (Option ExampleRowValue)
rows = Some (record { line = 4; number = 1; cells = [] }) ∷ None ∷ Some (record { line = 6; number = 2; cells = (codes "a", codes "x\ny") ∷ (codes "b", []) ∷ [] }) ∷ []

abbrev begun_with_rows : ExplanationValue
begun_with_rows = with_source (codes "f") (nothing_said [] (codes "h") (rows ∷ []))

-- A scenario that is the case of a row names it.
row_is_named : (with_case 2 (scenario statuses.Failed) begun_with_rows).ready ≡ codes "f:6: Scenario: s ... failed\n  row 2: a=x\\ny, b=\n\n"
unfolding chars lib.Utf8.encode digits status_text escaped file_shown status_line place_text case_heading explanation_text row_line
row_is_named = refl

-- The next feature has no rows.
rows_end_with_their_feature : (let next = with_source (codes "g") begun_with_rows in next.rows) ≡ []
rows_end_with_their_feature = refl

-- A library with an entry that registers a cleanup, and one that passes.
abbrev later_library : LibraryValue
later_library = record { line = 1; step_type = None; pattern = Literal (codes "later ") ∷ FieldPiece (codes "step") kinds.Plain ∷ []; action = actions.AtCleanup } ∷ record { line = 2; step_type = None; pattern = Literal (codes "ok") ∷ []; action = actions.Pass } ∷ []

-- The action that registers a cleanup, for a text that finds no entry.
abbrev registering : UseValue
registering = record { action = actions.AtCleanup; arguments = record { name = []; to = []; step = codes "no"; number = pos 0; text = None; block = Empty } }

-- A scenario whose hook and first step register a cleanup, and whose second step can't.
abbrev with_cleanups : State → CleanupValue → ExplanationValue
with_cleanups s cleanup =
    after_events (of_step (record { level = levels.Scenario; part = parts.Before }) (step (codes "Given") (codes "later ok") 2) (marks.Acted outcomes.Passed) None [] s
    ∷ of_step (record { level = levels.Scenario; part = parts.Steps }) (step (codes "Given") (codes "later ok") 7) (marks.Acted outcomes.Passed) None [] s
    ∷ of_step (record { level = levels.Scenario; part = parts.Steps }) (step (codes "Given") (codes "later no") 8) (marks.Acted (outcomes.Failed reasons.NoStep)) (Some registering) [] s
    ∷ of_step (record { level = levels.Scenario; part = parts.Steps }) (step (codes "Given") (codes "ok") 9) marks.Skipped None [] s
    ∷ of_cleanup levels.Scenario (registered_at parts.Steps 7 cleanup) outcomes.Passed s
    ∷ of_cleanup levels.Scenario (registered_at parts.Before 2 cleanup) (outcomes.Failed reasons.Asked) s ∷ []) (with_source (codes "f") (nothing_said later_library (codes "h") []))

-- Its cleanups are shown with the places of the steps that registered them.
cleanups_have_places : (s : State) (cleanup : CleanupValue) → (with_case 0 (scenario statuses.Failed) (with_cleanups s cleanup)).ready
    ≡ codes "f:6: Scenario: s ... failed\n  h:2: before: Given later ok ... passed\n  f:7: Given later ok ... passed\n  f:8: Given later no ... failed: no such step\n  f:9: Given ok ... skipped\n  f:7: cleanup ... passed\n  h:2: cleanup ... failed: fail step\n\n"
unfolding found match_of is_utf8 same_letters is_one_off common_len differ_at_first chars lib.Utf8.encode event_details digits status_text reason_text escaped file_shown status_line line_of_step line_of_cleanup place_text case_heading explanation_text
cleanups_have_places s cleanup = refl

-- Hooks and cleanups of a rule, a feature and a run, with one event in each, of which the rule's passed.
abbrev of_sections : State → ExplanationValue
of_sections s =
    after_events (of_step (record { level = levels.Run; part = parts.Before }) (step (codes "Given") (codes "a") 1) (marks.Acted outcomes.Passed) None [] s
    ∷ of_step (record { level = levels.Feature; part = parts.Before }) (step (codes "Given") (codes "b") 2) (marks.Acted outcomes.Passed) None [] s
    ∷ of_step (record { level = levels.Rule; part = parts.Before }) (step (codes "Given") (codes "c") 3) (marks.Acted outcomes.Passed) None [] s ∷ []) begun

-- What ended badly is explained and listed.
abbrev ended : State → Status → ExplanationValue
ended s rule = with_run statuses.Failed (with_feature (feature statuses.Memory) (with_rule (record { line = 5; around = rule }) (of_sections s)))

sections_are_explained : (s : State) → (ended s statuses.Passed).ready
    ≡ codes "f:1: Feature: n (hooks and cleanups) ... memory\n  h:2: before: Given b ... passed\n\nRun: (hooks and cleanups) ... failed\n  h:1: before: Given a ... passed\n\n"
unfolding found chars lib.Utf8.encode event_details digits status_text reason_text escaped file_shown status_line line_of_step line_of_cleanup place_text rule_heading feature_heading around_text run_heading explanation_text
sections_are_explained s = refl

sections_are_listed : (s : State) → (ended s statuses.Failed).failures ≡ codes "f:5: Rule: (hooks and cleanups)\nf:1: Feature: n (hooks and cleanups)\nRun: (hooks and cleanups)\n"
unfolding found chars lib.Utf8.encode event_details digits status_text reason_text escaped file_shown status_line line_of_step line_of_cleanup place_text rule_heading feature_heading around_text run_heading explanation_text
sections_are_listed s = refl

-- An entry for steps of each type, with a field between two literals.
abbrev entry : EntryValue
entry = record { line = 1; step_type = None; pattern = Literal (codes "the mill ") ∷ FieldPiece (codes "n") kinds.Decimal ∷ Literal (codes " stops") ∷ []; action = actions.Pass }

-- It is named as the nearest, or as one of another type.
named_as_nearest : hint_text (Nearest entry) ≡ codes "      the nearest entry is: step the mill {n:d} stops\n"
unfolding before_nearest other_type_line chars lib.Utf8.encode
named_as_nearest = refl

named_as_of_another_type : hint_text (OtherType entry) ≡ codes "      an entry of another type matches: step the mill {n:d} stops; step would match every keyword\n"
unfolding before_nearest other_type_line chars lib.Utf8.encode
named_as_of_another_type = refl

-- A row whose name has no byte is the first that can't be written, and the header isn't looked at.
row_without_name : refused_file (Table ((codes "" ∷ codes "text" ∷ []) ∷ (codes "a" ∷ codes "b" ∷ []) ∷ (codes "" ∷ codes "c" ∷ []) ∷ [])) ≡ ([], codes "c")
row_without_name = refl

-- `##[` and `##vso[` begin a command in a CI's log wherever they are, and `::` in the name of a file, with which a line may begin. None is left whole.
command_in_a_name : escaped (codes "a::b ###[error]c #[d] #a#[e] ##vso[f]") ≡ codes "a::b ###\\u{5b}error]c #[d] #a#[e] ##vso\\u{5b}f]"
unfolding escaped chars digits lib.Utf8.encode
command_in_a_name = refl

command_in_a_file_name : file_shown (codes "::error::##[a]:b") ≡ codes ":\\u{3a}error:\\u{3a}##\\u{5b}a]:b"
unfolding file_shown chars digits lib.Utf8.encode
command_in_a_file_name = refl

command_in_a_text : unquoted (codes "##[a\\") ≡ codes "##\\u{5b}a\\"
unfolding chars digits lib.Utf8.encode
command_in_a_text = refl

command_in_quotes : shown (codes "##[a\\") ≡ codes "##\\u{5b}a\\\\"
unfolding chars digits lib.Utf8.encode
command_in_quotes = refl

-- A character that turns the direction of the text is escaped everywhere.
turned_name : escaped (97 ∷ 0xE2 ∷ 0x80 ∷ 0xAE ∷ 0xD8 ∷ 0x9C ∷ 0xE2 ∷ 0x81 ∷ 0xA9 ∷ []) ≡ codes "a\\u{202e}\\u{61c}\\u{2069}"
unfolding escaped chars digits lib.Utf8.encode
turned_name = refl

-- Twenty-one lines with the twelfth among those that are shown, and with the thirteenth, which is shown without it.
line_round_the_middle : marked_text_with (codes "found   ") (record { line = 12; column = 1 }) (codes "a\nb\nc\nd\ne\nf\ng\nh\ni\nj\nk\nl\nm\nn\no\np\nq\nr\ns\nt\nu")
    ≡ codes "      found    \"a\"\n      found    \"b\"\n      found    \"c\"\n      found    \"d\"\n      found    \"e\"\n      ... 3 more lines ...\n      found    \"i\"\n      found    \"j\"\n      found    \"k\"\n      found    \"l\"\n      found    \"m\"\n      found    \"n\"\n      found    \"o\"\n      ... 2 more lines ...\n      found    \"r\"\n      found    \"s\"\n      found    \"t\"\n      found    \"u\"\n"
unfolding marked_text_with cut_line quoted_window digits is_utf8 chars lib.Utf8.encode
line_round_the_middle = refl

line_of_the_last_nine : marked_text_with (codes "found   ") (record { line = 13; column = 1 }) (codes "a\nb\nc\nd\ne\nf\ng\nh\ni\nj\nk\nl\nm\nn\no\np\nq\nr\ns\nt\nu")
    ≡ codes "      found    \"a\"\n      found    \"b\"\n      found    \"c\"\n      found    \"d\"\n      found    \"e\"\n      found    \"f\"\n      found    \"g\"\n      found    \"h\"\n      found    \"i\"\n      found    \"j\"\n      ... 2 more lines ...\n      found    \"m\"\n      found    \"n\"\n      found    \"o\"\n      found    \"p\"\n      found    \"q\"\n      found    \"r\"\n      found    \"s\"\n      found    \"t\"\n      found    \"u\"\n"
unfolding marked_text_with cut_line quoted_window digits is_utf8 chars lib.Utf8.encode
line_of_the_last_nine = refl

-- A line with sixty characters is whole, one with sixty-one that differs in the last loses its first, and a longer one is cut on both sides.
line_of_sixty : cut_line (codes "found   ") 60 (codes "012345678901234567890123456789012345678901234567890123456789")
    ≡ codes "      found    \"012345678901234567890123456789012345678901234567890123456789\"\n"
unfolding cut_line quoted_window lib.Utf8.encode
line_of_sixty = refl

line_of_sixty_one : cut_line (codes "found   ") 61 (codes "012345678901234567890123456789012345678901234567890123456789a")
    ≡ codes "      found    ...\"12345678901234567890123456789012345678901234567890123456789a\"\n"
unfolding cut_line quoted_window lib.Utf8.encode
line_of_sixty_one = refl

line_cut_on_both_sides : cut_line (codes "found   ") 51 (codes "01234567890123456789012345678901234567890123456789a012345678901234567890123456789012345678901234567890123456789")
    ≡ codes "      found    ...\"012345678901234567890123456789a01234567890123456789012345678\"...\n"
unfolding cut_line quoted_window lib.Utf8.encode
line_cut_on_both_sides = refl
