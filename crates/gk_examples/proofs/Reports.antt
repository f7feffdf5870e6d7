-- Worked reports, each with its status, by computation.
use Rattle.std.specs.Prelude.{◌≡◌, ⊤, ℕ, true, false, List, [], ◌∷◌, ◌++◌, replicate, Some, None, codes, refl}
use Rattle.std.specs.Fmt.{digits}
use Rattle.serde_json.proofs.OnLiterals.{serde_json_on_literals}
use Rattle.gk_run.specs.declared.results.Status.{Status}
use Rattle.gk_run.specs.declared.results.Status.TheVariants.{Passed, Failed, Skipped, Undefined, Untested, Memory}
use Rattle.gk_run.specs.declared.results.Reason.{Reason}
use Rattle.gk_run.specs.declared.results.Reason.TheVariants as reasons
use Rattle.gk_run.specs.declared.results.Outcome.TheVariants as outcomes
use Rattle.gk_run.specs.Results.{StepRow, CaseRow, RuleRow, FeatureRow, Results}
use Rattle.gk_report.specs.declared.report.Format.TheVariants as formats
use Rattle.gk_report.specs.declared.report.Style.{Style}
use Rattle.gk_report.specs.ReportTexts.{status_text, reason_text, one_line}
use Rattle.gk_report.specs.Summary.{status}
use Rattle.gk_report.specs.PlainReport.{status_line, step_line, case_line, around_line, rule_line, feature_line, plain_part, counted, count_line, closing_lines}
use Rattle.gk_report.specs.ProgressReport.{progress_part}
use Rattle.gk_report.specs.JsonReport.{json_head, json_part, json_tail}
use Rattle.gk_report.specs.Report.{plain_style, part, report}

-- What a proof unfolds to compute a plain report of results that are written out.
unfoldable pub plain_on_literals : ⊤
unfolding digits status_text reason_text one_line status_line step_line case_line around_line rule_line feature_line plain_part counted count_line closing_lines
plain_on_literals = tt

-- Progress.
abbrev progress : Style
progress = record { format = formats.Progress; no_skipped = false }

-- JSON.
abbrev json : Style
json = record { format = formats.Json; no_skipped = false }

-- A step with a keyword, a text and a status.
abbrev step : List ℕ → List ℕ → Status → StepRow
step keyword text status = record { keyword = keyword; text = text; line = 3; status = status; reason = None }

-- A step that failed for a reason.
abbrev failed_step : Reason → StepRow
failed_step why = record { keyword = codes "Given"; text = codes "a"; line = 3; status = Failed; reason = Some why }

-- A scenario with a name, a verdict and steps, whose hooks and cleanups passed.
abbrev scenario : List ℕ → Status → List StepRow → CaseRow
scenario name status steps = record { keyword = codes "Scenario"; name = name; line = 2; status = status; around = Passed; cleanups = []; steps = steps }

-- A feature with a name, a verdict and scenarios, whose own hooks and cleanups passed.
abbrev feature : List ℕ → Status → List CaseRow → FeatureRow
feature name status cases = record { source = codes "f.feature"; name = name; line = 1; status = status; around = Passed; rules = []; cases = cases }

-- The results of features, where the run's own hooks and cleanups passed.
abbrev run : List FeatureRow → Results
run features = record { features = features; around = Passed }

-- The results of one feature with one scenario, which has the feature's verdict.
abbrev one_scenario : Status → List StepRow → Results
one_scenario verdict steps = run (feature (codes "f") verdict (scenario (codes "s") verdict steps ∷ []) ∷ [])

-- The results of one step that failed for a reason.
abbrev failed_for : Reason → Results
failed_for why = one_scenario Failed (failed_step why ∷ [])

-- The report of results in a style, and their status.
abbrev pub Gives : Style → Results → List ℕ → ℕ → Type 0
Gives style results text number = (report style results ≡ text) × (status results ≡ number)

-- No feature.
abbrev nothing : Results
nothing = run []

-- A scenario whose steps pass, and one of whose cleanups fails.
abbrev failed_cleanup : Results
failed_cleanup =
    let cleaned : CaseRow = record {
      keyword = codes "Scenario";
      name = codes "s";
      line = 2;
      status = Failed;
      around = Failed;
      cleanups = outcomes.Passed ∷ outcomes.Failed reasons.Asked ∷ outcomes.Passed ∷ outcomes.Passed ∷ [];
      steps = step (codes "Given") (codes "at cleanup the file \"log\" should be \"rp\"") Passed
          ∷ step (codes "And") (codes "at cleanup the file \"log\" is extended with \"p\"") Passed
          ∷ step (codes "And") (codes "at cleanup it fails") Passed
          ∷ step (codes "And") (codes "at cleanup a file named \"log\" containing \"r\"") Passed ∷ [];
    } in
    run (feature (codes "f") Failed (cleaned ∷ []) ∷ [])

-- Memory was refused in a scenario's cleanups; another scenario passes after it.
abbrev memory_in_cleanup : Results
memory_in_cleanup =
    let cleaned : CaseRow = record { keyword = codes "Scenario"; name = codes "s"; line = 2; status = Memory; around = Memory; cleanups = outcomes.Memory ∷ []; steps = step (codes "Given") (codes "a") Passed ∷ [] } in
    run (feature (codes "f") Memory (cleaned ∷ scenario (codes "t") Passed [] ∷ []) ∷ [])

-- A feature whose hook before it fails: its scenario isn't reached.
abbrev failed_feature_hook : Results
failed_feature_hook =
    let unreached = scenario (codes "s") Untested (step (codes "Given") (codes "at cleanup the file \"log\" should be \"absSB\"") Untested ∷ step (codes "Then") (codes "the file \"log\" should be \"abs\"") Untested ∷ []) in
    run (record (feature (codes "f") Failed (unreached ∷ [])) { around = Failed } ∷ [])

-- A run whose hook before all features fails: no feature is begun.
abbrev failed_run_hook : Results
failed_run_hook = record { features = feature (codes "f") Untested (scenario (codes "s") Untested (step (codes "Given") (codes "a") Untested ∷ []) ∷ []) ∷ []; around = Failed }

-- Plain reports, each with the status.
plain_reports :
    Gives plain_style nothing (codes "0 features passed, 0 failed, 0 skipped\n0 scenarios passed, 0 failed, 0 skipped\n0 steps passed, 0 failed, 0 skipped, 0 undefined\n") 0
    -- A feature without scenarios.
    × Gives plain_style (run (feature (codes "f") Skipped [] ∷ [])) (codes "Feature: f ... skipped\n\n0 features passed, 0 failed, 1 skipped\n0 scenarios passed, 0 failed, 0 skipped\n0 steps passed, 0 failed, 0 skipped, 0 undefined\n") 0
    -- A step that passed.
    × Gives plain_style (one_scenario Passed (step (codes "Given") (codes "a") Passed ∷ [])) (codes "Feature: f ... passed\n  Scenario: s ... passed\n    Given a ... passed\n\n1 feature passed, 0 failed, 0 skipped\n1 scenario passed, 0 failed, 0 skipped\n1 step passed, 0 failed, 0 skipped, 0 undefined\n") 0
    -- A scenario that is not chosen.
    × Gives plain_style (one_scenario Skipped (step (codes "Given") (codes "a") Skipped ∷ [])) (codes "Feature: f ... skipped\n  Scenario: s ... skipped\n    Given a ... skipped\n\n0 features passed, 0 failed, 1 skipped\n0 scenarios passed, 0 failed, 1 skipped\n0 steps passed, 0 failed, 1 skipped, 0 undefined\n") 0
    -- A step that no entry matches.
    × Gives plain_style (one_scenario Failed (step (codes "Given") (codes "a") Undefined ∷ [])) (codes "Feature: f ... failed\n  Scenario: s ... failed\n    Given a ... undefined\n\n0 features passed, 1 failed, 0 skipped\n0 scenarios passed, 1 failed, 0 skipped\n0 steps passed, 0 failed, 0 skipped, 1 undefined\n") 1
    -- Steps after one that failed.
    × Gives plain_style (one_scenario Failed (step (codes "Given") (codes "a") Passed ∷ failed_step reasons.Asked ∷ step (codes "When") (codes "b") Skipped ∷ step (codes "Then") (codes "c") Undefined ∷ [])) (codes "Feature: f ... failed\n  Scenario: s ... failed\n    Given a ... passed\n    Given a ... failed: fail step\n    When b ... skipped\n    Then c ... undefined\n\n0 features passed, 1 failed, 0 skipped\n0 scenarios passed, 1 failed, 0 skipped\n1 step passed, 1 failed, 1 skipped, 1 undefined\n") 1
    -- A step at which memory was refused, and one after it.
    × Gives plain_style (one_scenario Memory (step (codes "Given") (codes "a") Passed ∷ step (codes "When") (codes "b") Memory ∷ step (codes "Then") (codes "c") Untested ∷ [])) (codes "Feature: f ... memory\n  Scenario: s ... memory\n    Given a ... passed\n    When b ... memory\n    Then c ... untested\n\n0 features passed, 0 failed, 0 skipped, 1 memory\n0 scenarios passed, 0 failed, 0 skipped, 1 memory\n1 step passed, 0 failed, 0 skipped, 0 undefined, 1 untested, 1 memory\n") 4
    -- Memory was refused in one scenario, and another failed.
    × Gives plain_style (run (feature (codes "f") Memory (scenario (codes "s") Failed (failed_step reasons.Absent ∷ []) ∷ scenario (codes "t") Memory (step (codes "Given") (codes "a") Memory ∷ []) ∷ []) ∷ [])) (codes "Feature: f ... memory\n  Scenario: s ... failed\n    Given a ... failed: absent\n  Scenario: t ... memory\n    Given a ... memory\n\n0 features passed, 0 failed, 0 skipped, 1 memory\n0 scenarios passed, 1 failed, 0 skipped, 1 memory\n0 steps passed, 1 failed, 0 skipped, 0 undefined, 1 memory\n") 4
    -- Line feeds in names and in a text, which stay on one line.
    × Gives plain_style (run (feature (codes "f\ng") Passed (scenario (codes "\ns") Passed (step (codes "*") (codes "a\n\nb\\n") Passed ∷ []) ∷ []) ∷ [])) (codes "Feature: f\\ng ... passed\n  Scenario: \\ns ... passed\n    * a\\n\\nb\\n ... passed\n\n1 feature passed, 0 failed, 0 skipped\n1 scenario passed, 0 failed, 0 skipped\n1 step passed, 0 failed, 0 skipped, 0 undefined\n") 0
    -- Two features, and counts of two digits.
    × Gives plain_style (run (feature (codes "f") Passed (scenario (codes "s") Passed (replicate 10 (step (codes "*") (codes "a") Passed)) ∷ []) ∷ feature (codes "g") Passed (scenario (codes "t") Skipped [] ∷ scenario (codes "u") Passed (step (codes "*") (codes "b") Passed ∷ step (codes "*") (codes "c") Passed ∷ []) ∷ []) ∷ [])) (codes "Feature: f ... passed\n  Scenario: s ... passed\n    * a ... passed\n    * a ... passed\n    * a ... passed\n    * a ... passed\n    * a ... passed\n    * a ... passed\n    * a ... passed\n    * a ... passed\n    * a ... passed\n    * a ... passed\n\nFeature: g ... passed\n  Scenario: t ... skipped\n  Scenario: u ... passed\n    * b ... passed\n    * c ... passed\n\n2 features passed, 0 failed, 0 skipped\n2 scenarios passed, 0 failed, 1 skipped\n12 steps passed, 0 failed, 0 skipped, 0 undefined\n") 0
    × Gives plain_style failed_cleanup (codes "Feature: f ... failed\n  Scenario: s ... failed\n    Given at cleanup the file \"log\" should be \"rp\" ... passed\n    And at cleanup the file \"log\" is extended with \"p\" ... passed\n    And at cleanup it fails ... passed\n    And at cleanup a file named \"log\" containing \"r\" ... passed\n    (hooks and cleanups) ... failed\n\n0 features passed, 1 failed, 0 skipped\n0 scenarios passed, 1 failed, 0 skipped\n4 steps passed, 0 failed, 0 skipped, 0 undefined\n") 1
    × Gives plain_style memory_in_cleanup (codes "Feature: f ... memory\n  Scenario: s ... memory\n    Given a ... passed\n    (hooks and cleanups) ... memory\n  Scenario: t ... passed\n\n0 features passed, 0 failed, 0 skipped, 1 memory\n1 scenario passed, 0 failed, 0 skipped, 1 memory\n1 step passed, 0 failed, 0 skipped, 0 undefined\n") 4
    × Gives plain_style failed_feature_hook (codes "Feature: f ... failed\n  Scenario: s ... untested\n    Given at cleanup the file \"log\" should be \"absSB\" ... untested\n    Then the file \"log\" should be \"abs\" ... untested\n  (hooks and cleanups) ... failed\n\n0 features passed, 1 failed, 0 skipped\n0 scenarios passed, 0 failed, 0 skipped, 1 untested\n0 steps passed, 0 failed, 0 skipped, 0 undefined, 2 untested\n") 1
    × Gives plain_style failed_run_hook (codes "Feature: f ... untested\n  Scenario: s ... untested\n    Given a ... untested\n\n(hooks and cleanups) ... failed\n0 features passed, 0 failed, 0 skipped, 1 untested\n0 scenarios passed, 0 failed, 0 skipped, 1 untested\n0 steps passed, 0 failed, 0 skipped, 0 undefined, 1 untested\n") 1
    -- Memory was refused in the run's own hooks or cleanups, after a scenario that failed.
    × Gives plain_style (record (failed_for reasons.Asked) { around = Memory }) (codes "Feature: f ... failed\n  Scenario: s ... failed\n    Given a ... failed: fail step\n\n(hooks and cleanups) ... memory\n0 features passed, 1 failed, 0 skipped\n0 scenarios passed, 1 failed, 0 skipped\n0 steps passed, 1 failed, 0 skipped, 0 undefined\n") 4
unfolding plain_on_literals
plain_reports = ((refl, refl), (refl, refl), (refl, refl), (refl, refl), (refl, refl), (refl, refl), (refl, refl), (refl, refl), (refl, refl), (refl, refl), (refl, refl), (refl, refl), (refl, refl), (refl, refl), (refl, refl))

-- The report of a run with one step that failed, for a reason that is printed so.
abbrev report_with : List ℕ → List ℕ
report_with text = codes "Feature: f ... failed\n  Scenario: s ... failed\n    Given a ... failed: " ++ (text ++ codes "\n\n0 features passed, 1 failed, 0 skipped\n0 scenarios passed, 1 failed, 0 skipped\n0 steps passed, 1 failed, 0 skipped, 0 undefined\n")

-- Each reason as it is printed; the status is 1.
abbrev IsPrintedAs : Reason → List ℕ → Type 0
IsPrintedAs reason text = Gives plain_style (failed_for reason) (report_with text) 1

-- Each reason.
each_reason : IsPrintedAs reasons.Absent (codes "absent")
    × IsPrintedAs reasons.Present (codes "present")
    × IsPrintedAs reasons.Differs (codes "differs")
    × IsPrintedAs reasons.TextTooLong (codes "text too long")
    × IsPrintedAs reasons.BadName (codes "bad name")
    × IsPrintedAs reasons.OtherLayer (codes "other layer")
    × IsPrintedAs reasons.NoText (codes "no text")
    × IsPrintedAs reasons.NoTable (codes "no table")
    × IsPrintedAs reasons.BadTable (codes "bad table")
    × IsPrintedAs reasons.NotNumber (codes "not a number")
    × IsPrintedAs reasons.OutOfRange (codes "out of range")
    × IsPrintedAs reasons.NoStep (codes "no such step")
    × IsPrintedAs reasons.NotHere (codes "not allowed here")
    × IsPrintedAs reasons.Asked (codes "fail step")
unfolding plain_on_literals
each_reason = ((refl, refl), (refl, refl), (refl, refl), (refl, refl), (refl, refl), (refl, refl), (refl, refl), (refl, refl), (refl, refl), (refl, refl), (refl, refl), (refl, refl), (refl, refl), (refl, refl))

-- A step on a line.
abbrev step_on : ℕ → List ℕ → Status → StepRow
step_on line text status = record (step (codes "Given") text status) { line = line }

-- A scenario on a line.
abbrev scenario_on : ℕ → List ℕ → Status → List StepRow → CaseRow
scenario_on line name status steps = record (scenario name status steps) { line = line }

-- One feature with one scenario and one step, all of which passed.
abbrev one : Results
one = run (record (feature (codes "one") Passed (scenario_on 2 (codes "first") Passed (step_on 3 (codes "it passes") Passed ∷ []) ∷ [])) { source = codes "a.feature" } ∷ [])

-- Four scenarios, of which the second fails and the run stops there.
abbrev stopped : Results
stopped =
    let cases = scenario_on 2 (codes "1") Passed (step_on 3 (codes "it passes") Passed ∷ [])
    ∷ scenario_on 4 (codes "2") Failed (failed_step reasons.Asked ∷ [])
    ∷ scenario_on 6 (codes "3") Untested (step_on 7 (codes "it passes") Untested ∷ [])
    ∷ scenario_on 8 (codes "4") Untested (step_on 9 (codes "it passes") Untested ∷ []) ∷ [] in
    run (record (feature (codes "s") Failed cases) { source = codes "s.feature" } ∷ [])

-- Four scenarios, of which the second is skipped.
abbrev one_skipped : Results
one_skipped = run (feature (codes "f") Passed (scenario (codes "1") Passed [] ∷ scenario (codes "2") Skipped [] ∷ scenario (codes "3") Passed [] ∷ scenario (codes "4") Passed [] ∷ []) ∷ [])

-- Its counts, with hidden scenarios or without.
abbrev one_skipped_counts : List ℕ
one_skipped_counts = codes "1 feature passed, 0 failed, 0 skipped\n3 scenarios passed, 0 failed, 1 skipped\n0 steps passed, 0 failed, 0 skipped, 0 undefined\n"

-- A skipped feature, one that passed, and another skipped one.
abbrev between_skipped : Results
between_skipped = run (feature (codes "a") Skipped [] ∷ feature (codes "b") Passed (scenario (codes "s") Passed [] ∷ scenario (codes "t") Skipped [] ∷ []) ∷ feature (codes "c") Skipped [] ∷ [])

-- A rule on a line, whose hooks and cleanups ended so.
abbrev rule_on : ℕ → Status → RuleRow
rule_on line around = record { line = line; around = around }

-- Two rules behind a scenario of the feature's own. The hook before the first rule's tag fails: its scenarios aren't reached.
abbrev failed_rule_hook : Results
failed_rule_hook =
    let then = λ (line : ℕ) (text : List ℕ) (verdict : Status). record (step_on line text verdict) { keyword = codes "Then" } in
    let cases = scenario_on 2 (codes "A") Passed (then 3 (codes "the number \"n\" should be 1") Passed ∷ [])
    ∷ scenario_on 6 (codes "B") Untested (record (step_on 7 (codes "the number \"n\" grows by 100") Untested) { keyword = codes "When" } ∷ then 8 (codes "the number \"n\" should be 111") Untested ∷ [])
    ∷ scenario_on 9 (codes "C") Untested (then 10 (codes "the number \"n\" should be 11") Untested ∷ [])
    ∷ scenario_on 12 (codes "D") Passed (then 13 (codes "the number \"n\" should be 11") Passed ∷ []) ∷ [] in
    run (record (feature (codes "f") Failed cases) { rules = rule_on 5 Failed ∷ rule_on 11 Passed ∷ [] } ∷ [])

-- Its closing lines.
abbrev failed_rule_hook_counts : List ℕ
failed_rule_hook_counts = codes "0 features passed, 1 failed, 0 skipped\n2 scenarios passed, 0 failed, 0 skipped, 2 untested\n2 steps passed, 0 failed, 0 skipped, 0 undefined, 3 untested\n"

-- Three rules: one whose only scenario is skipped, one without a scenario, and one whose scenario passes.
abbrev rules_without_scenarios : FeatureRow
rules_without_scenarios = record (feature (codes "f") Failed (scenario_on 4 (codes "s") Skipped [] ∷ scenario_on 7 (codes "t") Passed [] ∷ [])) { around = Failed; rules = rule_on 3 Failed ∷ rule_on 5 Failed ∷ rule_on 6 Failed ∷ [] }

-- A line feed and a quotation mark in a source's name, which progress and JSON write each in its own way; no scenario is printed.
abbrev odd_source : FeatureRow
odd_source = record (feature [] Skipped []) { source = codes "a\n\"b" }

-- Plain reports and parts, by style and with rules.
plain_choices :
    (report plain_style one ≡ codes "Feature: one ... passed\n  Scenario: first ... passed\n    Given it passes ... passed\n\n1 feature passed, 0 failed, 0 skipped\n1 scenario passed, 0 failed, 0 skipped\n1 step passed, 0 failed, 0 skipped, 0 undefined\n")
    -- Without skipped scenarios.
    × (report (record plain_style { no_skipped = true }) one_skipped ≡ codes "Feature: f ... passed\n  Scenario: 1 ... passed\n  Scenario: 3 ... passed\n  Scenario: 4 ... passed\n\n" ++ one_skipped_counts)
    -- The first rule's line stands behind its scenarios.
    × Gives plain_style failed_rule_hook (codes "Feature: f ... failed\n  Scenario: A ... passed\n    Then the number \"n\" should be 1 ... passed\n  Scenario: B ... untested\n    When the number \"n\" grows by 100 ... untested\n    Then the number \"n\" should be 111 ... untested\n  Scenario: C ... untested\n    Then the number \"n\" should be 11 ... untested\n  (rule, line 5: hooks and cleanups) ... failed\n  Scenario: D ... passed\n    Then the number \"n\" should be 11 ... passed\n\n" ++ failed_rule_hook_counts) 1
    -- Without skipped scenarios, and with them: each rule's line at its place, and the feature's own at the end.
    × (part (record plain_style { no_skipped = true }) true rules_without_scenarios ≡ codes "Feature: f ... failed\n  (rule, line 3: hooks and cleanups) ... failed\n  (rule, line 5: hooks and cleanups) ... failed\n  Scenario: t ... passed\n  (rule, line 6: hooks and cleanups) ... failed\n  (hooks and cleanups) ... failed\n\n")
    × (part plain_style true rules_without_scenarios ≡ codes "Feature: f ... failed\n  Scenario: s ... skipped\n  (rule, line 3: hooks and cleanups) ... failed\n  (rule, line 5: hooks and cleanups) ... failed\n  Scenario: t ... passed\n  (rule, line 6: hooks and cleanups) ... failed\n  (hooks and cleanups) ... failed\n\n")
unfolding plain_on_literals
plain_choices = (refl, refl, (refl, refl), refl, refl)

-- Progress reports and a part.
progress_reports :
    (report progress one ≡ codes "a.feature  .  passed\n1 feature passed, 0 failed, 0 skipped\n1 scenario passed, 0 failed, 0 skipped\n1 step passed, 0 failed, 0 skipped, 0 undefined\n")
    × Gives progress stopped (codes "s.feature  .FUU  failed\n0 features passed, 1 failed, 0 skipped\n1 scenario passed, 1 failed, 0 skipped, 2 untested\n1 step passed, 1 failed, 0 skipped, 0 undefined, 2 untested\n") 1
    × (report progress one_skipped ≡ codes "f.feature  .S..  passed\n" ++ one_skipped_counts)
    -- Without skipped scenarios.
    × (report (record progress { no_skipped = true }) one_skipped ≡ codes "f.feature  ...  passed\n" ++ one_skipped_counts)
    × (report progress failed_run_hook ≡ codes "f.feature  U  untested\n(hooks and cleanups) ... failed\n0 features passed, 0 failed, 0 skipped, 1 untested\n0 scenarios passed, 0 failed, 0 skipped, 1 untested\n0 steps passed, 0 failed, 0 skipped, 0 undefined, 1 untested\n")
    × (report progress failed_rule_hook ≡ codes "f.feature  .UU.  failed\n" ++ failed_rule_hook_counts)
    × (part progress true odd_source ≡ codes "a\\n\"b    skipped\n")
unfolding digits status_text one_line status_line around_line progress_part counted count_line closing_lines
progress_reports = (refl, (refl, refl), refl, refl, refl, refl, refl)

-- JSON reports and parts.
json_reports :
    (report json one ≡ codes "{\"features\":[{\"around\":\"passed\",\"line\":1,\"name\":\"one\",\"scenarios\":[{\"around\":\"passed\",\"keyword\":\"Scenario\",\"line\":2,\"name\":\"first\",\"status\":\"passed\",\"steps\":[{\"keyword\":\"Given\",\"line\":3,\"status\":\"passed\",\"text\":\"it passes\"}]}],\"source\":\"a.feature\",\"status\":\"passed\"}],\"run\":\"passed\",\"status\":0,\"summary\":{\"features\":{\"failed\":0,\"memory\":0,\"passed\":1,\"skipped\":0,\"untested\":0},\"scenarios\":{\"failed\":0,\"memory\":0,\"passed\":1,\"skipped\":0,\"untested\":0},\"steps\":{\"failed\":0,\"memory\":0,\"passed\":1,\"skipped\":0,\"undefined\":0,\"untested\":0}}}\n")
    -- Without skipped features and scenarios: no comma, and all counts.
    × (report (record json { no_skipped = true }) between_skipped ≡ codes "{\"features\":[{\"around\":\"passed\",\"line\":1,\"name\":\"b\",\"scenarios\":[{\"around\":\"passed\",\"keyword\":\"Scenario\",\"line\":2,\"name\":\"s\",\"status\":\"passed\",\"steps\":[]}],\"source\":\"f.feature\",\"status\":\"passed\"}],\"run\":\"passed\",\"status\":0,\"summary\":{\"features\":{\"failed\":0,\"memory\":0,\"passed\":1,\"skipped\":2,\"untested\":0},\"scenarios\":{\"failed\":0,\"memory\":0,\"passed\":1,\"skipped\":1,\"untested\":0},\"steps\":{\"failed\":0,\"memory\":0,\"passed\":0,\"skipped\":0,\"undefined\":0,\"untested\":0}}}\n")
    -- All of them: a comma between two.
    × (report json between_skipped ≡ codes "{\"features\":[{\"around\":\"passed\",\"line\":1,\"name\":\"a\",\"scenarios\":[],\"source\":\"f.feature\",\"status\":\"skipped\"},{\"around\":\"passed\",\"line\":1,\"name\":\"b\",\"scenarios\":[{\"around\":\"passed\",\"keyword\":\"Scenario\",\"line\":2,\"name\":\"s\",\"status\":\"passed\",\"steps\":[]},{\"around\":\"passed\",\"keyword\":\"Scenario\",\"line\":2,\"name\":\"t\",\"status\":\"skipped\",\"steps\":[]}],\"source\":\"f.feature\",\"status\":\"passed\"},{\"around\":\"passed\",\"line\":1,\"name\":\"c\",\"scenarios\":[],\"source\":\"f.feature\",\"status\":\"skipped\"}],\"run\":\"passed\",\"status\":0,\"summary\":{\"features\":{\"failed\":0,\"memory\":0,\"passed\":1,\"skipped\":2,\"untested\":0},\"scenarios\":{\"failed\":0,\"memory\":0,\"passed\":1,\"skipped\":1,\"untested\":0},\"steps\":{\"failed\":0,\"memory\":0,\"passed\":0,\"skipped\":0,\"undefined\":0,\"untested\":0}}}\n")
    × (report json nothing ≡ codes "{\"features\":[],\"run\":\"passed\",\"status\":0,\"summary\":{\"features\":{\"failed\":0,\"memory\":0,\"passed\":0,\"skipped\":0,\"untested\":0},\"scenarios\":{\"failed\":0,\"memory\":0,\"passed\":0,\"skipped\":0,\"untested\":0},\"steps\":{\"failed\":0,\"memory\":0,\"passed\":0,\"skipped\":0,\"undefined\":0,\"untested\":0}}}\n")
    -- Memory was refused in the run's own hooks or cleanups, and no feature.
    × (report json (record nothing { around = Memory }) ≡ codes "{\"features\":[],\"run\":\"memory\",\"status\":4,\"summary\":{\"features\":{\"failed\":0,\"memory\":0,\"passed\":0,\"skipped\":0,\"untested\":0},\"scenarios\":{\"failed\":0,\"memory\":0,\"passed\":0,\"skipped\":0,\"untested\":0},\"steps\":{\"failed\":0,\"memory\":0,\"passed\":0,\"skipped\":0,\"undefined\":0,\"untested\":0}}}\n")
    -- The reason stands between the line and the status.
    × (part json true (feature (codes "f") Failed (scenario (codes "s") Failed (failed_step reasons.Asked ∷ []) ∷ [])) ≡ codes "{\"around\":\"passed\",\"line\":1,\"name\":\"f\",\"scenarios\":[{\"around\":\"passed\",\"keyword\":\"Scenario\",\"line\":2,\"name\":\"s\",\"status\":\"failed\",\"steps\":[{\"keyword\":\"Given\",\"line\":3,\"reason\":\"fail step\",\"status\":\"failed\",\"text\":\"a\"}]}],\"source\":\"f.feature\",\"status\":\"failed\"}")
    × (part json false odd_source ≡ codes ",{\"around\":\"passed\",\"line\":1,\"name\":\"\",\"scenarios\":[],\"source\":\"a\\n\\\"b\",\"status\":\"skipped\"}")
    -- The rules stand between the name and the scenarios.
    × (part json true rules_without_scenarios ≡ codes "{\"around\":\"failed\",\"line\":1,\"name\":\"f\",\"rules\":[{\"around\":\"failed\",\"line\":3},{\"around\":\"failed\",\"line\":5},{\"around\":\"failed\",\"line\":6}],\"scenarios\":[{\"around\":\"passed\",\"keyword\":\"Scenario\",\"line\":4,\"name\":\"s\",\"status\":\"skipped\",\"steps\":[]},{\"around\":\"passed\",\"keyword\":\"Scenario\",\"line\":7,\"name\":\"t\",\"status\":\"passed\",\"steps\":[]}],\"source\":\"f.feature\",\"status\":\"failed\"}")
unfolding digits status_text reason_text json_head json_part json_tail serde_json_on_literals
json_reports = (refl, refl, refl, refl, refl, refl, refl, refl)
