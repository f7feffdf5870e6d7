-- The results that a run may have, and the same as relations: what holds of each result, by its place in its list.
use Rattle.std.specs.Prelude.{◌≡◌, ⊤, Bool, true, false, cond, ◌||◌, List, [], ◌++◌, ℕ, ◌↔◌, All, map, length, take, zip, flat_map, Some, slice_get, unwrap_or}
use Rattle.std.specs.List.{list_any}
use Rattle.gk_world.specs.State.{Contents, State, state_of}
use Rattle.gk_run.specs.declared.results.Status.TheVariants as statuses
use Rattle.gk_run.specs.declared.section.Level.TheVariants as levels
use Rattle.gk_run.specs.Results.{CaseRow, RuleRow, FeatureRow, Results, is_memory}
use Rattle.gk_run.specs.Chosen.{ChosenValue, MemberValue, has_selected, Group, own_members, rule_groups}
use Rattle.gk_run.specs.Section.{Cut, nowhere, Events, around_of, before_passed, happened}
use Rattle.gk_run.specs.OpenSection.{Run, section_of, SectionRow, no_events, section_events, section_state}
use Rattle.gk_run.specs.Features.{FeatureCuts, features_of, feature_verdict, rule_statuses, Inside}
use Rattle.gk_run.specs.DryRun.{dry_features_of, AreDryFeatures, dry_row, dry_rules_of}
use Rattle.gk_gherkin.specs.Feature.{StepValue}
use Rattle.gk_steps.specs.Finding.{LibraryValue}
use Rattle.gk_run.specs.declared.results.Mark.{Mark}
use Rattle.gk_run.specs.declared.results.Mark.TheVariants.{Untested}
use Rattle.gk_run.specs.declared.section.Level.{Level}
use Rattle.gk_run.specs.Running.{case_statuses, is_failed_or_memory, IsReached, unreached_row, unselected_row}
use Rattle.gk_run.specs.Walk.{row_of_step, rows_of_steps}

-- The cuts of a run: in its own hooks and cleanups, and in its features.
pub record Cuts : Type 0 where
  pub own : Cut
  pub features : List FeatureCuts

-- Memory was refused nowhere in a run.
abbrev pub uncut : Cuts
uncut = record { own = nowhere; features = [] }

-- The results of a run that starts from a plain state. No feature is begun unless the before_all hook passed whole.
abbrev pub results_from : Run → State → Cuts → List ChosenValue → Results
results_from run start cuts features =
    let ran = section_of run levels.Run [] start true cuts.own (λ section is_open. features_of run section is_open cuts.features features) in
    record { features = ran.result.inside; around = ran.result.around }

-- The results of a dry run: those of its features. No hook and no cleanup runs, so whether the run stops at a failure has no effect. (behave's documentation: `--dry-run`)
abbrev pub dry_results : Run → Cuts → List ChosenValue → Results
dry_results run cuts features = record { features = dry_features_of run.library cuts.features features; around = statuses.Passed }

-- The results of a run that starts from these contents, or of a dry run.
abbrev pub results_of : Run → Contents → Cuts → List ChosenValue → Results
results_of run contents cuts features = cond run.dry_run (dry_results run cuts features) (results_from run (state_of contents) cuts features)

-- Results are judged if they are those that the definitions give for some cuts.
abbrev pub Judged : Run → Contents → List ChosenValue → Results → Type 0
Judged run contents features results = (cuts : Cuts) × (results ≡ results_of run contents cuts features)

-- The results that plain maps give if memory was refused nowhere.
abbrev pub plain_results : Run → Contents → List ChosenValue → Results
plain_results run contents features = results_of run contents uncut features

-- Whether memory was refused in a case.
abbrev pub is_memory_case : CaseRow → Bool
is_memory_case row = is_memory row.status

-- Whether memory was refused in a rule's hooks and cleanups.
abbrev pub is_memory_rule : RuleRow → Bool
is_memory_rule row = is_memory row.around

-- Whether memory was refused in a feature: in its own hooks and cleanups, in those of a rule, or in a case.
abbrev pub is_memory_feature : FeatureRow → Bool
is_memory_feature row = is_memory row.around || (list_any is_memory_rule row.rules || list_any is_memory_case row.cases)

-- Whether memory was refused somewhere in a run.
abbrev pub has_memory : Results → Bool
has_memory results = is_memory results.around || list_any is_memory_feature results.features

-- Judged results in which memory was refused nowhere are the plain ones.
abbrev pub OneList : Type 0
OneList = (run : Run) (contents : Contents) (features : List ChosenValue) (results : Results) →
    Judged run contents features results → has_memory results ≡ false → results ≡ plain_results run contents features

-- Some judged results begin with the results of these features.
abbrev pub BeginsJudged : Run → Contents → List ChosenValue → List FeatureRow → Type 0
BeginsJudged run contents features rows = (results : Results) × (more : List FeatureRow) × Judged run contents features results × (results.features ≡ rows ++ more)

-- The results of the features of a dry run are judged.
abbrev pub DryRunsAreJudged : Type 0
DryRunsAreJudged = (run : Run) (contents : Contents) (features : List ChosenValue) (rows : List FeatureRow) →
    run.dry_run ≡ true → AreDryFeatures run.library features rows → Judged run contents features (record { features = rows; around = statuses.Passed })

-- The results of the first features of a dry run are the beginning of judged results.
abbrev pub UnfinishedDryRunsAreJudged : Type 0
UnfinishedDryRunsAreJudged = (run : Run) (contents : Contents) (features others : List ChosenValue) (rows : List FeatureRow) →
    run.dry_run ≡ true → AreDryFeatures run.library features rows → BeginsJudged run contents (features ++ others) rows

-- There is one result for each element of a list, in order, and this holds of the element and the result at place k, counted from 0.
pub record Each {A R : Type 0} (Holds : ℕ → A → R → Type 0) (xs : List A) (rows : List R) : Type 0 where
  pub count : length rows ≡ length xs
  pub each : (k : ℕ) (x : A) (row : R) → slice_get xs k ≡ Some x → slice_get rows k ≡ Some row → Holds k x row

-- A case is neither failed nor memory.
abbrev pub IsGoodCase : CaseRow → Type 0
IsGoodCase row = is_failed_or_memory row.status ≡ false

-- A rule is neither failed nor memory: its hooks and cleanups aren't, and none of its cases is.
abbrev pub IsGoodRule : SectionRow (List CaseRow) → Type 0
IsGoodRule end = (is_failed_or_memory end.around ≡ false) × All IsGoodCase end.inside

-- A feature is neither failed nor memory.
abbrev pub IsGoodFeature : FeatureRow → Type 0
IsGoodFeature row = is_failed_or_memory row.status ≡ false

-- A section that is begun if `Begun` holds. Its events are those of its before list, its after lists and its cleanups, or these cut at one event. If it isn't begun, there are none. `around` is how they ended. What is inside it, from its own state, is ready if the section is begun and its before list, cut or not, passed whole. (behave's documentation: environment file functions)
pub record JudgedSection {A : Type 0} (run : Run) (level : Level) (tags : List (List ℕ)) (outside : State) (Begun : Type 0) (Holds : State → Type 0 → A → Type 0) (end : SectionRow A) : Type 0 where
  pub events : Events
  pub begun : Begun → (cut : Cut) × (events ≡ happened cut (section_events run level tags outside))
  pub unbegun : (Begun → ⊥) → events ≡ no_events
  pub around : end.around ≡ around_of events
  pub inside : Holds (section_state run level tags outside) (Begun × (before_passed events ≡ true)) end.inside

-- A case. If it is unselected, it and its steps are skipped. If it is selected and reached, its result is that of the case alone from its section's state, or that cut at one event. If it is selected and not reached, it and its steps are untested. (behave's documentation: `--tags`, `--stop`)
pub record JudgedCase (run : Run) (section : State) (Reached : Type 0) (m : MemberValue) (row : CaseRow) : Type 0 where
  pub unselected : m.selected ≡ false → row ≡ unselected_row m.scenario
  pub reached : m.selected ≡ true → Reached → IsReached run section m.scenario row
  pub unreached : m.selected ≡ true → (Reached → ⊥) → row ≡ unreached_row m.scenario

-- The cases of a section. A selected one is reached if the section is ready and, if the run is to stop, no earlier case of the section is failed or memory. (behave's documentation: `--stop`)
abbrev pub JudgedCases : Run → State → Type 0 → List MemberValue → List CaseRow → Type 0
JudgedCases run section Ready members rows = Each (λ k m row. JudgedCase run section (Ready × (run.stop ≡ true → All IsGoodCase (take k rows))) m row) members rows

-- A rule. It is begun if its feature is open for it and it has a selected case. (Cucumber's Gherkin reference: rule)
abbrev pub JudgedRule : Run → State → Type 0 → Group → SectionRow (List CaseRow) → Type 0
JudgedRule run outside Open g end =
    JudgedSection run levels.Rule g.head.tags outside (Open × (has_selected g.members ≡ true)) (λ section Ready rows. JudgedCases run section Ready g.members rows) end

-- The result of a rule without its cases: its line, and how its hooks and cleanups ended.
abbrev pub rule_rows : List Group → List (SectionRow (List CaseRow)) → List RuleRow
rule_rows groups ends = map (λ p. record { line = p.0.head.line; around = p.1.around }) (zip groups ends)

-- What is inside a feature: its cases that aren't in a rule, and then its rules. The feature is open for a rule if it is ready and, if the run is to stop, none of these cases and no earlier rule is failed or memory. (Cucumber's Gherkin reference: rule)
pub record JudgedInside (run : Run) (section : State) (Ready : Type 0) (f : ChosenValue) (inside : Inside) : Type 0 where
  pub own : List CaseRow
  pub ends : List (SectionRow (List CaseRow))
  pub cases : JudgedCases run section Ready (own_members f) own
  pub rules : Each (λ k g end. JudgedRule run section (Ready × (run.stop ≡ true → All IsGoodCase own × All IsGoodRule (take k ends))) g end) (rule_groups f) ends
  pub case_results : inside.cases ≡ own ++ flat_map (λ end. end.inside) ends
  pub rule_results : inside.rules ≡ rule_rows (rule_groups f) ends

-- The heading of a feature's result, and its verdict, by `around`, by its rules and by its cases.
pub record IsHeaded (f : ChosenValue) (row : FeatureRow) : Type 0 where
  pub source : row.source ≡ f.source
  pub name : row.name ≡ f.name
  pub line : row.line ≡ f.line
  pub verdict : row.status ≡ feature_verdict row.around (rule_statuses row.rules) (case_statuses row.cases)

-- A feature. It is begun if the run is open for it and it has a selected case. (behave's documentation: environment file functions)
pub record JudgedFeature (run : Run) (outside : State) (Open : Type 0) (f : ChosenValue) (row : FeatureRow) : Type 0 where
  pub heading : IsHeaded f row
  pub goes : JudgedSection run levels.Feature f.tags outside (Open × (has_selected f.members ≡ true)) (λ section Ready inside. JudgedInside run section Ready f inside)
      (record { around = row.around; inside = record { rules = row.rules; cases = row.cases } })

-- The features of a run. The run is open for one if it is ready and, if it is to stop, no earlier feature is failed or memory. (behave's documentation: `--stop`)
abbrev pub JudgedFeatures : Run → State → Type 0 → List ChosenValue → List FeatureRow → Type 0
JudgedFeatures run section Ready features rows = Each (λ k f row. JudgedFeature run section (Ready × (run.stop ≡ true → All IsGoodFeature (take k rows))) f row) features rows

-- A case of a dry run. If it is unselected, it and its steps are skipped. If it is selected, it is untested, each step that the library matches is untested, and the others are undefined; or its result is that cut at one step. (behave's documentation: `--dry-run`)
pub record JudgedDryCase (library : LibraryValue) (m : MemberValue) (row : CaseRow) : Type 0 where
  pub unselected : m.selected ≡ false → row ≡ unselected_row m.scenario
  pub selected : m.selected ≡ true → (cut : Cut) × (row ≡ dry_row library cut m.scenario)

-- A feature of a dry run: neither it nor a rule of it is begun, so each `around` is passed. (behave's documentation: `--dry-run`)
pub record JudgedDryFeature (library : LibraryValue) (f : ChosenValue) (row : FeatureRow) : Type 0 where
  pub heading : IsHeaded f row
  pub around : row.around ≡ statuses.Passed
  pub rules : row.rules ≡ dry_rules_of f.rules
  pub cases : Each (λ k m case. JudgedDryCase library m case) f.members row.cases

-- A dry run: whether it is to stop has no effect. (behave's documentation: `--dry-run`)
pub record JudgedDryRun (run : Run) (features : List ChosenValue) (results : Results) : Type 0 where
  pub around : results.around ≡ statuses.Passed
  pub inside : Each (λ k f row. JudgedDryFeature run.library f row) features results.features

-- The results of a run, part by part: those of a dry run, or those of a run that is begun from these contents.
pub record JudgedPartByPart (run : Run) (contents : Contents) (features : List ChosenValue) (results : Results) : Type 0 where
  pub dry : run.dry_run ≡ true → JudgedDryRun run features results
  pub real : run.dry_run ≡ false →
      JudgedSection run levels.Run [] (state_of contents) ⊤ (λ section Ready rows. JudgedFeatures run section Ready features rows) (record { around = results.around; inside = results.features })

-- Results are judged exactly if each part of them is.
abbrev pub JudgedHoldPartByPart : Type 0
JudgedHoldPartByPart = (run : Run) (contents : Contents) (features : List ChosenValue) (results : Results) → Judged run contents features results ↔ JudgedPartByPart run contents features results

-- Each step of a case has one result, in order, by its mark. It is untested if its event didn't happen.
abbrev pub StepsHaveTheirResults : Type 0
StepsHaveTheirResults = (steps : List StepValue) (marks : List Mark) → Each (λ k step row. row ≡ row_of_step step (unwrap_or (slice_get marks k) Untested)) steps (rows_of_steps steps marks)
