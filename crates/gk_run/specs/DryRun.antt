-- A dry run: the steps of selected cases are only looked up.
use Rattle.std.specs.Prelude.{◌≡◌, cond, ℕ, Bool, true, false, List, [], ◌∷◌, map}
use Rattle.std.specs.List.{list_any}
use Rattle.gk_gherkin.specs.Feature.{StepValue}
use Rattle.gk_select.specs.Case.{CaseValue}
use Rattle.gk_steps.specs.Finding.{LibraryValue}
use Rattle.gk_world.specs.State.{nothing_yet, state_of}
use Rattle.gk_run.specs.declared.results.Status.{Status}
use Rattle.gk_run.specs.declared.results.Status.TheVariants as statuses
use Rattle.gk_run.specs.declared.results.Mark.{Mark}
use Rattle.gk_run.specs.declared.results.Mark.TheVariants.{Untested}
use Rattle.gk_run.specs.Results.{CaseRow, FeatureRow, RuleRow, StepRow}
use Rattle.gk_run.specs.Ending.{is_memory_mark}
use Rattle.gk_run.specs.Events.{Event, cut_at, event_marks}
use Rattle.gk_run.specs.Section.{Events, Cut, has_event, nowhere, happened}
use Rattle.gk_run.specs.Walk.{IsLookedUp, looked_up, rows_of_steps, unrun_step}
use Rattle.gk_run.specs.Running.{row_of_case, unselected_row, first_or, without_first}
use Rattle.gk_run.specs.Chosen.{HeadValue, MemberValue, ChosenValue}
use Rattle.gk_run.specs.Features.{FeatureCuts, uncut_feature, feature_row_of}

-- A step of a dry run. It is looked up, and untested if the library matches it. Nothing is carried out, so the state is the one in which nothing exists. (behave's documentation: `--dry-run`)
abbrev pub dry_step : LibraryValue → StepValue → Event
dry_step library step = unrun_step step (looked_up library Untested step) (state_of nothing_yet)

-- The events of a selected case: only its steps.
abbrev pub dry_events : LibraryValue → CaseValue → Events
dry_events library c = record { before = []; steps = map (dry_step library) c.steps; after = []; cleanups = [] }

-- The verdict of a selected case with these events: memory if memory was refused at a step, otherwise untested.
abbrev pub dry_verdict : Events → Status
dry_verdict e = cond (list_any is_memory_mark (event_marks e.steps)) statuses.Memory statuses.Untested

-- The result of a selected case, or that cut at one step. This step is then memory, and those after it are untested.
abbrev pub dry_row : LibraryValue → Cut → CaseValue → CaseRow
dry_row library cut c = let e = happened cut (dry_events library c) in row_of_case c (dry_verdict e) e

-- The result of a case. An unselected one is skipped, as in any run.
abbrev pub dry_case_of : LibraryValue → Cut → MemberValue → CaseRow
dry_case_of library cut m = cond m.selected (dry_row library cut m.scenario) (unselected_row m.scenario)

-- The results of a feature's cases in order.
abbrev pub dry_cases_of : LibraryValue → List Cut → List MemberValue → List CaseRow
dry_cases_of library cuts [] = []
dry_cases_of library cuts (m ∷ ms) = dry_case_of library (first_or nowhere cuts) m ∷ dry_cases_of library (without_first cuts) ms

-- The results of rules that aren't begun.
abbrev pub dry_rules_of : List HeadValue → List RuleRow
dry_rules_of heads = map (λ (h : HeadValue). record { line = h.line; around = statuses.Passed }) heads

-- The result of a feature. Neither the feature nor any of its rules is begun: their hooks don't run, so a cut in them has no effect.
abbrev pub dry_feature_of : LibraryValue → FeatureCuts → ChosenValue → FeatureRow
dry_feature_of library cuts f = feature_row_of f statuses.Passed (record { rules = dry_rules_of f.rules; cases = dry_cases_of library cuts.cases f.members })

-- The results of features in order, whatever the ones before them are.
abbrev pub dry_features_of : LibraryValue → List FeatureCuts → List ChosenValue → List FeatureRow
dry_features_of library cuts [] = []
dry_features_of library cuts (f ∷ fs) = dry_feature_of library (first_or uncut_feature cuts) f ∷ dry_features_of library (without_first cuts) fs

-- The results of features are those of some cuts.
abbrev pub AreDryFeatures : LibraryValue → List ChosenValue → List FeatureRow → Type 0
AreDryFeatures library features rows = (cuts : List FeatureCuts) × (rows ≡ dry_features_of library cuts features)

-- Proof machinery, from here on: what the code's calls do.

-- The next step, by whether memory was refused before it. If it was, the step is untested.
abbrev pub IsDryStep : LibraryValue → Bool → StepValue → Mark → Type 0
IsDryStep library true step mark = mark ≡ Untested
IsDryStep library false step mark = IsLookedUp library Untested step mark

-- Steps were looked up. The first Boolean says whether memory was refused before them, `refused` whether it is refused after them.
abbrev pub AreDrySteps : LibraryValue → Bool → List StepValue → List StepRow → Bool → Type 0
AreDrySteps library true steps rows refused = (rows ≡ rows_of_steps steps []) × (refused ≡ true)
AreDrySteps library false steps rows true =
    (n : ℕ) × (has_event n (map (dry_step library) steps) ≡ true) × (rows ≡ rows_of_steps steps (event_marks (cut_at n (state_of nothing_yet) (map (dry_step library) steps))))
AreDrySteps library false steps rows false = rows ≡ rows_of_steps steps (event_marks (map (dry_step library) steps))
