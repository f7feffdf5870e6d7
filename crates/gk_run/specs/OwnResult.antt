-- A scenario's own result. Each run that reaches the scenario gives it this one, whatever else runs: alone, or as the hundredth of a suite.
use Rattle.std.specs.Prelude.{◌≡◌, ◌⊎◌, Bool, true, false, cond, ◌&&◌, ◌||◌, not, List, [], ◌∷◌, ℕ, zero, suc, map, option_map, Option, Some, None, slice_get}
use Rattle.gk_gherkin.specs.Feature.{StepValue}
use Rattle.gk_gherkin.specs.Hooks.{HookValue}
use Rattle.gk_select.specs.Case.{CaseValue}
use Rattle.gk_world.specs.State.{Contents, State, state_of}
use Rattle.gk_run.specs.declared.section.Level.{Level}
use Rattle.gk_run.specs.declared.section.Level.TheVariants as levels
use Rattle.gk_run.specs.Results.{CaseRow, FeatureRow, Results, StepRow, is_memory, is_untested}
use Rattle.gk_run.specs.Section.{before_passed, nowhere}
use Rattle.gk_run.specs.SectionHooks.{before_list}
use Rattle.gk_run.specs.OpenSection.{Run, section_events, section_state}
use Rattle.gk_run.specs.Chosen.{CasesFallIntoRules, ChosenValue, HeadValue, MemberValue}
use Rattle.gk_run.specs.Running.{reached_row, unreached_row}
use Rattle.gk_run.specs.Judged.{Judged, has_memory}

-- What the hooks of sections outside a scenario see of its file: the tags of its feature, and those of its rule, if it is in one. (behave's documentation: environment file functions)
pub record Above : Type 0 where
  pub feature : List (List ℕ)
  pub rule : Option (List (List ℕ))

-- The tags of the rule with this index, counted from 0, among the rules of a feature.
abbrev pub tags_of_rule : List HeadValue → Option ℕ → Option (List (List ℕ))
tags_of_rule heads None = None
tags_of_rule heads (Some index) = option_map (λ (head : HeadValue). head.tags) (slice_get heads index)

-- What is above a case of a feature.
abbrev pub above : ChosenValue → CaseValue → Above
above f c = record { feature = f.tags; rule = tags_of_rule f.rules c.rule }

-- A plain state, and whether what starts there is reached.
pub record Start : Type 0 where
  pub state : State
  pub is_ready : Bool

-- The start of what is inside a section: the section's state. It is reached if the section is, and its before list passes whole. (behave's documentation: environment file functions)
abbrev pub go_inside : Run → Level → List (List ℕ) → Start → Start
go_inside run level tags outside = record { state = section_state run level tags outside.state; is_ready = outside.is_ready && before_passed (section_events run level tags outside.state) }

-- The start of what is inside a feature's rule with these tags, if there is a rule.
abbrev pub go_inside_rule : Run → Start → Option (List (List ℕ)) → Start
go_inside_rule run feature None = feature
go_inside_rule run feature (Some tags) = go_inside run levels.Rule tags feature

-- The start of a scenario in a run that starts from a plain state: the before hooks of the run, of its feature and of its rule ran, and no other hook, step or cleanup.
abbrev pub start_of : Run → State → Above → Start
start_of run s a = go_inside_rule run (go_inside run levels.Feature a.feature (go_inside run levels.Run [] (record { state = s; is_ready = true }))) a.rule

-- A scenario's own result: that of the case alone, from its start, or untested if it isn't reached. No other scenario, rule or feature has any part in it, and `--stop` has none. (behave's documentation: environment file functions)
abbrev pub own_row : Run → State → Above → CaseValue → CaseRow
own_row run s a c = let start = start_of run s a in cond start.is_ready (reached_row run start.state nowhere c) (unreached_row c)

-- Where a scenario stands: the number of its feature in the run, and its own in the feature, both counted from 0.
pub record Place : Type 0 where
  pub feature : ℕ
  pub scenario : ℕ

-- At this place of a run stands this feature, and in it this case, which is selected; and at this place of its results stands this one. The feature's cases fall into its rules, as those of each feature that `run_feature` accepts.
pub record HasResult (features : List ChosenValue) (results : Results) (at : Place) (f : ChosenValue) (c : CaseValue) (row : CaseRow) : Type 0 where
  pub feature : slice_get features at.feature ≡ Some f
  pub scenario : slice_get f.members at.scenario ≡ Some (record { scenario = c; selected = true })
  pub falls : CasesFallIntoRules f
  pub feature_result : FeatureRow
  pub in_results : slice_get results.features at.feature ≡ Some feature_result
  pub in_feature : slice_get feature_result.cases at.scenario ≡ Some row

-- Whether a selected scenario ran whole: its verdict is neither untested nor memory. So it was reached, and memory was refused nowhere in it. It may have passed, failed or skipped itself.
abbrev pub ran_whole : CaseRow → Bool
ran_whole row = not (is_untested row.status || is_memory row.status)

-- A run isn't dry and isn't to stop at a failure, and memory was refused nowhere in it.
pub record IsPlain (run : Run) (results : Results) : Type 0 where
  pub runs : run.dry_run ≡ false
  pub goes_on : run.stop ≡ false
  pub unrefused : has_memory results ≡ false

-- The result of a selected scenario is settled: it ran whole, or nothing but the before hooks above it can have kept it from running.
abbrev pub IsSettled : Run → Results → CaseRow → Type 0
IsSettled run results row = (ran_whole row ≡ true) ⊎ IsPlain run results

-- In judged results, each scenario whose result is settled has its own result, wherever it stands, and whatever stands before and after it. If it ran whole, memory may have been refused elsewhere, and the run may have stopped after it.
abbrev pub ScenariosHaveTheirOwnResults : Type 0
ScenariosHaveTheirOwnResults = (run : Run) (contents : Contents) (features : List ChosenValue) (results : Results) (at : Place) (f : ChosenValue) (c : CaseValue) (row : CaseRow) →
    Judged run contents features results → HasResult features results at f c row → IsSettled run results row → row ≡ own_row run (state_of contents) (above f c) c

-- Two runs have the same step library and the same hooks file, and start from contents with the same plain state. Whether they stop at a failure may differ.
pub record IsLike (run : Run) (contents : Contents) (other : Run) (other_contents : Contents) : Type 0 where
  pub library : other.library ≡ run.library
  pub hooks : other.hooks ≡ run.hooks
  pub state : state_of other_contents ≡ state_of contents

-- Above two scenarios, the before lists are the same. They are if the tags are; tags without a before_tag hook may differ, and so may all that only after hooks see.
pub record BeginsLike (hooks : List HookValue) (a other : Above) : Type 0 where
  pub feature : before_list hooks levels.Feature other.feature ≡ before_list hooks levels.Feature a.feature
  pub rule : option_map (before_list hooks levels.Rule) other.rule ≡ option_map (before_list hooks levels.Rule) a.rule

-- Two cases are the same scenario: keyword, name, line, own tags and steps. Its file may have other rules before its own, and above it other tags, which it inherits for `--tags`.
abbrev pub IsSameScenario : CaseValue → CaseValue → Type 0
IsSameScenario c other = other ≡ record c { tags = other.tags; rule = other.rule }

-- A scenario whose result is settled in two runs has the same result in both, if they have the same library and hooks file, start from the same plain state, and the same before hooks ran above it. Which features were run, at which place the scenario stood, what else was selected, whether the runs were to stop and where memory was refused may all differ.
abbrev pub ResultsAreTheSameInEachRun : Type 0
ResultsAreTheSameInEachRun = (run other_run : Run) (contents other_contents : Contents) (features other_features : List ChosenValue) (results other_results : Results) (at other_at : Place) (f other_f : ChosenValue) (c other_c : CaseValue) (row other_row : CaseRow) →
    IsLike run contents other_run other_contents → BeginsLike run.hooks (above f c) (above other_f other_c) → IsSameScenario c other_c →
    Judged run contents features results → HasResult features results at f c row → IsSettled run results row →
    Judged other_run other_contents other_features other_results → HasResult other_features other_results other_at other_f other_c other_row → IsSettled other_run other_results other_row →
    other_row ≡ row

-- A step, apart from its line.
abbrev pub step_anywhere : StepValue → StepValue
step_anywhere step = record step { line = 0 }

-- A case, apart from where it stands: its line and its steps' lines, its rule, and the tags that it inherits for `--tags`.
abbrev pub anywhere : CaseValue → CaseValue
anywhere c = record c { line = 0; rule = None; tags = []; steps = map step_anywhere c.steps }

-- The result of a step, apart from its line.
abbrev pub step_row_anywhere : StepRow → StepRow
step_row_anywhere row = record row { line = 0 }

-- The result of a case, apart from its line and its steps' lines.
abbrev pub row_anywhere : CaseRow → CaseRow
row_anywhere row = record row { line = 0; steps = map step_row_anywhere row.steps }

-- If a scenario is moved to other lines, or to another file, its result stays the same apart from the lines: keyword, name, verdict, how its hooks and cleanups ended, the outcomes of its cleanups, and the keyword, text, status and reason of each step. The premises are those of `ResultsAreTheSameInEachRun`, but the scenario need only be the same apart from where it stands.
abbrev pub MovedScenariosComeToTheSame : Type 0
MovedScenariosComeToTheSame = (run other_run : Run) (contents other_contents : Contents) (features other_features : List ChosenValue) (results other_results : Results) (at other_at : Place) (f other_f : ChosenValue) (c other_c : CaseValue) (row other_row : CaseRow) →
    IsLike run contents other_run other_contents → BeginsLike run.hooks (above f c) (above other_f other_c) → anywhere other_c ≡ anywhere c →
    Judged run contents features results → HasResult features results at f c row → IsSettled run results row →
    Judged other_run other_contents other_features other_results → HasResult other_features other_results other_at other_f other_c other_row → IsSettled other_run other_results other_row →
    row_anywhere other_row ≡ row_anywhere row

-- A case that isn't selected.
abbrev pub deselected : MemberValue → MemberValue
deselected m = record m { selected = false }

-- Cases of which only the one with this number is selected, counted from 0. (this project's profile)
abbrev pub only_case : ℕ → List MemberValue → List MemberValue
only_case k [] = []
only_case zero (m ∷ ms) = record m { selected = true } ∷ map deselected ms
only_case (suc k) (m ∷ ms) = deselected m ∷ only_case k ms

-- A feature of which only the case with this number is selected.
abbrev pub only_in : ℕ → ChosenValue → ChosenValue
only_in k f = record f { members = only_case k f.members }

-- A feature of which no case is selected.
abbrev pub none_in : ChosenValue → ChosenValue
none_in f = record f { members = map deselected f.members }

-- The features of a run of which only case k of feature i is selected, as by `--line`.
abbrev pub only : ℕ → ℕ → List ChosenValue → List ChosenValue
only i k [] = []
only zero k (f ∷ fs) = only_in k f ∷ map none_in fs
only (suc i) k (f ∷ fs) = none_in f ∷ only i k fs

-- A scenario whose result is settled in a suite has the same result, at the same place, when the suite is run with only this scenario selected, and memory is refused nowhere in that run. With or without `--stop`, nothing but the before hooks above it can keep it from running then.
abbrev pub ScenariosComeToTheSameAlone : Type 0
ScenariosComeToTheSameAlone = (run other_run : Run) (contents other_contents : Contents) (features : List ChosenValue) (results other_results : Results) (at : Place) (f : ChosenValue) (c : CaseValue) (row : CaseRow) →
    IsLike run contents other_run other_contents →
    Judged run contents features results → HasResult features results at f c row → IsSettled run results row →
    Judged other_run other_contents (only at.feature at.scenario features) other_results → other_run.dry_run ≡ false → has_memory other_results ≡ false →
    HasResult (only at.feature at.scenario features) other_results at (only_in at.scenario f) c row
