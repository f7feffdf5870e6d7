-- A run that was begun and isn't finished.
use Rattle.std.specs.List.{FoldsTo}
use Rattle.std.specs.Prelude.{◌≡◌, ◌&&◌, ◌||◌, [], ◌++◌, not, true, false, Bool, List, ℕ}
use Rattle.gk_world.specs.State.{State, state_of}
use Rattle.gk_world.specs.Sandbox.{SandboxValue}
use Rattle.gk_run.specs.declared.ending.Ending.{Ending}
use Rattle.gk_run.specs.declared.results.Status.{Status}
use Rattle.gk_run.specs.declared.section.Level.TheVariants as levels
use Rattle.gk_run.specs.Acting.{CleanupValue}
use Rattle.gk_run.specs.Results.{FeatureRow}
use Rattle.gk_run.specs.Ending.{has_passed}
use Rattle.gk_run.specs.Events.{Event, section_now, result_of}
use Rattle.gk_run.specs.OpenSection.{EndsAround, IsEndedFrom, IsOpened, IsSectionEnd, Run}
use Rattle.gk_run.specs.Chosen.{ChosenValue}
use Rattle.gk_run.specs.Running.{is_failed_or_memory, stays_open_by}
use Rattle.gk_run.specs.Features.{FeatureCuts, IsFeatureResult, features_of}
use Rattle.gk_run.specs.Judged.{Judged, BeginsJudged}

-- A run that was begun: its layer, how `before_all` ended, and its cleanups. `stop` says whether it stops at a failure, `has_failed` whether a feature is failed or memory. (behave's documentation: context layers, environment file functions, `--stop`)
pub record SuiteValue : Type 0 where
  pub layer : ℕ
  pub before : Ending
  pub cleanups : List CleanupValue
  pub stop : Bool
  pub has_failed : Bool

-- Whether further features are begun: the before_all hook passed whole, and the run hasn't stopped. (behave's documentation: environment file functions, `--stop`)
abbrev pub opens_features : SuiteValue → Bool
opens_features suite = has_passed suite.before && not (suite.stop && suite.has_failed)

-- A run that isn't dry was begun in its own layer, and its before list was walked through. (behave's documentation: context layers, environment file functions)
pub record IsStarted (run : Run) (old new : SandboxValue) (suite : SuiteValue) : Type 0 where
  pub runs : run.dry_run ≡ false
  pub opened : IsOpened run levels.Run [] old new suite.layer suite.before suite.cleanups
  pub stops : suite.stop ≡ run.stop
  pub unfailed : suite.has_failed ≡ false
  pub opens : opens_features suite ≡ has_passed suite.before

-- A run was begun like this, and an observer was notified of the events of the before_all hook.
abbrev pub NotifiesStart : {S : Type 0} → (S → Event → S → Type 0) → Run → SandboxValue → SandboxValue → SuiteValue → S → S → Type 0
NotifiesStart hears run old new suite first last = (started : IsStarted run old new suite) × FoldsTo hears first started.opened.first last

-- All of an open run is as it was, except whether a feature has failed.
abbrev pub IsKept : SuiteValue → SuiteValue → Type 0
IsKept old new = new ≡ record old { has_failed = new.has_failed }

-- A feature of an open run was run. Its result is that of some cuts, from the run's state if the run is open. The run has failed if it had before, or if the feature is failed or memory. Unless the run stops at this, it is as open as before.
pub record IsNextRun (run : Run) (now : State) (f : ChosenValue) (row : FeatureRow) (old new : SuiteValue) : Type 0 where
  pub result : IsFeatureResult run now (opens_features old) f row
  pub failed : new.has_failed ≡ (old.has_failed || is_failed_or_memory row.status)
  pub opens : opens_features new ≡ (opens_features old && stays_open_by old.stop row.status)

-- A run that was begun was finished from the state that the sandbox has now, and its hooks and cleanups ended like this.
abbrev pub IsFinished : Run → SuiteValue → SandboxValue → Status → Type 0
IsFinished run suite now around = (last : List Event) × IsEndedFrom run levels.Run [] suite.before (section_now now suite.cleanups) around last

-- A run was finished like this, and an observer was notified of the events that happened.
abbrev pub NotifiesFinish : {S : Type 0} → (S → Event → S → Type 0) → Run → SuiteValue → SandboxValue → Status → S → S → Type 0
NotifiesFinish hears run suite now around begin end = EndsAround hears run levels.Run [] suite.before (section_now now suite.cleanups) around begin end

-- The results of features are those of some cuts, from the run's state if they are begun.
abbrev pub AreFeatures : Run → State → Bool → List ChosenValue → List FeatureRow → Type 0
AreFeatures run now opens features rows = (outside : State) → (opens ≡ true → now ≡ outside) → (cuts : List FeatureCuts) × (rows ≡ result_of (features_of run outside opens cuts features))

-- A run that was begun, ran its features and was finished has judged results.
abbrev pub FinishedRunsAreJudged : Type 0
FinishedRunsAreJudged = (run : Run) (old new : SandboxValue) (suite : SuiteValue) (features : List ChosenValue) (rows : List FeatureRow) (around : Status) →
    (started : IsStarted run old new suite) → AreFeatures run (state_of new.now) (opens_features suite) features rows → (last : List Event) → IsSectionEnd run levels.Run [] (state_of old.now) around started.opened.first last →
    Judged run old.now features (record { features = rows; around = around })

-- A run that was begun, ran some features and isn't finished has results that begin judged results, whatever features come after them.
abbrev pub UnfinishedRunsAreJudged : Type 0
UnfinishedRunsAreJudged = (run : Run) (old new : SandboxValue) (suite : SuiteValue) (features others : List ChosenValue) (rows : List FeatureRow) →
    IsStarted run old new suite → AreFeatures run (state_of new.now) (opens_features suite) features rows → BeginsJudged run old.now (features ++ others) rows
