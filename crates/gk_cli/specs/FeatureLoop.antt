-- A run of which a reporter is notified from its beginning to its end, and the text that is written of it.
use Rattle.std.specs.List.{FoldsTo}
use Rattle.std.specs.Prelude.{◌≡◌, ◌⊎◌, ◌&&◌, ℕ, Bool, true, List, [], ◌∷◌, ◌++◌}
use Rattle.gk_world.specs.State.{Contents, State, state_of}
use Rattle.gk_steps.specs.Finding.{LibraryValue}
use Rattle.gk_run.specs.declared.results.Status.{Status}
use Rattle.gk_run.specs.declared.section.Level.TheVariants as levels
use Rattle.gk_run.specs.Results.{FeatureRow, Results}
use Rattle.gk_run.specs.OpenSection.{Run, NotifiesEnd, IsOpening, section_state}
use Rattle.gk_run.specs.Chosen.{ChosenValue}
use Rattle.gk_run.specs.Running.{stays_open}
use Rattle.gk_run.specs.DryRun.{dry_feature_of}
use Rattle.gk_run.specs.Ending.{has_passed}
use Rattle.gk_run.specs.Events.{Event, ended_in, Ended}
use Rattle.gk_run.specs.Features.{FeatureCuts, IsFeatureResult, NotifiesFeature}
use Rattle.gk_run.specs.Judged.{Judged, BeginsJudged}
use Rattle.gk_report.specs.declared.summary.Summary.{Summary}
use Rattle.gk_report.specs.Summary.{status, status_of, summary_of, CountsOneMore}
use Rattle.gk_request.specs.declared.run_fault.RunFault.{RunFault}
use Rattle.gk_request.specs.declared.run_fault.RunFault.TheVariants.{Memory}
use Rattle.gk_cli.specs.declared.feature_loop.CountingReporter.{CountingReporter}
use Rattle.gk_cli.specs.Writing.{Device, IsWritten, IsStopped}

-- Proof machinery: the results of a run: those of its features, and how its own hooks and cleanups ended.
abbrev pub results_with : List FeatureRow → Status → Results
results_with rows around = record { features = rows; around = around }

-- Proof machinery: a reporter was notified of the end of a feature with this result, and its text of the feature was written.
pub record IsAdded {S : Type 0} (adds : S → FeatureRow → List ℕ → S → Type 0) (row : FeatureRow) (old new : S) (there here : Device) : Type 0 where
  pub text : List ℕ
  pub notified : adds old row text new
  pub written : IsWritten there here text

-- Proof machinery: its text of the feature wasn't written whole: memory was refused and nothing was written, or a prefix was.
abbrev pub StopsAdding : {S : Type 0} → (S → FeatureRow → List ℕ → S → Type 0) → FeatureRow → S → Device → Device → RunFault → Type 0
StopsAdding {S} adds row old there here fault =
    ((there ≡ here) × (fault ≡ Memory)) ⊎ ((text : List ℕ) × (notified : S) × adds old row text notified × IsStopped there here text fault)

-- Proof machinery: for any results with these counts, this is a text that a reporter may write at the end of the run.
abbrev pub ClosesWith : {S : Type 0} → (S → Results → List ℕ → Type 0) → S → Summary → Status → List ℕ → Type 0
ClosesWith closes notified summary around text = (rows : List FeatureRow) → summary ≡ summary_of rows → closes notified (results_with rows around) text

-- A reporter was notified of a feature of a run in this state: its beginning, what happened in it, and its end with this result. This is the reporter's text of it.
pub record NotifiesOfFeature {S : Type 0} (hears : S → Event → S → Type 0) (ends : S → Ended → S → Type 0) (begins : S → List ℕ → S → Type 0) (adds : S → FeatureRow → List ℕ → S → Type 0) (run : Run) (now : State) (is_open : Bool) (f : ChosenValue) (row : FeatureRow) (text : List ℕ) (old new : S) : Type 0 where
  pub begun : S
  pub start : begins old f.source begun
  pub heard : S
  pub notified : NotifiesFeature hears ends run now is_open f row begun heard
  pub added : adds heard row text new

-- Proof machinery: a reporter was notified of a feature of a dry run. Nothing happens in it.
pub record NotifiesOfDryFeature {S : Type 0} (begins : S → List ℕ → S → Type 0) (adds : S → FeatureRow → List ℕ → S → Type 0) (is_open : Bool) (f : ChosenValue) (row : FeatureRow) (text : List ℕ) (old new : S) : Type 0 where
  pub begun : S
  pub start : begins old f.source begun
  pub added : adds begun row text new

-- Whether a run is still open after a feature with this result.
abbrev pub stays : Run → Bool → FeatureRow → Bool
stays run is_open row = is_open && stays_open run row.status

-- A reporter was notified of features with these results, one after another. This is its text of all of them.
abbrev pub NotifiesOfFeatures : {S : Type 0} → (Bool → ChosenValue → FeatureRow → List ℕ → S → S → Type 0) → (Bool → FeatureRow → Bool) → Bool → List ChosenValue → List FeatureRow → List ℕ → S → S → Type 0
NotifiesOfFeatures notifies next is_open [] [] text old new = (text ≡ []) × (old ≡ new)
NotifiesOfFeatures notifies next is_open [] (row ∷ rows) text old new = ⊥
NotifiesOfFeatures notifies next is_open (f ∷ fs) [] text old new = ⊥
NotifiesOfFeatures {S} notifies next is_open (f ∷ fs) (row ∷ rows) text old new =
    (this later : List ℕ) × (between : S) × (text ≡ this ++ later) × notifies is_open f row this old between × NotifiesOfFeatures notifies next (next is_open row) fs rows later between new

-- A reporter was notified of events of the run's before hook and then of the run's first features. The events are all of the hook's, or those up to the one that ran out of memory. If the before hook passed, the features start from the run's state. This is the reporter's text of all these.
pub record NotifiesOfFirst {S : Type 0} (hears : S → Event → S → Type 0) (notifies : Run → State → Bool → ChosenValue → FeatureRow → List ℕ → S → S → Type 0) (run : Run) (outside : State) (opening : List Event) (features : List ChosenValue) (rows : List FeatureRow) (text : List ℕ) (first new : S) : Type 0 where
  pub begun : S
  pub opens : IsOpening run levels.Run [] outside opening
  pub start : FoldsTo hears first opening begun
  pub state : State
  pub from : has_passed (ended_in opening) ≡ true → state ≡ section_state run levels.Run [] outside
  pub notified : NotifiesOfFeatures (notifies run state) (stays run) (has_passed (ended_in opening)) features rows text begun new

-- The whole text of a run with these results: the reporter was notified of all of the run.
pub record IsWholeText {S : Type 0} (hears : S → Event → S → Type 0) (notifies : Run → State → Bool → ChosenValue → FeatureRow → List ℕ → S → S → Type 0) (closes : S → Results → List ℕ → Type 0) (run : Run) (contents : Contents) (features : List ChosenValue) (results : Results) (first : S) (text : List ℕ) : Type 0 where
  pub opening : List Event
  pub parts : List ℕ
  pub notified : S
  pub begins : NotifiesOfFirst hears notifies run (state_of contents) opening features results.features parts first notified
  pub last : S
  pub finish : NotifiesEnd hears run levels.Run [] (state_of contents) results.around opening notified last
  pub tail : List ℕ
  pub closed : closes last results tail
  pub whole : text ≡ parts ++ tail

-- The text of a run's first features. Their results begin a judged list.
pub record IsFirstText {S : Type 0} (hears : S → Event → S → Type 0) (notifies : Run → State → Bool → ChosenValue → FeatureRow → List ℕ → S → S → Type 0) (run : Run) (contents : Contents) (features : List ChosenValue) (first : S) (text : List ℕ) : Type 0 where
  pub done : List ChosenValue
  pub others : List ChosenValue
  pub whole : features ≡ done ++ others
  pub rows : List FeatureRow
  pub judged : BeginsJudged run contents features rows
  pub opening : List Event
  pub notified : S
  pub begins : NotifiesOfFirst hears notifies run (state_of contents) opening done rows text first notified

-- The text of a run's first features, or the whole text of a run with judged results.
abbrev pub IsTextSoFar : {S : Type 0} → (S → Event → S → Type 0) → (Run → State → Bool → ChosenValue → FeatureRow → List ℕ → S → S → Type 0) → (S → Results → List ℕ → Type 0) → Run → Contents → List ChosenValue → S → List ℕ → Type 0
IsTextSoFar hears notifies closes run contents features first text =
    IsFirstText hears notifies run contents features first text ⊎ ((results : Results) × Judged run contents features results × IsWholeText hears notifies closes run contents features results first text)

-- The whole text of a run with judged results was written, and their status is returned.
pub record IsRunWritten {S : Type 0} (hears : S → Event → S → Type 0) (notifies : Run → State → Bool → ChosenValue → FeatureRow → List ℕ → S → S → Type 0) (closes : S → Results → List ℕ → Type 0) (run : Run) (contents : Contents) (features : List ChosenValue) (first : S) (old new : Device) (answer : ℕ) : Type 0 where
  pub results : Results
  pub judged : Judged run contents features results
  pub text : List ℕ
  pub notifies_all : IsWholeText hears notifies closes run contents features results first text
  pub written : IsWritten old new text
  pub returned : answer ≡ status results

-- A prefix of the text of a run's first features, or of the whole text, was written.
abbrev pub IsRunWrittenUpTo : {S : Type 0} → (S → Event → S → Type 0) → (Run → State → Bool → ChosenValue → FeatureRow → List ℕ → S → S → Type 0) → (S → Results → List ℕ → Type 0) → Run → Contents → List ChosenValue → S → Device → Device → RunFault → Type 0
IsRunWrittenUpTo hears notifies closes run contents features first old new fault = (text : List ℕ) × IsTextSoFar hears notifies closes run contents features first text × IsStopped old new text fault

-- Proof machinery, from here on: a reporter was notified of the next feature, and its text was written.
pub record WritesNext {R : Type 0} (notifies : Bool → ChosenValue → FeatureRow → List ℕ → R → R → Type 0) (Result : FeatureRow → Type 0) (is_open : Bool) (f : ChosenValue) (old : Device) (so_far : CountingReporter R) (new : Device) (grown : CountingReporter R) : Type 0 where
  pub row : FeatureRow
  pub result : Result row
  pub text : List ℕ
  pub notified : notifies is_open f row text so_far.reporter grown.reporter
  pub written : IsWritten old new text
  pub counted : CountsOneMore so_far.summary row grown.summary

-- The next feature has no result, or its text wasn't written whole.
abbrev pub StopsAtNext : {R : Type 0} → (Bool → ChosenValue → FeatureRow → List ℕ → R → R → Type 0) → (FeatureRow → Type 0) → Bool → ChosenValue → Device → CountingReporter R → Device → RunFault → Type 0
StopsAtNext {R} notifies Result is_open f old so_far new fault =
    ((old ≡ new) × (fault ≡ Memory))
    ⊎ ((row : FeatureRow) × (text : List ℕ) × (notified : R) × Result row × notifies is_open f row text so_far.reporter notified × IsStopped old new text fault)

-- What the result of a run's next feature is, and whether the run is open after it.
abbrev pub IsNextResult : Run → State → Bool → Bool → ChosenValue → FeatureRow → Type 0
IsNextResult run now is_open next f row = IsFeatureResult run now is_open f row × (next ≡ stays run is_open row)

-- A dry run begins each feature: it is never closed.
abbrev pub stays_begun : Bool → FeatureRow → Bool
stays_begun is_open row = is_open

-- What the result of a dry run's next feature is.
abbrev pub IsDryResult : LibraryValue → ChosenValue → FeatureRow → Type 0
IsDryResult library f row = (cuts : FeatureCuts) × (row ≡ dry_feature_of library cuts f)

-- A reporter was notified of features, and its text of them was written.
pub record AreWritten {R : Type 0} (notifies : Bool → ChosenValue → FeatureRow → List ℕ → R → R → Type 0) (next : Bool → FeatureRow → Bool) (Give : List ChosenValue → List FeatureRow → Type 0) (is_open : Bool) (features : List ChosenValue) (old : Device) (so_far : CountingReporter R) (new : Device) (grown : CountingReporter R) : Type 0 where
  pub rows : List FeatureRow
  pub results : Give features rows
  pub text : List ℕ
  pub notified : NotifiesOfFeatures notifies next is_open features rows text so_far.reporter grown.reporter
  pub written : IsWritten old new text
  pub counted : so_far.summary ≡ summary_of [] → grown.summary ≡ summary_of rows

-- A reporter was notified of the first of some features, and a prefix of its text of them was written.
pub record AreWrittenUpTo {R : Type 0} (notifies : Bool → ChosenValue → FeatureRow → List ℕ → R → R → Type 0) (next : Bool → FeatureRow → Bool) (Give : List ChosenValue → List FeatureRow → Type 0) (is_open : Bool) (features : List ChosenValue) (old : Device) (so_far : CountingReporter R) (new : Device) (fault : RunFault) : Type 0 where
  pub done : List ChosenValue
  pub others : List ChosenValue
  pub whole : features ≡ done ++ others
  pub rows : List FeatureRow
  pub results : Give done rows
  pub text : List ℕ
  pub last : R
  pub notified : NotifiesOfFeatures notifies next is_open done rows text so_far.reporter last
  pub stopped : IsStopped old new text fault

-- A reporter was notified of the end of the run, its last text was written, and the status is returned, whatever features came before, if their counts are these.
abbrev pub IsClosed : {R : Type 0} → (R → Results → List ℕ → Type 0) → CountingReporter R → Status → Device → Device → ℕ → Type 0
IsClosed closes notified around old new answer =
    (rows : List FeatureRow) → notified.summary ≡ summary_of rows → (text : List ℕ) × closes notified.reporter (results_with rows around) text × IsWritten old new text × (answer ≡ status_of rows around)

-- The last text wasn't written whole: memory was refused and nothing was written, or a prefix was.
abbrev pub StopsClosing : {R : Type 0} → (R → Results → List ℕ → Type 0) → CountingReporter R → Status → Device → Device → RunFault → Type 0
StopsClosing closes notified around old new fault =
    ((old ≡ new) × (fault ≡ Memory))
    ⊎ ((rows : List FeatureRow) → notified.summary ≡ summary_of rows → (text : List ℕ) × closes notified.reporter (results_with rows around) text × IsStopped old new text fault)
