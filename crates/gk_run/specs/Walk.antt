-- Walking through steps: the events of a walk, the step at which it ends, what that step leaves, and the mark of each step.
use Rattle.std.specs.Prelude.{cond, List, [], ◌∷◌, ◌≡◌, ◌⊎◌, Option, Some, None, is_some, zero, suc, length, drop, map, option_map, slice_get, ℕ, ◌++◌, ◌≢◌, ◌<◌}
use Rattle.gk_gherkin.specs.Feature.{StepValue}
use Rattle.gk_steps.specs.Finding.{LibraryValue, FoundValue, HasCandidateFor, found}
use Rattle.gk_world.specs.State.{State}
use Rattle.gk_run.specs.declared.cleanups.Registration.{Registration}
use Rattle.gk_run.specs.declared.ending.Ending.{Ending}
use Rattle.gk_run.specs.declared.ending.Ending.TheVariants as endings
use Rattle.gk_run.specs.declared.results.Mark.{Mark}
use Rattle.gk_run.specs.declared.results.Mark.TheVariants.{Acted, Skipped, Untested, Undefined}
use Rattle.gk_run.specs.declared.results.Outcome.TheVariants as outcomes
use Rattle.gk_run.specs.declared.section.Stage.{Stage}
use Rattle.gk_run.specs.Acting.{CleanupValue, UseValue, act, cleanups_at, use_of}
use Rattle.gk_run.specs.Ending.{ending_of, has_passed, status_of_mark, reason_of_mark}
use Rattle.gk_run.specs.Events.{Event, of_step, SectionNow, event_marks, left_by}
use Rattle.gk_run.specs.Results.{StepRow}
use Rattle.gk_run.specs.Section.{site_of, steps_of_case}
use Rattle.gk_run.specs.declared.results.Outcome.{Outcome}

-- One step: its mark, the action that is carried out, if there is one, the state that it leaves, the cleanups that it registers, and the files that it writes, in order, if its action has more than one change.
pub record Stepped : Type 0 where
  pub mark : Mark
  pub used : Option UseValue
  pub state : State
  pub registered : List CleanupValue
  pub files : List (List ℕ × List ℕ)

-- The place of a step at a stage, where it registers cleanups.
abbrev pub place_of : Stage → StepValue → Registration
place_of stage step = record { part = stage.part; line = step.line }

-- A step at a stage is carried out if the library matches it; otherwise it is undefined and changes nothing. (behave's documentation: step matching)
abbrev pub stepped : LibraryValue → Stage → State → StepValue → Option FoundValue → Stepped
stepped library stage s step None = record { mark = Undefined; used = None; state = s; registered = []; files = [] }
stepped library stage s step (Some f) =
    let acted = act library (site_of stage) f step.block s in
    record { mark = Acted acted.done.outcome; used = Some (use_of library f step.block); state = acted.done.state; registered = cleanups_at (place_of stage step) acted.registered; files = acted.done.files }

-- One step at a stage, from a state.
abbrev pub one_step : LibraryValue → Stage → State → StepValue → Stepped
one_step library stage s step = stepped library stage s step (found library step.step_type step.text)

-- The event of a step at a stage, with this mark, this action, these cleanups and this state.
abbrev pub event_of : Stage → StepValue → Stepped → Event
event_of stage step this = of_step stage step this.mark this.used this.registered this.state

-- The walk through a list of steps at a stage, from a state. The first step that isn't found or doesn't pass ends it, with what that step changed. (behave's documentation: a failed step ends its scenario)
abbrev pub walk : LibraryValue → Stage → State → List StepValue → List Event
walk library stage s [] = []
walk library stage s (step ∷ steps) =
    let this = one_step library stage s step in
    event_of stage step this ∷ cond (has_passed (ending_of this.mark)) (walk library stage this.state steps) []

-- The mark of a step that is only looked up: `matched` if the library matches it, otherwise undefined.
abbrev pub looked_up : LibraryValue → Mark → StepValue → Mark
looked_up library matched step = cond (is_some (found library step.step_type step.text)) matched Undefined

-- The event of a step of a case that isn't carried out. It changes nothing.
abbrev pub unrun_step : StepValue → Mark → State → Event
unrun_step step mark s = of_step steps_of_case step mark None [] s

-- The events of the steps of a case, from a state and from how the case has ended so far. Each step is carried out while all before it passed. After a skip each is skipped; after a failure each is looked up, and skipped if the library matches it. (behave's documentation: a failed step ends its scenario)
abbrev pub steps_from : LibraryValue → Ending → State → List StepValue → List Event
steps_from library stood s [] = []
steps_from library endings.Passed s (step ∷ steps) =
    let this = one_step library steps_of_case s step in
    event_of steps_of_case step this ∷ steps_from library (ending_of this.mark) this.state steps
steps_from library endings.Failed s (step ∷ steps) = unrun_step step (looked_up library Skipped step) s ∷ steps_from library endings.Failed s steps
steps_from library endings.Skipped s (step ∷ steps) = unrun_step step Skipped s ∷ steps_from library endings.Skipped s steps
steps_from library endings.Memory s (step ∷ steps) = unrun_step step (looked_up library Skipped step) s ∷ steps_from library endings.Memory s steps

-- The result of a step with this mark.
abbrev pub row_of_step : StepValue → Mark → StepRow
row_of_step step mark = record { keyword = step.keyword; text = step.text; line = step.line; status = status_of_mark mark; reason = reason_of_mark mark }

-- The results of a case's steps. A step whose event didn't happen is untested.
abbrev pub rows_of_steps : List StepValue → List Mark → List StepRow
rows_of_steps [] marks = []
rows_of_steps (step ∷ steps) [] = row_of_step step Untested ∷ rows_of_steps steps []
rows_of_steps (step ∷ steps) (mark ∷ marks) = row_of_step step mark ∷ rows_of_steps steps marks

-- The state and the cleanups of a section after one step, if there is such a step, whatever becomes of it.
abbrev pub carried_on : LibraryValue → Stage → SectionNow → Option StepValue → SectionNow
carried_on library stage before None = before
carried_on library stage before (Some step) = let this = one_step library stage before.state step in record { state = this.state; cleanups = before.cleanups ++ this.registered }

-- The state and the cleanups of a section after the first k steps of a list, whatever becomes of them.
abbrev pub after : LibraryValue → Stage → SectionNow → List StepValue → ℕ → SectionNow
after library stage start steps zero = start
after library stage start steps (suc k) = carried_on library stage (after library stage start steps k) (slice_get steps k)

-- The event of step k, counted from 0: it is carried out from the state that the first k steps leave.
abbrev pub event_at : LibraryValue → Stage → SectionNow → List StepValue → ℕ → Option Event
event_at library stage start steps k =
    let before = after library stage start steps k in
    option_map (λ step. event_of stage step (one_step library stage before.state step)) (slice_get steps k)

-- The outcome of a step's action from a state, if the library matches the step like this.
abbrev pub outcome_from : LibraryValue → Stage → State → StepValue → FoundValue → Outcome
outcome_from library stage s step f = let acted = act library (site_of stage) f step.block s in acted.done.outcome

-- A step from this state isn't found, or its outcome isn't Passed.
abbrev pub Stops : LibraryValue → Stage → State → StepValue → Type 0
Stops library stage s step =
    (found library step.step_type step.text ≡ None)
    ⊎ ((f : FoundValue) × (found library step.step_type step.text ≡ Some f) × (outcome_from library stage s step f ≢ outcomes.Passed))

-- There is a step k, and after the first k steps it isn't found or its outcome isn't Passed.
abbrev pub StopsAt : LibraryValue → Stage → SectionNow → List StepValue → ℕ → Type 0
StopsAt library stage start steps k =
    let before = after library stage start steps k in
    (step : StepValue) × (slice_get steps k ≡ Some step) × Stops library stage before.state step

-- The least such step, counted from 0.
abbrev pub IsStop : LibraryValue → Stage → SectionNow → List StepValue → ℕ → Type 0
IsStop library stage start steps stop = StopsAt library stage start steps stop × ((i : ℕ) → i < stop → StopsAt library stage start steps i → ⊥)

-- There is no such step.
abbrev pub HasNoStop : LibraryValue → Stage → SectionNow → List StepValue → Type 0
HasNoStop library stage start steps = (i : ℕ) → StopsAt library stage start steps i → ⊥

-- The first `count` steps of a list are carried out, each from the state that the ones before it left, and the first `passed` of them passed. The section is left as the last of them left it, and their events come before these others.
pub record CarriesOut (library : LibraryValue) (stage : Stage) (start : SectionNow) (steps : List StepValue) (events : List Event) (count passed : ℕ) (others : List Event) : Type 0 where
  pub each : (i : ℕ) → i < count → slice_get events i ≡ event_at library stage start steps i
  pub passes : (i : ℕ) → i < passed → slice_get (event_marks events) i ≡ Some (Acted outcomes.Passed)
  pub leaves : left_by start events ≡ after library stage start steps count
  pub rest : drop count events ≡ others

-- The events of the steps after one that ended like this and left this state.
abbrev pub LaterSteps : Type 0
LaterSteps = Ending → State → List StepValue → List Event

-- A list ends at a step, counted from 0. The steps up to it are carried out, the earlier ones passed, and the events of the later ones follow from how it ended.
abbrev pub EndsAt : LibraryValue → Stage → SectionNow → List StepValue → LaterSteps → List Event → ℕ → Type 0
EndsAt library stage start steps later events stop =
    let left = after library stage start steps (suc stop) in
    (mark : Mark) × (slice_get (event_marks events) stop ≡ Some mark) × CarriesOut library stage start steps events (suc stop) stop (later (ending_of mark) left.state (drop (suc stop) steps))

-- A list of steps ends at the least one that isn't found or whose outcome isn't Passed. If there is none, it passes whole: all steps are carried out, and passed. (behave's documentation: a failed step ends its scenario)
pub record EndsAtTheLeastStop (library : LibraryValue) (stage : Stage) (start : SectionNow) (steps : List StepValue) (later : LaterSteps) (events : List Event) : Type 0 where
  pub ends : (stop : ℕ) → IsStop library stage start steps stop → EndsAt library stage start steps later events stop
  pub passes : HasNoStop library stage start steps → CarriesOut library stage start steps events (length steps) (length steps) []
  pub either : ((stop : ℕ) × IsStop library stage start steps stop) ⊎ HasNoStop library stage start steps

-- Each walk ends like this, and the steps after its end have no events, whatever its steps, its stage, and the state and the cleanups of the section before it.
abbrev pub WalksEndAtTheLeastStop : Type 0
WalksEndAtTheLeastStop = (library : LibraryValue) (stage : Stage) (start : SectionNow) (steps : List StepValue) → EndsAtTheLeastStop library stage start steps (λ ended s others. []) (walk library stage start.state steps)

-- The mark of a later step, which isn't carried out. After a skip, or if the library matches it, it is skipped; otherwise it is undefined. (behave's documentation: a failed step ends its scenario)
abbrev pub mark_of_later : LibraryValue → Ending → StepValue → Mark
mark_of_later library endings.Skipped step = Skipped
mark_of_later library ended step = looked_up library Skipped step

-- The events of the steps of a case that aren't carried out: they change nothing.
abbrev pub unrun_steps : LibraryValue → LaterSteps
unrun_steps library ended s steps = map (λ step. unrun_step step (mark_of_later library ended step) s) steps

-- The steps of each case whose before list passed whole end like this.
abbrev pub StepsEndAtTheLeastStop : Type 0
StepsEndAtTheLeastStop = (library : LibraryValue) (start : SectionNow) (steps : List StepValue) →
    EndsAtTheLeastStop library steps_of_case start steps (unrun_steps library) (steps_from library endings.Passed start.state steps)

-- If the before list of a case didn't pass whole, none of its steps is carried out: all are skipped after a skip; otherwise each is skipped or undefined. (this project's profile)
abbrev pub StoppedCasesRunNoStep : Type 0
StoppedCasesRunNoStep = (library : LibraryValue) (ended : Ending) (s : State) (steps : List StepValue) →
    ended ≢ endings.Passed → steps_from library ended s steps ≡ unrun_steps library ended s steps

-- Proof machinery, from here on: what the code's calls do.

-- A step was only looked up, or memory was refused in the look-up. If it was refused, the step's text has the ends of an entry.
abbrev pub IsLookedUp : LibraryValue → Mark → StepValue → Mark → Type 0
IsLookedUp library matched step mark = ((mark ≡ Acted outcomes.Memory) × HasCandidateFor library step.step_type step.text) ⊎ (mark ≡ looked_up library matched step)
