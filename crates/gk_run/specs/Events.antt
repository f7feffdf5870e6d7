-- The events of a run: what happens in it, one after another, what each leaves, and the messages to an observer.
use denote.Ref.{Bor}
use Rattle.std.specs.Prelude.{zero, suc, Bool, true, false, List, [], ◌∷◌, ◌++◌, map, Option, None, option_map, ℕ, ◌≡◌}
use Rattle.gk_gherkin.specs.Feature.{StepValue}
use Rattle.gk_world.specs.Sandbox.{SandboxValue}
use Rattle.gk_world.specs.State.{State, state_of}
use Rattle.gk_run.specs.declared.acting.Used.{Used}
use Rattle.gk_run.specs.declared.ending.Ending.{Ending}
use Rattle.gk_run.specs.declared.observer.StepDone.{StepDone}
use Rattle.gk_run.specs.declared.results.Mark.{Mark}
use Rattle.gk_run.specs.declared.results.Mark.TheVariants.{Acted}
use Rattle.gk_run.specs.declared.results.Outcome.{Outcome}
use Rattle.gk_run.specs.declared.results.Outcome.TheVariants as outcomes
use Rattle.gk_run.specs.declared.section.Level.{Level}
use Rattle.gk_run.specs.declared.section.Stage.{Stage}
use Rattle.gk_run.specs.Acting.{CleanupValue, UseValue, use_value}
use Rattle.gk_run.specs.Ending.{ended_of}
use Rattle.std.specs.List.{FoldsTo}
use Rattle.gk_run.specs.Results.{CaseRow, RuleRow}

-- An event. `of_step` is a step: its stage, its mark, the action that was carried out, if there was one, the cleanups that it registered, and the state that it left. `of_cleanup` is a cleanup of a section of this level: its outcome, and the state that it left.
pub data Event : Type 0 where
  of_step : Stage → StepValue → Mark → Option UseValue → List CleanupValue → State → Event
  of_cleanup : Level → CleanupValue → Outcome → State → Event

-- The mark of an event.
abbrev pub mark_of : Event → Mark
mark_of (of_step stage step mark used registered s) = mark
mark_of (of_cleanup level cleanup outcome s) = Acted outcome

-- Whether a list has a cleanup.
abbrev pub has_cleanup : List CleanupValue → Bool
has_cleanup [] = false
has_cleanup (cleanup ∷ cleanups) = true

-- Proof machinery: the action in a `StepDone`.
abbrev pub used_in : StepDone → Option UseValue
used_in done = option_map (λ (used : Bor Used). use_value used.now) done.used

-- The marks of events.
abbrev pub event_marks : List Event → List Mark
event_marks events = map mark_of events

-- How events that happen one after another end.
abbrev pub ended_in : List Event → Ending
ended_in events = ended_of (event_marks events)

-- The outcomes of the cleanups among events.
abbrev pub outcomes_of : List Event → List Outcome
outcomes_of [] = []
outcomes_of (of_step stage step mark used registered s ∷ events) = outcomes_of events
outcomes_of (of_cleanup level cleanup outcome s ∷ events) = outcome ∷ outcomes_of events

-- The plain state of a section, and the cleanups that are registered in it.
pub record SectionNow : Type 0 where
  pub state : State
  pub cleanups : List CleanupValue

-- The plain state of a section in a sandbox, with these cleanups.
abbrev pub section_now : SandboxValue → List CleanupValue → SectionNow
section_now sandbox cleanups = record { state = state_of sandbox.now; cleanups = cleanups }

-- The state and the cleanups of a section after an event.
abbrev pub after_event : SectionNow → Event → SectionNow
after_event section (of_step stage step mark used registered s) = record { state = s; cleanups = section.cleanups ++ registered }
after_event section (of_cleanup level cleanup outcome s) = record { state = s; cleanups = section.cleanups }

-- The state and the cleanups of a section after events, in order.
abbrev pub left_by : SectionNow → List Event → SectionNow
left_by section [] = section
left_by section (event ∷ events) = left_by (after_event section event) events

-- An event in which memory was refused: no action counts as carried out, nothing was registered, and it left this state.
abbrev pub refused : State → Event → Event
refused s (of_step stage step mark used registered _) = of_step stage step (Acted outcomes.Memory) None [] s
refused s (of_cleanup level cleanup outcome _) = of_cleanup level cleanup outcomes.Memory s

-- Events that are cut at event n, counted from 0. Those before it stay. Memory was refused in it, and it left this state. Those after it didn't happen.
abbrev pub cut_at : ℕ → State → List Event → List Event
cut_at n s [] = []
cut_at zero s (event ∷ events) = refused s event ∷ []
cut_at (suc n) s (event ∷ events) = event ∷ cut_at n s events

-- The events of `all` that happened, up to one in which memory was refused.
pub record IsCutOff (all messages : List Event) : Type 0 where
  pub front : List Event
  pub event : Event
  pub rest : List Event
  pub left : State
  pub whole : all ≡ front ++ (event ∷ rest)
  pub cut : messages ≡ front ++ (refused left event ∷ [])

-- The events of `all` that happened so far. If memory was refused before them, none did. If it is refused now, those up to the refused one did. Otherwise all except `rest` did.
abbrev pub SoFar : Bool → Bool → List Event → List Event → List Event → Type 0
SoFar true now all rest messages = messages ≡ []
SoFar false true all rest messages = IsCutOff all messages
SoFar false false all rest messages = all ≡ messages ++ rest

-- The end of a case, with its index among the cases of its feature and its result, or that of a rule, with its result.
pub data Ended : Type 0 where
  of_case : ℕ → CaseRow → Ended
  of_rule : RuleRow → Ended

-- A message to an observer: an event, or that a case or a rule has ended.
pub data Message : Type 0 where
  happens : Event → Message
  has_ended : Ended → Message

-- The result of a part of a run, and the messages about it, in order.
pub record Ran (A : Type 0) : Type 0 where
  pub result : A
  pub messages : List Message

-- The result of a part of a run.
abbrev pub result_of : {A : Type 0} → Ran A → A
result_of ran = ran.result

-- What an observer may become when it gets this message, given what it may become when it is notified of an event or an end.
abbrev pub notifies : {S : Type 0} → (S → Event → S → Type 0) → (S → Ended → S → Type 0) → S → Message → S → Type 0
notifies hears ends old (happens event) new = hears old event new
notifies hears ends old (has_ended ended) new = ends old ended new

-- A part of a run had this result, and an observer got all messages about it.
pub record IsRan {S A : Type 0} (gets : S → Message → S → Type 0) (ran : Ran A) (row : A) (first last : S) : Type 0 where
  pub is : row ≡ ran.result
  pub heard : FoldsTo gets first ran.messages last
