-- Running the cases of a section: each has the result that plain maps give it alone from its section's state.
use Rattle.std.specs.List.{FoldsTo, list_all}
use Rattle.std.specs.Prelude.{ℕ, suc, List, [], map, ◌≡◌, Bool, cond, ◌∷◌, ◌++◌, ◌&&◌, not, ◌||◌}
use Rattle.gk_select.specs.Case.{CaseValue}
use Rattle.gk_world.specs.State.{State}
use Rattle.gk_run.specs.declared.results.Mark.{Mark}
use Rattle.gk_run.specs.declared.results.Mark.TheVariants.{Skipped}
use Rattle.gk_run.specs.declared.results.Status.{Status}
use Rattle.gk_run.specs.declared.results.Status.TheVariants as statuses
use Rattle.gk_run.specs.declared.section.Level.TheVariants as levels
use Rattle.gk_run.specs.Ending.{verdict_status}
use Rattle.gk_run.specs.Events.{Event, ended_in, event_marks, outcomes_of, Ended, of_case, Ran, Message, happens, has_ended}
use Rattle.gk_run.specs.Results.{CaseRow, is_failed, is_memory}
use Rattle.gk_run.specs.OpenSection.{Run, events_with}
use Rattle.gk_run.specs.Section.{Events, Cut, around_of, happened, in_order, nowhere}
use Rattle.gk_run.specs.Walk.{rows_of_steps, steps_from}
use Rattle.gk_run.specs.Chosen.{MemberValue}

-- The events of a case that starts from its section's state and enters its own layer: its before list, its steps, its after lists and its cleanups. (behave's documentation: context layers, environment file functions, cleanups)
abbrev pub alone : Run → State → CaseValue → Events
alone run section c = events_with (λ ended s. steps_from run.library ended s c.steps) run levels.Scenario c.own_tags section

-- The verdict of a case with these events: how its hooks' steps, its steps and its cleanups ended together.
abbrev pub verdict_of : Events → Status
verdict_of e = verdict_status (ended_in (in_order e))

-- The result of a case with this verdict and these events.
abbrev pub row_of_case : CaseValue → Status → Events → CaseRow
row_of_case c verdict e = record { keyword = c.keyword; name = c.name; line = c.line; status = verdict; around = around_of e; cleanups = outcomes_of e.cleanups; steps = rows_of_steps c.steps (event_marks e.steps) }

-- The result of a case that is reached: that of the case alone, or that cut at one event.
abbrev pub reached_row : Run → State → Cut → CaseValue → CaseRow
reached_row run section cut c = let e = happened cut (alone run section c) in row_of_case c (verdict_of e) e

-- The result of a case in which nothing happens, with this verdict and these marks of its steps.
abbrev pub unrun_row : CaseValue → Status → List Mark → CaseRow
unrun_row c verdict marks = record { keyword = c.keyword; name = c.name; line = c.line; status = verdict; around = statuses.Passed; cleanups = []; steps = rows_of_steps c.steps marks }

-- The same mark for each step of a case.
abbrev pub same_marks : Mark → CaseValue → List Mark
same_marks mark c = map (λ step. mark) c.steps

-- The result of an unselected case: it and its steps are skipped. (behave's documentation: `--tags`)
abbrev pub unselected_row : CaseValue → CaseRow
unselected_row c = unrun_row c statuses.Skipped (same_marks Skipped c)

-- The result of a selected case that isn't reached: it and its steps are untested.
abbrev pub unreached_row : CaseValue → CaseRow
unreached_row c = unrun_row c statuses.Untested []

-- A case's result is the case's alone, cut at one event or nowhere.
abbrev pub IsReached : Run → State → CaseValue → CaseRow → Type 0
IsReached run section c row = (cut : Cut) × (row ≡ reached_row run section cut c)

-- An observer was notified of the events of a case with this result, in order: those of the case alone, or these cut at one. The result is that of the same cut.
pub record NotifiesEvents {S : Type 0} (hears : S → Event → S → Type 0) (run : Run) (section : State) (c : CaseValue) (row : CaseRow) (old new : S) : Type 0 where
  pub cut : Cut
  pub is : row ≡ reached_row run section cut c
  pub messages : FoldsTo hears old (in_order (happened cut (alone run section c))) new

-- An observer was notified of the case at an index of its feature, with this result: its events, and then that it has ended.
abbrev pub NotifiesCase : {S : Type 0} → (S → Event → S → Type 0) → (S → Ended → S → Type 0) → Run → State → ℕ → CaseValue → CaseRow → S → S → Type 0
NotifiesCase {S} hears ends run section index c row old new = (heard : S) × NotifiesEvents hears run section c row old heard × ends heard (of_case index row) new

-- The first element of a list, or another if the list is empty.
abbrev pub first_or : {A : Type 0} → A → List A → A
first_or other [] = other
first_or other (x ∷ xs) = x

-- A list without its first element.
abbrev pub without_first : {A : Type 0} → List A → List A
without_first [] = []
without_first (x ∷ xs) = xs

-- Whether a status is failed or memory.
abbrev pub is_failed_or_memory : Status → Bool
is_failed_or_memory status = is_failed status || is_memory status

-- Whether what comes next is still reached: the run doesn't stop at a failure, or this status is neither failed nor memory.
abbrev pub stays_open_by : Bool → Status → Bool
stays_open_by stop status = not (stop && is_failed_or_memory status)

-- Whether what comes next in a run is still reached. (behave's documentation: `--stop`)
abbrev pub stays_open : Run → Status → Bool
stays_open run status = stays_open_by run.stop status

-- Whether what comes after these cases is still reached. (behave's documentation: `--stop`)
abbrev pub all_stay_open : Run → List CaseRow → Bool
all_stay_open run rows = list_all (λ (row : CaseRow). stays_open run row.status) rows

-- The result of a case. An unselected case is skipped. A case that is reached has the result of the case alone from its section's state, or of that cut at one event. Any other case is untested.
abbrev pub case_of : Run → State → Bool → Cut → MemberValue → CaseRow
case_of run section is_open cut m = cond m.selected (cond is_open (reached_row run section cut m.scenario) (unreached_row m.scenario)) (unselected_row m.scenario)

-- The events of a case. If it is selected and reached, they are those of the case alone, or these cut at one; otherwise there are none.
abbrev pub case_events : Run → State → Bool → Cut → MemberValue → List Event
case_events run section is_open cut m = cond (m.selected && is_open) (in_order (happened cut (alone run section m.scenario))) []

-- The results of a section's cases, in order. Each starts from the section's state: the others leave nothing in it. A selected one is reached if the section is open so far. (behave's documentation: context layers)
abbrev pub case_rows : Run → State → Bool → List Cut → List MemberValue → List CaseRow
case_rows run section is_open cuts [] = []
case_rows run section is_open cuts (m ∷ ms) =
    let row = case_of run section is_open (first_or nowhere cuts) m in
    row ∷ case_rows run section (is_open && stays_open run row.status) (without_first cuts) ms

-- The messages about a section's cases, the first of which has this index in its feature: of each its events, and then its end.
abbrev pub cases_messages : ℕ → Run → State → Bool → List Cut → List MemberValue → List Message
cases_messages index run section is_open cuts [] = []
cases_messages index run section is_open cuts (m ∷ ms) =
    let cut = first_or nowhere cuts in
    let row = case_of run section is_open cut m in
    map happens (case_events run section is_open cut m) ++ has_ended (of_case index row) ∷ cases_messages (suc index) run section (is_open && stays_open run row.status) (without_first cuts) ms

-- A section's cases in order, the first of which has this index in its feature.
abbrev pub cases_of : ℕ → Run → State → Bool → List Cut → List MemberValue → Ran (List CaseRow)
cases_of index run section is_open cuts members = record { result = case_rows run section is_open cuts members; messages = cases_messages index run section is_open cuts members }

-- The verdicts of cases.
abbrev pub case_statuses : List CaseRow → List Status
case_statuses rows = map (λ (row : CaseRow). row.status) rows
