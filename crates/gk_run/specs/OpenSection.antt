-- What stays the same during a run, and the course of a section. It is the same for the run, a feature, a rule and a scenario.
use Rattle.std.specs.Prelude.{Bool, false, List, cond, ◌&&◌, [], ◌∷◌, ◌++◌, length, map, ℕ, ◌≡◌}
use Rattle.gk_gherkin.specs.Hooks.{HookValue, hooks_value}
use Rattle.gk_gherkin.specs.declared.hooks.HookFile.{HookFile}
use Rattle.gk_steps.specs.Finding.{LibraryValue, library_value}
use Rattle.gk_steps.specs.declared.library.Library.{Library}
use Rattle.gk_run.specs.declared.section.Run as shared
use Rattle.std.specs.List.{FoldsTo}
use Rattle.gk_world.specs.Sandbox.{SandboxValue, depth}
use Rattle.gk_world.specs.State.{State, state_of}
use Rattle.gk_run.specs.declared.ending.Ending.{Ending}
use Rattle.gk_run.specs.declared.results.Status.{Status}
use Rattle.gk_run.specs.declared.section.Level.{Level}
use Rattle.gk_run.specs.Acting.{CleanupValue}
use Rattle.gk_run.specs.SectionHooks.{cleaned, after_lists, before_events, entered, walk_each}
use Rattle.gk_run.specs.Ending.{around_status, is_memory_ending, worse}
use Rattle.gk_run.specs.Events.{Event, SoFar, SectionNow, ended_in, left_by, section_now, Ran, happens}
use Rattle.gk_run.specs.Section.{Events, Cut, happened, around_of, before_passed}

-- What stays the same during a run: its step library and its hooks, whether it is a dry run, and whether it stops. It stops at the first scenario, rule or feature that is failed or memory. Nothing is carried out in a dry run. (behave's documentation: `--dry-run`, `--stop`)
pub record Run : Type 0 where
  pub library : LibraryValue
  pub hooks : List HookValue
  pub dry_run : Bool
  pub stop : Bool

-- The run with this `Library` and this `HookFile`. It isn't a dry run.
abbrev pub run_of : Library → HookFile → Bool → Run
run_of library hooks stop = record { library = library_value library; hooks = hooks_value hooks; dry_run = false; stop = stop }

-- The events of a section that starts from the state outside. Its layer is entered and its before list walked. Then come its steps, from how that ended and what it left; its after lists; its cleanups. (behave's documentation: context layers, environment file functions, cleanups)
abbrev pub events_with : (Ending → State → List Event) → Run → Level → List (List ℕ) → State → Events
events_with steps_of run level tags outside =
    let before = before_events run.library run.hooks level tags outside in
    let opened = left_by (entered outside) before in
    let steps = steps_of (ended_in before) opened.state in
    let stepped = left_by opened steps in
    let after = walk_each run.library level stepped (after_lists run.hooks level tags) in
    record { before = before; steps = steps; after = after; cleanups = cleaned run.library level (left_by stepped after) }

-- The events of a section without its own steps: of the run, a feature or a rule. The sections inside it leave nothing in it. (behave's documentation: context layers)
abbrev pub section_events : Run → Level → List (List ℕ) → State → Events
section_events = events_with (λ ended s. [])

-- The state of a section: the state outside it, entered, after the section's own before list. (behave's documentation: context layers)
abbrev pub section_state : Run → Level → List (List ℕ) → State → State
section_state run level tags outside = let opened = left_by (entered outside) (before_events run.library run.hooks level tags outside) in opened.state

-- A section in which nothing happens.
abbrev pub no_events : Events
no_events = record { before = []; steps = []; after = []; cleanups = [] }

-- The events of a section, except those of what is inside it: none if the section isn't begun; otherwise its own events, or these cut at one.
abbrev pub happened_in : Run → Level → List (List ℕ) → State → Bool → Cut → Events
happened_in run level tags outside is_begun cut = cond is_begun (happened cut (section_events run level tags outside)) no_events

-- The result of a section: how its hooks and cleanups ended, and the result of what is inside it.
pub record SectionRow (A : Type 0) : Type 0 where
  pub around : Status
  pub inside : A

-- A section, and what runs inside it from its state. What is inside is reached if the section was begun and its before list passed whole. The messages about the before list come before those about what is inside, the others after them. (behave's documentation: environment file functions)
abbrev pub section_of : {A : Type 0} → Run → Level → List (List ℕ) → State → Bool → Cut → (State → Bool → Ran A) → Ran (SectionRow A)
section_of run level tags outside is_begun cut inside =
    let events = happened_in run level tags outside is_begun cut in
    let ran = inside (section_state run level tags outside) (is_begun && before_passed events) in
    record {
      result = record { around = around_of events; inside = ran.result };
      messages = map happens events.before ++ (ran.messages ++ map happens (events.after ++ events.cleanups));
    }

-- The events of a section's before list that happened: all of them, or those up to the one in which memory was refused.
abbrev pub IsOpening : Run → Level → List (List ℕ) → State → List Event → Type 0
IsOpening run level tags outside first = SoFar false (is_memory_ending (ended_in first)) (before_events run.library run.hooks level tags outside) [] first

-- A section was begun from the state outside: these events of its before list happened, the list ended with `ended`, and `now` is the section's state and cleanups.
pub record IsBegun (run : Run) (level : Level) (tags : List (List ℕ)) (outside : State) (first : List Event) (ended : Ending) (now : SectionNow) : Type 0 where
  pub so_far : SoFar false (is_memory_ending ended) (before_events run.library run.hooks level tags outside) [] first
  pub ends : ended ≡ ended_in first
  pub leaves : now ≡ left_by (entered outside) first

-- A section was begun in its own layer, which has this number. Its before list ended like this, and these cleanups are registered in it. (behave's documentation: context layers)
pub record IsOpened (run : Run) (level : Level) (tags : List (List ℕ)) (old new : SandboxValue) (number : ℕ) (ended : Ending) (cleanups : List CleanupValue) : Type 0 where
  pub first : List Event
  pub begins : IsBegun run level tags (state_of old.now) first ended (section_now new cleanups)
  pub layer : number ≡ depth new
  pub saved : new.saved ≡ old.now ∷ old.saved
  pub starts : new.starts ≡ length old.entries ∷ old.starts

-- For some cut, a section's hooks and cleanups ended like this, with these events before and after what is inside it.
pub record IsSectionEnd (run : Run) (level : Level) (tags : List (List ℕ)) (outside : State) (around : Status) (first last : List Event) : Type 0 where
  pub cut : Cut
  pub hooks : around ≡ around_of (happened cut (section_events run level tags outside))
  pub opening : first ≡ (let e = happened cut (section_events run level tags outside) in e.before)
  pub closing : last ≡ (let e = happened cut (section_events run level tags outside) in e.after ++ e.cleanups)

-- An observer was notified of the end of a section: all of its events after what is inside it, with the same cut as its before list. Its hooks and cleanups ended like this, and these events of its before list happened.
abbrev pub NotifiesEnd : {S : Type 0} → (S → Event → S → Type 0) → Run → Level → List (List ℕ) → State → Status → List Event → S → S → Type 0
NotifiesEnd hears run level tags outside around first begin end = (last : List Event) × FoldsTo hears begin last end × IsSectionEnd run level tags outside around first last

-- The events that close a section from this state and with these cleanups: those of its after lists, and then those of its cleanups. (behave's documentation: environment file functions, cleanups)
abbrev pub closing_events : Run → Level → List (List ℕ) → SectionNow → List Event
closing_events run level tags now =
    let after = walk_each run.library level now (after_lists run.hooks level tags) in
    after ++ cleaned run.library level (left_by now after)

-- A section whose before list ended with `before` was ended from `now`. Its closing events happened: all, or those up to the one in which memory was refused; none, if it was refused before. The status is that of the worst ending among the before list and these events. If the section was begun from a state outside, this is its end.
pub record IsEndedFrom (run : Run) (level : Level) (tags : List (List ℕ)) (before : Ending) (now : SectionNow) (around : Status) (last : List Event) : Type 0 where
  pub so_far : SoFar (is_memory_ending before) (is_memory_ending (worse before (ended_in last))) (closing_events run level tags now) [] last
  pub hooks : around ≡ around_status (worse before (ended_in last))
  pub whole : (outside : State) (first : List Event) → IsBegun run level tags outside first before now → IsSectionEnd run level tags outside around first last

-- A section was ended like this, and an observer was notified of the events that happened.
abbrev pub EndsAround : {S : Type 0} → (S → Event → S → Type 0) → Run → Level → List (List ℕ) → Ending → SectionNow → Status → S → S → Type 0
EndsAround hears run level tags before now around begin end = (last : List Event) × FoldsTo hears begin last end × IsEndedFrom run level tags before now around last

-- Proof machinery: the value of the code's `Run`.
abbrev pub run_value : shared.Run → Run
run_value r = run_of r.library.now r.hooks.now.file.now r.stop
