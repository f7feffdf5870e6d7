-- Proof machinery: definitions for the contracts of the private functions that walk through a section and that run cases, rules and features.
use Rattle.std.specs.List.{FoldsTo}
use Rattle.std.specs.Prelude.{List, [], ◌∷◌, ◌++◌, map, ◌≡◌, Some, None, ℕ, length, Bool, true, false, String}
use Rattle.gk_gherkin.specs.Feature.{StepValue, step_value, texts}
use Rattle.gk_gherkin.specs.Hooks.{hooks_value}
use Rattle.gk_gherkin.specs.declared.feature.Step.{Step}
use Rattle.gk_steps.specs.Finding.{LibraryValue, library_value, found, HasCandidateFor}
use Rattle.gk_world.specs.Sandbox.{SandboxValue}
use Rattle.gk_world.specs.State.{State, state_of}
use Rattle.gk_run.specs.declared.acting.Used.{Used}
use Rattle.gk_run.specs.declared.observer.StepDone.{StepDone}
use Rattle.gk_run.specs.declared.section_end.Closed.{Closed}
use Rattle.gk_run.specs.declared.ending.Ending.{Ending}
use Rattle.gk_run.specs.declared.ending.Ending.TheVariants as endings
use Rattle.gk_run.specs.declared.open_section.OpenSection.{OpenSection}
use Rattle.gk_run.specs.declared.results.Reserved.{Reserved}
use Rattle.gk_run.specs.declared.results.StepResult.{StepResult}
use Rattle.gk_run.specs.declared.results.Mark.{Mark}
use Rattle.gk_run.specs.declared.results.Mark.TheVariants.{Acted, Skipped, Untested}
use Rattle.gk_run.specs.declared.results.Outcome.{Outcome}
use Rattle.gk_run.specs.declared.results.Outcome.TheVariants as outcomes
use Rattle.gk_run.specs.declared.section.Run as shared
use Rattle.gk_run.specs.declared.section.Level.{Level}
use Rattle.gk_run.specs.declared.section.Stage.{Stage}
use Rattle.gk_run.specs.declared.section.Section.{Section}
use Rattle.gk_run.specs.declared.walk.StepsEnd.{StepsEnd}
use Rattle.gk_run.specs.Acting.{CleanupValue, WritesFirst, use_value}
use Rattle.gk_run.specs.SectionHooks.{cleaned, after_lists, before_list, walk_each}
use Rattle.gk_run.specs.Ending.{is_memory_ending, worse}
use Rattle.gk_run.specs.Events.{Event, SoFar, of_step, SectionNow, ended_in, event_marks, left_by, outcomes_of, section_now, used_in, Ended, IsRan, Message, notifies}
use Rattle.gk_run.specs.OpenSection.{IsOpened, SectionRow, section_of, run_value, Run}
use Rattle.gk_run.specs.Results.{step_row, CaseRow, FeatureRow, case_row, rule_row}
use Rattle.gk_run.specs.Section.{steps_of_case, before_of, Cut}
use Rattle.gk_run.specs.Walk.{IsLookedUp, Stepped, one_step, rows_of_steps, steps_from, walk}
use Rattle.std.specs.declared.alloc.Global.{Global}
use Rattle.gk_run.specs.declared.cases.Member.{Member}
use Rattle.gk_run.specs.declared.cases.RuleCases.{RuleCases}
use Rattle.gk_run.specs.declared.cases.Content.{Content}
use Rattle.gk_run.specs.declared.features.FeatureEnd.{FeatureEnd}
use Rattle.gk_run.specs.declared.features.InsideResults.{InsideResults}
use Rattle.gk_run.specs.declared.results.CaseResult.{CaseResult}
use Rattle.gk_run.specs.declared.results.RuleResult.{RuleResult}
use Rattle.gk_run.specs.declared.rules.RuleEnd.{RuleEnd}
use Rattle.gk_run.specs.declared.section.Level.TheVariants as levels
use Rattle.gk_run.specs.Running.{all_stay_open, case_events, case_of, cases_of}
use Rattle.gk_run.specs.Chosen.{ChosenValue, HeadValue, MemberValue, Group, groups_from, groups_in, members_in, members_of_rank}
use Rattle.gk_run.specs.Features.{NotifiesFeature, NotifiesFeatureInPart, NotifiesInPart, inside_by, Inside, RuleCuts, rule_of, rule_stays_open, rules_of}

-- Events of a section happened and an observer was notified of them, with `rest` left. `before` is how the section had ended before them, `ended` how it has ended now, and `now` its state and cleanups.
pub record Goes {S : Type 0} (hears : S → Event → S → Type 0) (before : Ending) (all rest : List Event) (start now : SectionNow) (ended : Ending) (first last : S) : Type 0 where
  pub messages : List Event
  pub heard : FoldsTo hears first messages last
  pub so_far : SoFar (is_memory_ending before) (is_memory_ending ended) all rest messages
  pub ends : ended ≡ worse before (ended_in messages)
  pub leaves : now ≡ left_by start messages

-- All of these events happened, or those up to the one in which memory was refused.
abbrev pub Happens : {S : Type 0} → (S → Event → S → Type 0) → Ending → List Event → SectionNow → SectionNow → Ending → S → S → Type 0
Happens hears before all start now ended first last = Goes hears before all [] start now ended first last

-- ---- steps

-- A step was carried out as it should be, or memory was refused in it and no cleanup was registered.
abbrev pub IsStepRun : Stepped → List CleanupValue → Mark → State → List CleanupValue → Type 0
IsStepRun this cleanups (Acted outcomes.Memory) new new_cleanups = new_cleanups ≡ cleanups
IsStepRun this cleanups mark new new_cleanups = (mark ≡ this.mark) × (new ≡ this.state) × (new_cleanups ≡ cleanups ++ this.registered)

-- The next step of a case that has ended so far with this ending.
abbrev pub IsNext : LibraryValue → Ending → State → List CleanupValue → StepValue → Mark → State → List CleanupValue → Type 0
IsNext library endings.Passed s cleanups step mark new new_cleanups = IsStepRun (one_step library steps_of_case s step) cleanups mark new new_cleanups
IsNext library endings.Failed s cleanups step mark new new_cleanups = IsLookedUp library Skipped step mark × (new ≡ s) × (new_cleanups ≡ cleanups)
IsNext library endings.Skipped s cleanups step mark new new_cleanups = (mark ≡ Skipped) × (new ≡ s) × (new_cleanups ≡ cleanups)
IsNext library endings.Memory s cleanups step mark new new_cleanups = (mark ≡ Untested) × (new ≡ s) × (new_cleanups ≡ cleanups)

-- A step was carried out at a stage.
abbrev pub RunsStep : shared.Run → Stage → Step → SandboxValue → List CleanupValue → Mark → SandboxValue → List CleanupValue → Type 0
RunsStep run stage step old cleanups mark new new_cleanups =
    IsStepRun (one_step (library_value run.library.now) stage (state_of old.now) (step_value step)) cleanups mark (state_of new.now) new_cleanups

-- What was done for a step whose action had this outcome. If memory was refused in it, no action counts as carried out, and no cleanup was registered.
abbrev pub IsDoneBy : Used → Outcome → Bool → StepDone → Type 0
IsDoneBy used outcomes.Memory registered done = (used_in done ≡ None) × (done.registered ≡ false)
IsDoneBy used outcome registered done = (used_in done ≡ Some (use_value used)) × (done.registered ≡ registered)

-- The event of a step that was carried out at a stage with this mark, and left this state.
abbrev pub happened_as : Stage → StepValue → Stepped → Mark → State → Event
happened_as stage step this (Acted outcomes.Memory) new = of_step stage step (Acted outcomes.Memory) None [] new
happened_as stage step this mark new = of_step stage step mark this.used this.registered new

-- An observer was notified of a step that was carried out at a stage.
abbrev pub NotifiesStep : {S : Type 0} → (S → Event → S → Type 0) → shared.Run → Stage → Step → SandboxValue → Mark → SandboxValue → S → S → Type 0
NotifiesStep hears run stage step old mark new first last =
    let this = step_value step in
    hears first (happened_as stage this (one_step (library_value run.library.now) stage (state_of old.now) this) mark (state_of new.now)) last

-- If no entry matches a step, memory is refused in it only if its text has the ends of an entry.
abbrev pub StepNeedsCandidate : shared.Run → Step → Mark → Type 0
StepNeedsCandidate run step mark =
    let library = library_value run.library.now in
    let this = step_value step in
    found library this.step_type this.text ≡ None → mark ≡ Acted outcomes.Memory → HasCandidateFor library this.step_type this.text

-- If memory was refused in a step, its action made some number of its changes, from the first on, and no others.
abbrev pub StepKeepsAtMemory : shared.Run → Stage → Step → SandboxValue → Mark → SandboxValue → Type 0
StepKeepsAtMemory run stage step old mark new =
    let this = one_step (library_value run.library.now) stage (state_of old.now) (step_value step) in
    mark ≡ Acted outcomes.Memory → WritesFirst this.files old new

-- The steps of a hook were walked through at a stage.
abbrev pub WalksHook : {S : Type 0} → (S → Event → S → Type 0) → shared.Run → Stage → List Step → SandboxValue → List CleanupValue → Ending → SandboxValue → List CleanupValue → S → S → Type 0
WalksHook hears run stage steps old cleanups ended new new_cleanups first last =
    Happens hears endings.Passed (walk (library_value run.library.now) stage (state_of old.now) (map step_value steps)) (section_now old cleanups) (section_now new new_cleanups) ended first last

-- The next step of a case was taken. The case had ended so far with `ending`.
abbrev pub TakesNext : shared.Run → Ending → Step → SandboxValue → List CleanupValue → Mark → SandboxValue → List CleanupValue → Type 0
TakesNext run ending step old cleanups mark new new_cleanups =
    IsNext (library_value run.library.now) ending (state_of old.now) cleanups (step_value step) mark (state_of new.now) new_cleanups

-- The event of the next step of a case that has ended so far with this ending. Nothing happens if memory was refused before.
abbrev pub next_event : LibraryValue → Ending → State → StepValue → Mark → State → List Event
next_event library endings.Memory s step mark new = []
next_event library endings.Passed s step mark new = happened_as steps_of_case step (one_step library steps_of_case s step) mark new ∷ []
next_event library _ s step mark new = of_step steps_of_case step mark None [] new ∷ []

-- An observer was notified of the next step of a case that had ended so far with `ending`.
abbrev pub NotifiesNext : {S : Type 0} → (S → Event → S → Type 0) → shared.Run → Ending → Step → SandboxValue → Mark → SandboxValue → S → S → Type 0
NotifiesNext hears run ending step old mark new first last =
    FoldsTo hears first (next_event (library_value run.library.now) ending (state_of old.now) (step_value step) mark (state_of new.now)) last

-- The steps of a case whose before list ended with `before` were run, and their results are those of the events of which an observer was notified.
pub record RunsSteps {S : Type 0} (hears : S → Event → S → Type 0) (run : shared.Run) (before : Ending) (steps : Reserved Step StepResult) (old : SandboxValue) (cleanups : List CleanupValue) (end : StepsEnd) (new : SandboxValue) (new_cleanups : List CleanupValue) (first last : S) : Type 0 where
  pub goes : Happens hears before (steps_from (library_value run.library.now) before (state_of old.now) (map step_value steps.list.items)) (section_now old cleanups) (section_now new new_cleanups) end.ending first last
  pub rows : map step_row end.results.items ≡ rows_of_steps (map step_value steps.list.items) (event_marks goes.messages)

-- ---- hooks

-- A section's before list was walked through.
abbrev pub WalksBefore : {S : Type 0} → (S → Event → S → Type 0) → shared.Run → Section → SandboxValue → List CleanupValue → Ending → SandboxValue → List CleanupValue → S → S → Type 0
WalksBefore hears run section old cleanups ended new new_cleanups first last =
    Happens hears endings.Passed (walk (library_value run.library.now) (before_of section.level) (state_of old.now) (before_list (hooks_value run.hooks.now.file.now) section.level (texts section.tags.now))) (section_now old cleanups) (section_now new new_cleanups) ended first last

-- Each of a section's after lists was walked through by itself.
abbrev pub WalksAfter : {S : Type 0} → (S → Event → S → Type 0) → shared.Run → Section → SandboxValue → List CleanupValue → Ending → SandboxValue → List CleanupValue → S → S → Type 0
WalksAfter hears run section old cleanups ended new new_cleanups first last =
    Happens hears endings.Passed (walk_each (library_value run.library.now) section.level (section_now old cleanups) (after_lists (hooks_value run.hooks.now.file.now) section.level (texts section.tags.now))) (section_now old cleanups) (section_now new new_cleanups) ended first last

-- ---- a section

-- A section was begun, and an observer was notified of its before list.
abbrev pub Opens : {S : Type 0} → (S → Event → S → Type 0) → shared.Run → Section → SandboxValue → OpenSection → SandboxValue → S → S → Type 0
Opens hears run section old opened new first last =
    (is : IsOpened (run_value run) section.level (texts section.tags.now) old new opened.layer opened.before opened.cleanups) × FoldsTo hears first is.first last

-- Cleanups were run, the last first, and their outcomes are those of the events of which an observer was notified.
pub record Cleans {S : Type 0} (hears : S → Event → S → Type 0) (run : shared.Run) (level : Level) (registered : List CleanupValue) (old : SandboxValue) (closed : Closed) (new : SandboxValue) (first last : S) : Type 0 where
  pub goes : Happens hears endings.Passed (cleaned (library_value run.library.now) level (section_now old registered)) (section_now old registered) (section_now new registered) closed.ending first last
  pub outcomes : closed.outcomes.items ≡ outcomes_of goes.messages

-- The after lists of a section and then its cleanups happened. `before` is how the section had ended before them, `ended` how these ended, and `reported` the outcomes of the cleanups.
pub record IsClosing {S : Type 0} (hears : S → Event → S → Type 0) (library : LibraryValue) (level : Level) (lists : List (List StepValue)) (before : Ending) (start : SectionNow) (ended : Ending) (reported : List Outcome) (first last : S) : Type 0 where
  pub here : S
  pub mid : SectionNow
  pub now : SectionNow
  pub between : Ending
  pub end : Ending
  pub after : Happens hears before (walk_each library level start lists) start mid between first here
  pub cleanups : Happens hears between (cleaned library level mid) mid now end here last
  pub ending : ended ≡ ended_in (after.messages ++ cleanups.messages)
  pub outcomes : reported ≡ outcomes_of cleanups.messages

-- A section that had ended with `before` was closed. After refused memory nothing more happened in it.
abbrev pub Closes : {S : Type 0} → (S → Event → S → Type 0) → Ending → shared.Run → Section → List CleanupValue → SandboxValue → Closed → S → S → Type 0
Closes hears before run section registered old closed first last =
    IsClosing hears (library_value run.library.now) section.level (after_lists (hooks_value run.hooks.now.file.now) section.level (texts section.tags.now)) before (section_now old registered) closed.ending closed.outcomes.items first last

-- ---- cases

-- The result of a case, and the messages about it, are those of some cut, from its section's state if the section is open.
abbrev pub IsMember : {S : Type 0} → (S → Event → S → Type 0) → Run → State → Bool → MemberValue → CaseRow → S → S → Type 0
IsMember hears run now is_open m row first last =
    (section : State) → (is_open ≡ true → now ≡ section) → (cut : Cut) × (row ≡ case_of run section is_open cut m) × FoldsTo hears first (case_events run section is_open cut m) last

-- The rows of cases, the first of which has this index in its feature, and the messages about them, are those of some cuts, from the section's state if they are reached.
abbrev pub AreCases : {S : Type 0} → (S → Message → S → Type 0) → ℕ → Run → State → Bool → List MemberValue → List CaseRow → S → S → Type 0
AreCases gets index run now is_open members rows first last =
    (section : State) → (is_open ≡ true → now ≡ section) → (cuts : List Cut) × IsRan gets (cases_of index run section is_open cuts members) rows first last

-- An observer got messages about a part of some cases, for some cuts, from the section's state if they are reached.
abbrev pub AreCasesInPart : {S : Type 0} → (S → Message → S → Type 0) → ℕ → Run → State → Bool → List MemberValue → S → S → Type 0
AreCasesInPart gets index run now is_open members first last =
    (section : State) → (is_open ≡ true → now ≡ section) → (cuts : List Cut) × NotifiesInPart gets (cases_of index run section is_open cuts members) first last

-- Cases were run in a section, and their results were added to those of the cases before them in the feature. `is_open` says whether the section is open, `stays_open` whether what comes after them is still reached.
pub record RunsCases {S : Type 0} (hears : S → Event → S → Type 0) (ends : S → Ended → S → Type 0) (run : Run) (now : State) (is_open : Bool) (members : List MemberValue) (old new : List CaseResult) (first last : S) (stays_open : Bool) : Type 0 where
  pub rows : List CaseRow
  pub added : map case_row new ≡ map case_row old ++ rows
  pub are : AreCases (notifies hears ends) (length old) run now is_open members rows first last
  pub stay : stays_open ≡ all_stay_open run rows

-- ---- rules

-- Cases are divided: those in no rule are a feature's own, and each other case is among those of its rule.
pub record AreDivided (heads : List HeadValue) (members : List MemberValue) (own : List Member) (rules : List RuleCases) : Type 0 where
  pub unruled : members_in own ≡ members_of_rank 0 members
  pub ruled : groups_in rules ≡ groups_from 1 heads members

-- The result of a rule, whose first case has this index in its feature, and the messages about it, are those of some cuts, from its feature's state if the feature is open.
abbrev pub IsRule : {S : Type 0} → (S → Message → S → Type 0) → ℕ → Run → State → Bool → Group → SectionRow (List CaseRow) → S → S → Type 0
IsRule gets index run now is_open g end first last =
    (outside : State) → (is_open ≡ true → now ≡ outside) → (cuts : RuleCuts) × IsRan gets (rule_of index run outside is_open cuts g) end first last

-- An observer got messages about a part of a rule, for some cuts, from its feature's state if the feature is open.
abbrev pub IsRuleInPart : {S : Type 0} → (S → Message → S → Type 0) → ℕ → Run → State → Bool → Group → S → S → Type 0
IsRuleInPart gets index run now is_open g first last =
    (outside : State) → (is_open ≡ true → now ≡ outside) → (cuts : RuleCuts) × NotifiesInPart gets (rule_of index run outside is_open cuts g) first last

-- An observer got messages about a part of some rules, for some cuts, from their feature's state if the feature is open.
abbrev pub AreRulesInPart : {S : Type 0} → (S → Message → S → Type 0) → ℕ → Run → State → Bool → List Group → S → S → Type 0
AreRulesInPart gets index run now is_open groups first last =
    (outside : State) → (is_open ≡ true → now ≡ outside) → (cuts : List RuleCuts) × NotifiesInPart gets (rules_of index run outside is_open cuts groups) first last

-- A rule was run in a feature, and the results of its cases were added to those of the cases before them. `is_open` says whether the feature is open.
pub record RunsRule {S : Type 0} (hears : S → Event → S → Type 0) (ends : S → Ended → S → Type 0) (run : Run) (now : State) (is_open : Bool) (g : Group) (old new : List CaseResult) (first last : S) (end : RuleEnd) : Type 0 where
  pub rows : List CaseRow
  pub added : map case_row new ≡ map case_row old ++ rows
  pub is : IsRule (notifies hears ends) (length old) run now is_open g (record { around = end.around; inside = rows }) first last
  pub stay : end.stays_open ≡ rule_stays_open run (record { around = end.around; inside = rows })

-- Rules were run in a feature. Their results, and the messages about them, are those of some cuts, from the feature's state if it is open.
pub record RunsRules {S : Type 0} (hears : S → Event → S → Type 0) (ends : S → Ended → S → Type 0) (run : Run) (now : State) (is_open : Bool) (groups : List Group) (old new : List CaseResult) (results : List RuleResult) (first last : S) : Type 0 where
  pub rows : List CaseRow
  pub added : map case_row new ≡ map case_row old ++ rows
  pub are : (outside : State) → (is_open ≡ true → now ≡ outside) → (cuts : List RuleCuts)
      × IsRan (notifies hears ends) (rules_of (length old) run outside is_open cuts groups) (record { rules = map rule_row results; cases = rows }) first last

-- ---- a feature

-- The results of what is inside a section, and the messages about it, are those of some cuts, from the section's state if the section is open.
abbrev pub IsInside : {S : Type 0} → (S → Message → S → Type 0) → Run → State → Bool → List MemberValue → List Group → Inside → S → S → Type 0
IsInside gets run now is_open own groups inside first last =
    (section : State) → (is_open ≡ true → now ≡ section) → (cuts : List Cut) × (rule_cuts : List RuleCuts) × IsRan gets (inside_by run section is_open cuts rule_cuts own groups) inside first last

-- The result of a feature's section, and the messages about it, are those of some cuts, from the run's state if the feature is begun.
abbrev pub IsFeatureEnd : {S : Type 0} → (S → Message → S → Type 0) → Run → State → Bool → List (List ℕ) → List MemberValue → List Group → SectionRow Inside → S → S → Type 0
IsFeatureEnd gets run now is_begun tags own groups end first last =
    (outside : State) → (is_begun ≡ true → now ≡ outside) → (cut : Cut) × (cuts : List Cut) × (rule_cuts : List RuleCuts)
    × IsRan gets (section_of run levels.Feature tags outside is_begun cut (λ section is_open. inside_by run section is_open cuts rule_cuts own groups)) end first last

-- An observer got messages about a part of what is inside a section, for some cuts, from the section's state if the section is open.
abbrev pub IsInsideInPart : {S : Type 0} → (S → Message → S → Type 0) → Run → State → Bool → List MemberValue → List Group → S → S → Type 0
IsInsideInPart gets run now is_open own groups first last =
    (section : State) → (is_open ≡ true → now ≡ section) → (cuts : List Cut) × (rule_cuts : List RuleCuts) × NotifiesInPart gets (inside_by run section is_open cuts rule_cuts own groups) first last

-- An observer got messages about a part of a feature's section, for some cuts, from the run's state if the feature is begun.
abbrev pub IsFeatureEndInPart : {S : Type 0} → (S → Message → S → Type 0) → Run → State → Bool → List (List ℕ) → List MemberValue → List Group → S → S → Type 0
IsFeatureEndInPart gets run now is_begun tags own groups first last =
    (outside : State) → (is_begun ≡ true → now ≡ outside) → (cut : Cut) × (cuts : List Cut) × (rule_cuts : List RuleCuts)
    × NotifiesInPart gets (section_of run levels.Feature tags outside is_begun cut (λ section is_open. inside_by run section is_open cuts rule_cuts own groups)) first last

-- The value of an `InsideResults`.
abbrev pub inside_value : InsideResults → Inside
inside_value i = record { rules = map rule_row i.rules.items; cases = map case_row i.cases.items }

-- What is inside a feature was run. `is_open` says whether the feature is open.
abbrev pub RunsInside : {S : Type 0} → (S → Event → S → Type 0) → (S → Ended → S → Type 0) → shared.Run → State → Bool → Content → S → S → InsideResults → Type 0
RunsInside hears ends run now is_open content first last inside =
    IsInside (notifies hears ends) (run_value run) now is_open (members_in content.own.items) (groups_in content.rules.list.items) (inside_value inside) first last

-- An observer got messages about a part of what is inside a feature.
abbrev pub StopsInside : {S : Type 0} → (S → Event → S → Type 0) → (S → Ended → S → Type 0) → shared.Run → State → Bool → Content → S → S → Type 0
StopsInside hears ends run now is_open content first last =
    IsInsideInPart (notifies hears ends) (run_value run) now is_open (members_in content.own.items) (groups_in content.rules.list.items) first last

-- A feature ran, or wasn't begun, and ended like this.
abbrev pub EndsFeature : {S : Type 0} → (S → Event → S → Type 0) → (S → Ended → S → Type 0) → shared.Run → State → Bool → List (String Global) → Content → S → S → FeatureEnd → Type 0
EndsFeature hears ends run now is_begun tags content first last end =
    IsFeatureEnd (notifies hears ends) (run_value run) now is_begun (texts tags) (members_in content.own.items) (groups_in content.rules.list.items) (record { around = end.around; inside = inside_value end.inside }) first last

-- An observer got messages about a part of a feature that ran, or wasn't begun.
abbrev pub StopsFeatureEnd : {S : Type 0} → (S → Event → S → Type 0) → (S → Ended → S → Type 0) → shared.Run → State → Bool → List (String Global) → Content → S → S → Type 0
StopsFeatureEnd hears ends run now is_begun tags content first last =
    IsFeatureEndInPart (notifies hears ends) (run_value run) now is_begun (texts tags) (members_in content.own.items) (groups_in content.rules.list.items) first last

-- The result of a feature, and the messages about it, are those of some cuts, from the run's state if the run is open.
abbrev pub RunsFeature : {S : Type 0} → (S → Event → S → Type 0) → (S → Ended → S → Type 0) → Run → State → Bool → ChosenValue → S → S → FeatureRow → Type 0
RunsFeature hears ends run now is_open f first last row = (outside : State) → (is_open ≡ true → now ≡ outside) → NotifiesFeature hears ends run outside is_open f row first last

-- An observer got messages about a part of a feature, for some cuts, from the run's state if the run is open.
abbrev pub StopsFeature : {S : Type 0} → (S → Event → S → Type 0) → (S → Ended → S → Type 0) → Run → State → Bool → ChosenValue → S → S → Type 0
StopsFeature hears ends run now is_open f first last = (outside : State) → (is_open ≡ true → now ≡ outside) → NotifiesFeatureInPart hears ends run outside is_open f first last
