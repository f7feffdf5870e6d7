-- What the faults that the linter finds in steps mean for a run.
use Rattle.std.specs.Prelude.{◌≡◌, ◌⊎◌, Bool, true, false, List, [], ◌∷◌, Option, Some, None}
use Rattle.gk_gherkin.specs.Feature.{StepValue}
use Rattle.gk_gherkin.specs.declared.hooks.HookKind.TheVariants.{BeforeTag, AfterTag}
use Rattle.gk_steps.specs.Finding.{LibraryValue, FoundValue, found}
use Rattle.gk_world.specs.State.{State}
use Rattle.gk_run.specs.declared.acting.Site.{Site}
use Rattle.gk_run.specs.declared.acting.Site.TheVariants as sites
use Rattle.gk_run.specs.declared.cleanups.Registration.{Registration}
use Rattle.gk_run.specs.declared.results.Outcome.{Outcome}
use Rattle.gk_run.specs.declared.results.Outcome.TheVariants.{Passed, Failed}
use Rattle.gk_run.specs.declared.results.Reason.{Reason}
use Rattle.gk_run.specs.declared.results.Reason.TheVariants as reasons
use Rattle.gk_run.specs.declared.section.Level.{Level}
use Rattle.gk_run.specs.Acting.{Registered, act}
use Rattle.gk_run.specs.Section.{after_of, before_of, site_of, steps_of_case}
use Rattle.gk_run.specs.SectionHooks.{after_kind, before_kind, cleanup_done}
use Rattle.gk_lint.specs.declared.step_faults.StepFault.{StepFault}
use Rattle.gk_lint.specs.declared.step_faults.StepFault.TheVariants.{NotAllowed, NoText, NoTable, BadTable}
use Rattle.gk_lint.specs.declared.step_sites.StepSite.{StepSite}
use Rattle.gk_lint.specs.declared.step_sites.StepSite.TheVariants.{Scenario, Hook, Cleanup}
use Rattle.gk_lint.specs.Lookups.{faults_of}
use Rattle.gk_lint.specs.StepFaults.{has_fault}
use Rattle.gk_lint.specs.StepSites.{site_of_hook}

-- Whether a step at a site of the linter may run at this site of a run. A before_tag hook has the linter's site of a scenario. If its tag is above a feature or a rule, it runs at the site of other hooks. (behave's documentation: environment file functions)
abbrev pub may_run_at : StepSite → Site → Bool
may_run_at Scenario sites.Cleanup = false
may_run_at Scenario _ = true
may_run_at Hook sites.Hook = true
may_run_at Hook _ = false
may_run_at Cleanup sites.Cleanup = true
may_run_at Cleanup _ = false

-- The steps of a scenario, and those of the hooks before and after a section of each level, run at such sites. (behave's documentation: environment file functions)
pub record StepsRunAtTheirSites : Type 0 where
  pub of_scenario : may_run_at Scenario (site_of steps_of_case) ≡ true
  pub before : (level : Level) → may_run_at (site_of_hook (before_kind level)) (site_of (before_of level)) ≡ true
  pub before_tag : (level : Level) → may_run_at (site_of_hook BeforeTag) (site_of (before_of level)) ≡ true
  pub after : (level : Level) → may_run_at (site_of_hook (after_kind level)) (site_of (after_of level)) ≡ true
  pub after_tag : (level : Level) → may_run_at (site_of_hook AfterTag) (site_of (after_of level)) ≡ true

-- The reason for which a step with this fault fails. An ignored block is none.
abbrev pub reason_of_fault : StepFault → Option Reason
reason_of_fault NotAllowed = Some reasons.NotHere
reason_of_fault NoText = Some reasons.NoText
reason_of_fault NoTable = Some reasons.NoTable
reason_of_fault BadTable = Some reasons.BadTable
reason_of_fault _ = None

-- A step finds an entry. Wherever a step at this site of the linter may run, and from any state, that entry's action has this outcome and registers this. What is carried out there is `act`, by a step of a run as by a cleanup.
pub record AlwaysComesTo (library : LibraryValue) (site : StepSite) (step : StepValue) (outcome : Outcome) (registered : List Registered) : Type 0 where
  pub entry : FoundValue
  pub finds : found library step.step_type step.text ≡ Some entry
  pub always : (at : Site) (s : State) → may_run_at site at ≡ true → let acted = act library at entry step.block s in (acted.done.outcome ≡ outcome) × (acted.registered ≡ registered)

-- A step at this site always fails for this reason.
abbrev pub AlwaysFails : LibraryValue → StepSite → StepValue → Reason → Type 0
AlwaysFails library site step why = AlwaysComesTo library site step (Failed why) []

-- A cleanup that was registered so fails for this reason, wherever it was registered, and from any state.
abbrev pub CleanupAlwaysFails : LibraryValue → Registered → Reason → Type 0
CleanupAlwaysFails library c why = (at : Registration) (s : State) → let done = cleanup_done library (record { found = c.found; block = c.block; at = at }) s in done.outcome ≡ Failed why

-- A step at this site always passes and registers a cleanup, which always fails for this reason.
abbrev pub RegistersFailure : LibraryValue → StepSite → StepValue → Reason → Type 0
RegistersFailure library site step why = (c : Registered) × AlwaysComesTo library site step Passed (c ∷ []) × CleanupAlwaysFails library c why

-- If the linter finds a fault with a reason, the step always fails for this reason; or it always passes and registers a cleanup that always fails for this reason. In a cleanup, where nothing may be registered, it may always fail because of that. (behave's documentation: cleanups, skipping scenarios)
abbrev pub FoundFaultsAreFailures : Type 0
FoundFaultsAreFailures = (library : LibraryValue) (site : StepSite) (step : StepValue) (fault : StepFault) (why : Reason) →
    has_fault (faults_of library site step) fault ≡ true → reason_of_fault fault ≡ Some why →
    AlwaysFails library site step why ⊎ (RegistersFailure library site step why ⊎ ((site ≡ Cleanup) × AlwaysFails library site step reasons.NotHere))
