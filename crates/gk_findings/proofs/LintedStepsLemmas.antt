-- Why a step for which the linter finds a fault fails.
use Rattle.gk_findings.proofs.Common.{Action, AlwaysComesTo, AlwaysFails, BlockValue, Bool, CleanupAlwaysFails, Failed, FoundFaultsAreFailures, FoundValue, Level, LibraryValue, List, None, Option, Outcome, Passed, Reason, Registered, RegistersFailure, Site, Some, State, StepFault, StepSite, StepValue, StepsRunAtTheirSites, Table, Takes, [], act, action_faults, action_of, after_kind, after_of, arguments_of, arith, at_site, before_kind, before_of, block_faults, cleanup_faults, cleanup_text, codes, common_steps, doc_string, false, fault_if, faults_of, files_below, found, found_any, found_faults, has_fault, has_text, inl, inr, is_none, is_same_fault, is_some, lets_register, list_any-append, may_register, may_run_at, may_stand, not, option_or, or_cases, reason_of_fault, refl, row_of, site_faults, site_of, site_of_hook, subst, sym, text_field, true, write_below, write_table, ℕ, ◌++◌, ◌∙◌, ◌∷◌, ◌≡◌, ◌⊎◌}
use Rattle.gk_steps.specs.declared.action.Action.TheVariants as actions
use Rattle.gk_steps.specs.declared.action.Takes.TheVariants as takes
use Rattle.gk_run.specs.declared.acting.Site.TheVariants as sites
use Rattle.gk_run.specs.declared.results.Reason.TheVariants as reasons
use Rattle.gk_run.specs.declared.section.Level.TheVariants as levels
use Rattle.gk_lint.specs.declared.step_faults.StepFault.TheVariants as faults
use Rattle.gk_lint.specs.declared.step_sites.StepSite.TheVariants as lint

-- ---- the sites of hooks

before_sites : (level : Level) → may_run_at (site_of_hook (before_kind level)) (site_of (before_of level)) ≡ true
before_sites levels.Run = refl
before_sites level = refl

tag_sites : (level : Level) → may_run_at lint.Scenario (site_of (before_of level)) ≡ true
tag_sites levels.Run = refl
tag_sites level = refl

after_sites : (level : Level) → may_run_at (site_of_hook (after_kind level)) (site_of (after_of level)) ≡ true
after_sites levels.Run = refl
after_sites level = refl

pub steps_at_their_sites : StepsRunAtTheirSites
steps_at_their_sites = record { of_scenario = refl; before = before_sites; before_tag = tag_sites; after = after_sites; after_tag = λ level. refl }

-- ---- the faults of a block

-- a table that isn't one of files
rows_lack : (s : State) (rows : Option (List (List (List ℕ)))) (fault : StepFault) (why : Reason) → has_fault (fault_if (is_none rows) faults.BadTable) fault ≡ true → reason_of_fault fault ≡ Some why → (let done = write_below s rows in done.outcome) ≡ Failed why
rows_lack s None faults.BadTable why e r = cc
rows_lack s rows fault why e r = grind (arith, common_steps)

-- an action that takes this lacks it, with a field `text` or without
abbrev Lacks : Takes → Option (List ℕ) → BlockValue → Reason → Type 0
Lacks takes.Text field block why = (option_or field (doc_string block) ≡ None) × (why ≡ reasons.NoText)
Lacks takes.Table field block why = (s : State) → (let done = write_table s block in done.outcome) ≡ Failed why
Lacks takes.Nothing field block why = ⊥

lacks : (t : Takes) (field : Option (List ℕ)) (block : BlockValue) (fault : StepFault) (why : Reason) → has_fault (block_faults t (is_some field) block) fault ≡ true → reason_of_fault fault ≡ Some why → Lacks t field block why
lacks takes.Table field (Table rows) fault why e r = λ s. rows_lack s (files_below rows) fault why e r
lacks takes.Table field block fault why e r = λ s. grind (arith, common_steps)
lacks takes.Text None (Table rows) faults.NoText why e r = (refl, cc)
lacks t field block fault why e r = grind (arith, common_steps)

-- ---- an action

module _ (library : LibraryValue) (f : FoundValue) (block : BlockValue) where
  -- an action at a site of the linter always comes to this
  abbrev ActsSo : Action → StepSite → Outcome → List Registered → Type 0
  ActsSo action site outcome registered = (at : Site) (s : State) → may_run_at site at ≡ true → let effect = at_site action at library (arguments_of library f block) s in (let done = effect.done in done.outcome ≡ outcome) × (effect.registered ≡ registered)

  fails_at : (action : Action) (site : StepSite) (why : Reason) → Lacks (let row = row_of action in row.takes) (text_field library f (codes "text")) block why → ActsSo action site (Failed why) []
  fails_at actions.WriteFiles site why lack at s r = (lack s, refl)
  fails_at actions.AtCleanup site why lack at s r = absurd lack
  fails_at action site why lack at s r = (grind (arith, common_steps, lack), refl)

  not_allowed : (action : Action) (site : StepSite) → may_stand (let row = row_of action in row.does) site ≡ false → ActsSo action site (Failed reasons.NotHere) []
  not_allowed actions.SkipScenario lint.Hook e sites.Hook s r = (refl, refl)
  not_allowed actions.SkipScenario lint.Cleanup e sites.Cleanup s r = (refl, refl)
  not_allowed actions.AtCleanup lint.Cleanup e sites.Cleanup s r = (refl, refl)
  not_allowed action site e at s r = grind (arith, common_steps)

  -- the fault of a site
  site_fails : (allowed : Bool) (fault : StepFault) (why : Reason) → has_fault (fault_if (not allowed) faults.NotAllowed) fault ≡ true → reason_of_fault fault ≡ Some why → (allowed ≡ false) × (reasons.NotHere ≡ why)
  site_fails false faults.NotAllowed why e r = (refl, cc)
  site_fails allowed fault why e r = grind (arith, common_steps)

  own_fails : (action : Action) (site : StepSite) (fault : StepFault) (why : Reason) → has_fault (site_faults action site ++ block_faults (let row = row_of action in row.takes) (has_text library f) block) fault ≡ true → reason_of_fault fault ≡ Some why → ActsSo action site (Failed why) []
  own_fails action site fault why e r =
      let row = row_of action in
      let of_site = site_faults action site in
      let of_block = block_faults row.takes (has_text library f) block in
      elim (or_cases (has_fault of_site fault) (has_fault of_block fault) (sym (list_any-append (is_same_fault fault) of_site of_block) ∙ e)) [
        | inl here ↦ (let this = site_fails (may_stand row.does site) fault why here r in subst (λ (x : Reason). ActsSo action site (Failed x) []) this.1 (not_allowed action site this.0))
        | inr below ↦ fails_at action site why (lacks row.takes (text_field library f (codes "text")) block fault why below r)
      ]

cleanup_fails : (library : LibraryValue) (c : Registered) (fault : StepFault) (why : Reason) → has_fault (cleanup_faults library (Some c.found) c.block) fault ≡ true → reason_of_fault fault ≡ Some why → CleanupAlwaysFails library c why
unfolding act
cleanup_fails library c fault why e r at s = (own_fails library c.found c.block (action_of library c.found) lint.Cleanup fault why e r sites.Cleanup s refl).0

-- ---- a step

-- a run lets register where the linter does
registers_there : (site : StepSite) (at : Site) → lets_register site ≡ true → may_run_at site at ≡ true → may_register at ≡ true
registers_there lint.Scenario sites.Step may r = refl
registers_there site at may r = grind (arith, common_steps)

module _ (library : LibraryValue) (step : StepValue) (fault : StepFault) (why : Reason) (reason : reason_of_fault fault ≡ Some why) where
  abbrev Becomes : StepSite → Type 0
  Becomes site = AlwaysFails library site step why ⊎ (RegistersFailure library site step why ⊎ ((site ≡ lint.Cleanup) × AlwaysFails library site step reasons.NotHere))

  comes_to : (site : StepSite) (f : FoundValue) (outcome : Outcome) (registered : List Registered) → found library step.step_type step.text ≡ Some f
      → ActsSo library f step.block (action_of library f) site outcome registered → AlwaysComesTo library site step outcome registered
  unfolding act
  comes_to site f outcome registered e always = record { entry = f; finds = e; always = always }

  registers : (site : StepSite) (f : FoundValue) (x : Option FoundValue) → lets_register site ≡ true → action_of library f ≡ actions.AtCleanup → found library step.step_type step.text ≡ Some f
      → found_any library (cleanup_text library f) ≡ x → has_fault (cleanup_faults library x step.block) fault ≡ true → RegistersFailure library site step why
  registers site f None may is e into h = grind (arith, common_steps)
  registers site f (Some c) may is e into h =
      let cleanup : Registered = record { found = c; block = step.block } in
      (cleanup, comes_to site f Passed (cleanup ∷ []) e (rw is (λ at s r. rw (registers_there site at may r) (rw into (refl, refl)))), cleanup_fails library cleanup fault why h reason)

  by_action : (site : StepSite) (f : FoundValue) (action : Action) → action_of library f ≡ action → found library step.step_type step.text ≡ Some f
      → has_fault (site_faults action site ++ action_faults action library f step.block) fault ≡ true → Becomes site
  by_action lint.Cleanup f actions.AtCleanup is e h = inr (inr (refl, comes_to lint.Cleanup f (Failed reasons.NotHere) [] e (rw is (not_allowed library f step.block actions.AtCleanup lint.Cleanup refl))))
  by_action site f actions.AtCleanup is e h = inr (inl (registers site f (found_any library (cleanup_text library f)) refl is e refl h))
  by_action site f action is e h = inl (comes_to site f (Failed why) [] e (rw is (own_fails library f step.block action site fault why h reason)))

  by_found : (site : StepSite) (x : Option FoundValue) → found library step.step_type step.text ≡ x → has_fault (found_faults library site x step.block) fault ≡ true → Becomes site
  by_found site None e h = grind (arith, common_steps)
  by_found site (Some f) e h = by_action site f (action_of library f) refl e h

pub faults_fail : FoundFaultsAreFailures
unfolding faults_of
faults_fail library site step fault why h r = by_found library step fault why r site (found library step.step_type step.text) refl h
