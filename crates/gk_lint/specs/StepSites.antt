-- Sites at which steps are carried out, and the actions that are allowed there.
use Rattle.std.specs.Prelude.{Bool, true, false}
use Rattle.gk_gherkin.specs.declared.hooks.HookKind.{HookKind}
use Rattle.gk_gherkin.specs.declared.hooks.HookKind.TheVariants as kinds
use Rattle.gk_steps.specs.declared.action.Does.{Does}
use Rattle.gk_steps.specs.declared.action.Does.TheVariants.{Registers, Skips}
use Rattle.gk_lint.specs.declared.step_sites.StepSite.{StepSite}
use Rattle.gk_lint.specs.declared.step_sites.StepSite.TheVariants.{Scenario, Hook, Cleanup}

-- The site of a hook's steps. A hook before a tag counts as a scenario's, since its tag may be above one. (behave's documentation: environment file functions)
abbrev pub site_of_hook : HookKind → StepSite
site_of_hook kinds.BeforeScenario = Scenario
site_of_hook kinds.BeforeTag = Scenario
site_of_hook kind = Hook

-- A step of a scenario, or of a hook before it, may skip the scenario. (behave's documentation: skipping scenarios)
abbrev pub may_skip : StepSite → Bool
may_skip Scenario = true
may_skip Hook = false
may_skip Cleanup = false

-- Any step except that of a cleanup may register a cleanup. (behave's documentation: cleanups)
abbrev pub may_register : StepSite → Bool
may_register Scenario = true
may_register Hook = true
may_register Cleanup = false

-- Whether an action that does this is allowed at a site. An action that isn't allowed always fails there.
abbrev pub may_stand : Does → StepSite → Bool
may_stand Registers site = may_register site
may_stand Skips site = may_skip site
may_stand _ site = true
