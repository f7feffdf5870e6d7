-- The hooks and the cleanups of a section: the run, a feature, a rule or a scenario.
use Rattle.std.specs.Prelude.{cond, List, [], ◌∷◌, ◌++◌, map, Option, Some, None, ℕ, reverse}
use Rattle.gk_gherkin.specs.Feature.{StepValue}
use Rattle.gk_gherkin.specs.Hooks.{HookValue, is_for}
use Rattle.gk_gherkin.specs.declared.hooks.HookKind.{HookKind}
use Rattle.gk_gherkin.specs.declared.hooks.HookKind.TheVariants as kinds
use Rattle.gk_steps.specs.Finding.{LibraryValue}
use Rattle.gk_world.specs.State.{State, enter}
use Rattle.gk_run.specs.declared.section.Level.{Level}
use Rattle.gk_run.specs.declared.section.Level.TheVariants as levels
use Rattle.gk_run.specs.Events.{Event, SectionNow, left_by, of_cleanup}
use Rattle.gk_run.specs.Section.{after_of, before_of}
use Rattle.gk_run.specs.Walk.{walk}
use Rattle.gk_run.specs.declared.acting.Site.TheVariants as sites
use Rattle.gk_run.specs.Acting.{CleanupValue, Done, done_of, act}

-- The kind of the hook before a section. (behave's documentation: environment file functions)
abbrev pub before_kind : Level → HookKind
before_kind levels.Run = kinds.BeforeAll
before_kind levels.Feature = kinds.BeforeFeature
before_kind levels.Rule = kinds.BeforeRule
before_kind levels.Scenario = kinds.BeforeScenario

-- The kind of the hook after a section. (behave's documentation: environment file functions)
abbrev pub after_kind : Level → HookKind
after_kind levels.Run = kinds.AfterAll
after_kind levels.Feature = kinds.AfterFeature
after_kind levels.Rule = kinds.AfterRule
after_kind levels.Scenario = kinds.AfterScenario

-- The steps of a hook. A hook that isn't in the hooks file has none.
abbrev pub hook_steps : List HookValue → HookKind → Option (List ℕ) → List StepValue
hook_steps [] kind tag = []
hook_steps (hook ∷ hooks) kind tag = cond (is_for hook kind tag) hook.steps (hook_steps hooks kind tag)

-- The before list of a section: the steps of its before_tag hooks, one hook for each place in its tag list, and then those of its before hook. (behave's documentation: environment file functions)
abbrev pub before_list : List HookValue → Level → List (List ℕ) → List StepValue
before_list hooks level [] = hook_steps hooks (before_kind level) None
before_list hooks level (tag ∷ tags) = hook_steps hooks kinds.BeforeTag (Some tag) ++ before_list hooks level tags

-- The lists of after_tag hooks, one list for each place in a tag list. (behave's documentation: environment file functions)
abbrev pub tag_lists : List HookValue → List (List ℕ) → List (List StepValue)
tag_lists hooks tags = map (λ tag. hook_steps hooks kinds.AfterTag (Some tag)) tags

-- The after lists of a section: that of its after hook, and then those of its after_tag hooks. (behave's documentation: environment file functions)
abbrev pub after_lists : List HookValue → Level → List (List ℕ) → List (List StepValue)
after_lists hooks level tags = hook_steps hooks (after_kind level) None ∷ tag_lists hooks tags

-- The beginning of a section: its layer is entered, with no cleanups yet. (behave's documentation: context layers)
abbrev pub entered : State → SectionNow
entered outside = record { state = enter outside; cleanups = [] }

-- The events of a section's before list, which is walked as one list from the state outside.
abbrev pub before_events : LibraryValue → List HookValue → Level → List (List ℕ) → State → List Event
before_events library hooks level tags outside = walk library (before_of level) (enter outside) (before_list hooks level tags)

-- The events of after lists. Each list is walked by itself, from the state that the one before left, whatever the others did.
abbrev pub walk_each : LibraryValue → Level → SectionNow → List (List StepValue) → List Event
walk_each library level section [] = []
walk_each library level section (steps ∷ others) =
    let this = walk library (after_of level) section.state steps in
    this ++ walk_each library level (left_by section this) others

-- What a cleanup leaves.
abbrev pub cleanup_done : LibraryValue → CleanupValue → State → Done
cleanup_done library c s = done_of (act library sites.Cleanup c.found c.block s)

-- The events of cleanups. Each runs from the state that the one before left, whatever the others did. (behave's documentation: cleanups)
abbrev pub clean_each : LibraryValue → Level → State → List CleanupValue → List Event
clean_each library level s [] = []
clean_each library level s (c ∷ cs) = let done = cleanup_done library c s in of_cleanup level c done.outcome done.state ∷ clean_each library level done.state cs

-- The events of registered cleanups, which run last in, first out. (behave's documentation: cleanups)
abbrev pub cleaned : LibraryValue → Level → SectionNow → List Event
cleaned library level section = clean_each library level section.state (reverse section.cleanups)
