-- Steps of a feature and of a hooks file, as they are written and as they are run.
use Rattle.std.specs.List.{AllByRecursion, list_any}
use Rattle.std.specs.Prelude.{◌≡◌, ℕ, Bool, ◌||◌, List, [], ◌∷◌, ◌++◌, map, flat_map, Option, Some, None, option_map, if◌then◌else◌}
use Rattle.std.specs.Option.{option_or}
use Rattle.gk_gherkin.specs.Feature.{StepValue, RowValue, ExamplesValue, BackgroundValue, ScenarioValue, RuleValue, FeatureValue}
use Rattle.gk_gherkin.specs.Hooks.{HookValue}
use Rattle.gk_select.specs.Case.{CaseValue}
use Rattle.gk_select.specs.Expansion.{cases}
use Rattle.gk_select.specs.Filling.{filled, filled_step}
use Rattle.gk_select.specs.Inherited.{background_steps}
use Rattle.gk_select.specs.Outline.{AllFit, is_outline}
use Rattle.gk_steps.specs.Finding.{LibraryValue}
use Rattle.gk_lint.specs.StepFaults.{step_faults}
use Rattle.gk_lint.specs.declared.findings.FindingKind.TheVariants.{UndefinedStep, CleanupWithoutStep}
use Rattle.gk_lint.specs.declared.lookups.Lookups.{Lookups}
use Rattle.gk_lint.specs.ExampleParts.{part_value}
use Rattle.gk_lint.specs.declared.written_steps.Runs.{Runs}
use Rattle.gk_lint.specs.declared.written_steps.Runs.TheVariants.{AsWritten, InRows}
use Rattle.gk_lint.specs.declared.written_steps.StepFindings.{StepFindings}
use Rattle.gk_lint.specs.declared.step_sites.StepSite.{StepSite}
use Rattle.gk_lint.specs.declared.step_sites.StepSite.TheVariants as sites
use Rattle.gk_lint.specs.StepSites.{site_of_hook}
use Rattle.gk_lint.specs.Findings.{FindingValue, finding_values, hint_value, with_hint, named_once}
use Rattle.gk_lint.specs.ScenarioNames.{scenarios_of}
use Rattle.gk_lint.specs.Lookups.{faults_in, positions_in}
use Rattle.gk_lint.specs.StepHints.{step_hint, cleanup_hint, first_hint}

-- A step as it is written: its line, its site, and the steps that it is run as.
pub record WrittenStep : Type 0 where
  pub line : ℕ
  pub site : StepSite
  pub runs : List StepValue

-- A step filled from each of some rows under a header. (Cucumber's Gherkin reference: scenario outline)
abbrev pub in_rows : StepValue → List (List ℕ) → List RowValue → List StepValue
in_rows step header rows = map (λ (r : RowValue). filled_step (filled header r.cells) step) rows

-- A step filled from each row of Examples. (Cucumber's Gherkin reference: scenario outline)
abbrev pub in_examples : StepValue → List ExamplesValue → List StepValue
in_examples step examples = flat_map (λ (e : ExamplesValue). in_rows step e.header e.rows) examples

-- The steps that a step is run as: one for each row of Examples, if there are any to run it with, and otherwise the step itself. (Cucumber's Gherkin reference: scenario outline)
abbrev pub runs : Option (List ExamplesValue) → StepValue → List StepValue
runs None step = step ∷ []
runs (Some examples) step = in_examples step examples

-- The Examples with whose rows the steps of a scenario are run: those of an outline. (Cucumber's Gherkin reference: scenario outline)
abbrev pub rows_of : ScenarioValue → Option (List ExamplesValue)
rows_of s = if is_outline s then Some s.examples else None

-- A step at a site, and the steps that it is run as.
abbrev pub written : StepSite → Option (List ExamplesValue) → StepValue → WrittenStep
written site rows step = record { line = step.line; site = site; runs = runs rows step }

-- Steps at a site, and the steps that each is run as.
abbrev pub all_written : StepSite → Option (List ExamplesValue) → List StepValue → List WrittenStep
all_written site rows steps = map (written site rows) steps

-- The steps of a scenario.
abbrev pub of_scenario : ScenarioValue → List WrittenStep
of_scenario s = all_written sites.Scenario (rows_of s) s.steps

-- The steps of scenarios, one scenario after the other.
abbrev pub of_scenarios : List ScenarioValue → List WrittenStep
of_scenarios scenarios = flat_map of_scenario scenarios

-- The steps of a Background, if there is one. (Cucumber's Gherkin reference: background)
abbrev pub of_background : Option BackgroundValue → List WrittenStep
of_background background = all_written sites.Scenario None (background_steps background)

-- The steps of the Backgrounds of rules, one rule after the other. (Cucumber's Gherkin reference: rule)
abbrev pub of_rules : List RuleValue → List WrittenStep
of_rules rules = flat_map (λ (r : RuleValue). of_background r.background) rules

-- The steps of a feature: those of its Background, of those of its rules, and of all its scenarios. (Cucumber's Gherkin reference: feature)
abbrev pub of_feature : FeatureValue → List WrittenStep
of_feature f = of_background f.background ++ (of_rules f.rules ++ of_scenarios (scenarios_of f))

-- The steps of all Backgrounds of a feature: its own, and those of its rules. (Cucumber's Gherkin reference: background)
abbrev pub background_steps_of : FeatureValue → List StepValue
background_steps_of f = background_steps f.background ++ flat_map (λ (r : RuleValue). background_steps r.background) f.rules

-- The written steps of a feature are run as the steps of its cases and of its Backgrounds. Any test holds for one of the former if and only if it holds for one of the latter. So each step of a case is looked up, and no other step except those of a Background that no case has.
abbrev pub LooksUpWhatIsRun : Type 0
LooksUpWhatIsRun = (f : FeatureValue) (asked : StepValue → Bool) → list_any asked (flat_map (λ (w : WrittenStep). w.runs) (of_feature f)) ≡ (list_any asked (flat_map (λ (c : CaseValue). c.steps) (cases f)) || list_any asked (background_steps_of f))

-- The steps of hooks, one hook after the other. (behave's documentation: environment file functions)
abbrev pub of_hooks : List HookValue → List WrittenStep
of_hooks hooks = flat_map (λ (h : HookValue). all_written (site_of_hook h.kind) None h.steps) hooks

-- Proof machinery: the Examples with whose rows steps are run.
abbrev pub runs_value : Runs → Option (List ExamplesValue)
runs_value AsWritten = None
runs_value (InRows parts) = Some (map part_value parts.items)

-- Proof machinery: each row of these Examples has as many cells as its header.
abbrev pub RunsFit : Option (List ExamplesValue) → Type 0
RunsFit None = Unit {0}
RunsFit (Some examples) = AllByRecursion AllFit examples

-- Proof machinery: these steps were looked up at a site, after others. `new` has their faults, the positions of the entries that they find, and the first hints.
pub record AreLookedUp (library : LibraryValue) (site : StepSite) (steps : List StepValue) (old new : Lookups) : Type 0 where
  pub faults : new.faults.items ≡ old.faults.items ++ faults_in library site steps
  pub used : new.used.items ≡ old.used.items ++ positions_in library steps
  pub undefined : option_map hint_value new.undefined ≡ option_or (option_map hint_value old.undefined) (first_hint (step_hint library) steps)
  pub cleanup : option_map hint_value new.cleanup ≡ option_or (option_map hint_value old.cleanup) (first_hint (cleanup_hint library) steps)

-- The findings of a written step: that at least one of the steps that it is run as is undefined, or registers a cleanup without a step, each with the hint for the first of them; and each fault of at least one of them.
abbrev pub at_step : LibraryValue → WrittenStep → List FindingValue
at_step library written = with_hint written.line UndefinedStep (first_hint (step_hint library) written.runs) ++ (with_hint written.line CleanupWithoutStep (first_hint (cleanup_hint library) written.runs) ++ named_once step_faults written.line (faults_in library written.site written.runs))

-- The findings of written steps, one step after the other.
abbrev pub found_in : LibraryValue → List WrittenStep → List FindingValue
found_in library written = flat_map (at_step library) written

-- The positions of the entries that written steps find, one step after the other.
abbrev pub used_in : LibraryValue → List WrittenStep → List ℕ
used_in library written = flat_map (λ (w : WrittenStep). positions_in library w.runs) written

-- Proof machinery: these written steps were looked up after others. `new` has their findings, and the positions of the entries that they find.
pub record AreAdded (library : LibraryValue) (steps : List WrittenStep) (old new : StepFindings) : Type 0 where
  pub found : finding_values new.findings.items ≡ finding_values old.findings.items ++ found_in library steps
  pub used : new.used.items ≡ old.used.items ++ used_in library steps
