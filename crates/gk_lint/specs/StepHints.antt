-- Hints for undefined steps and for cleanups without a step.
use Rattle.std.specs.Prelude.{ℕ, List, [], ◌∷◌, Option, Some, None}
use Rattle.std.specs.Option.{option_or}
use Rattle.gk_gherkin.specs.Feature.{StepValue}
use Rattle.gk_steps.specs.declared.action.Action.{Action}
use Rattle.gk_steps.specs.declared.action.Action.TheVariants as actions
use Rattle.gk_steps.specs.Finding.{LibraryValue, FoundValue, found, found_any, action_of}
use Rattle.gk_lint.specs.Lookups.{cleanup_text}
use Rattle.gk_lint.specs.EntryHints.{entry_hint}
use Rattle.gk_lint.specs.Findings.{HintValue}

-- The hint for a text, if it finds no entry.
abbrev pub hint_unless_found : LibraryValue → List ℕ → Option FoundValue → Option HintValue
hint_unless_found library text None = Some (entry_hint library text)
hint_unless_found library text (Some f) = None

-- The hint for a step as it is run, if it is undefined.
unfoldable pub step_hint : LibraryValue → StepValue → Option HintValue
step_hint library step = hint_unless_found library step.text (found library step.step_type step.text)

-- The hint for the cleanup that an action registers, if its text finds no entry of type `step`. (behave's documentation: cleanups)
abbrev pub registered_hint : Action → LibraryValue → FoundValue → Option HintValue
registered_hint actions.AtCleanup library f = hint_unless_found library (cleanup_text library f) (found_any library (cleanup_text library f))
registered_hint action library f = None

-- The same for the action of the entry that was found.
abbrev pub found_hint : LibraryValue → Option FoundValue → Option HintValue
found_hint library None = None
found_hint library (Some f) = registered_hint (action_of library f) library f

-- The hint for the cleanup that a step registers as it is run, if its text finds no entry of type `step`.
unfoldable pub cleanup_hint : LibraryValue → StepValue → Option HintValue
cleanup_hint library step = found_hint library (found library step.step_type step.text)

-- The hint for the first of some steps that has one.
abbrev pub first_hint : (StepValue → Option HintValue) → List StepValue → Option HintValue
first_hint hint_of [] = None
first_hint hint_of (step ∷ steps) = option_or (hint_of step) (first_hint hint_of steps)
