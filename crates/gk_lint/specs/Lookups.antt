-- Faults of a step as it is run, and the entries of the library that it finds.
use Rattle.std.specs.Prelude.{codes, not, ℕ, Bool, List, [], ◌∷◌, ◌++◌, flat_map, Option, Some, None, is_some, unwrap_or}
use Rattle.gk_gherkin.specs.Feature.{BlockValue, StepValue}
use Rattle.gk_steps.specs.declared.action.Action.{Action}
use Rattle.gk_steps.specs.declared.action.Action.TheVariants as actions
use Rattle.gk_steps.specs.Action.{row_of}
use Rattle.gk_steps.specs.Finding.{LibraryValue, FoundValue, found, found_any, action_of, text_field}
use Rattle.gk_lint.specs.Blocks.{block_faults, fault_if}
use Rattle.gk_lint.specs.declared.step_faults.StepFault.{StepFault}
use Rattle.gk_lint.specs.declared.step_faults.StepFault.TheVariants.{NotAllowed}
use Rattle.gk_lint.specs.declared.step_sites.StepSite.{StepSite}
use Rattle.gk_lint.specs.declared.step_sites.StepSite.TheVariants.{Cleanup}
use Rattle.gk_lint.specs.StepSites.{may_stand}

-- The text of the step that `at_cleanup` registers. (behave's documentation: cleanups)
abbrev pub cleanup_text : LibraryValue → FoundValue → List ℕ
cleanup_text library f = unwrap_or (text_field library f (codes "step")) []

-- Whether the entry that was found has a field `text`.
abbrev pub has_text : LibraryValue → FoundValue → Bool
has_text library f = is_some (text_field library f (codes "text"))

-- The fault of an action at a site: that it always fails there.
abbrev pub site_faults : Action → StepSite → List StepFault
site_faults action site = fault_if (not (may_stand (row_of action).does site)) NotAllowed

-- The faults of a cleanup, by what its text finds among the entries of type `step`. It is carried out with the block of the step that registered it. (behave's documentation: cleanups)
abbrev pub cleanup_faults : LibraryValue → Option FoundValue → BlockValue → List StepFault
cleanup_faults library None block = []
cleanup_faults library (Some f) block = site_faults (action_of library f) Cleanup ++ block_faults (row_of (action_of library f)).takes (has_text library f) block

-- The faults of a step whose entry has this action. `at_cleanup` passes the block to the cleanup.
abbrev pub action_faults : Action → LibraryValue → FoundValue → BlockValue → List StepFault
action_faults actions.AtCleanup library f block = cleanup_faults library (found_any library (cleanup_text library f)) block
action_faults action library f block = block_faults (row_of action).takes (has_text library f) block

-- The faults of a step that is carried out at a site, by what its text finds.
abbrev pub found_faults : LibraryValue → StepSite → Option FoundValue → BlockValue → List StepFault
found_faults library site None block = []
found_faults library site (Some f) block = site_faults (action_of library f) site ++ action_faults (action_of library f) library f block

-- The faults of a step as it is run at a site: an action isn't allowed at its site, or the block is not what the action works with. (behave's documentation: step implementations, cleanups, skipping scenarios)
unfoldable pub faults_of : LibraryValue → StepSite → StepValue → List StepFault
faults_of library site step = found_faults library site (found library step.step_type step.text) step.block

-- The position of the entry that was found, if there is one.
abbrev pub position_of : Option FoundValue → List ℕ
position_of None = []
position_of (Some f) = f.entry ∷ []

-- The position of the entry that a cleanup finds, if the action registers one.
abbrev pub cleanup_positions : Action → LibraryValue → FoundValue → List ℕ
cleanup_positions actions.AtCleanup library f = position_of (found_any library (cleanup_text library f))
cleanup_positions action library f = []

-- The position of the entry that was found, and that of the entry that its cleanup finds.
abbrev pub found_positions : LibraryValue → Option FoundValue → List ℕ
found_positions library None = []
found_positions library (Some f) = f.entry ∷ cleanup_positions (action_of library f) library f

-- The positions of the entries that a step finds as it is run: its own entry, and that of the cleanup that it registers.
unfoldable pub positions_of : LibraryValue → StepValue → List ℕ
positions_of library step = found_positions library (found library step.step_type step.text)

-- The faults of steps as they are run at a site, one step after the other.
abbrev pub faults_in : LibraryValue → StepSite → List StepValue → List StepFault
faults_in library site steps = flat_map (faults_of library site) steps

-- The positions of the entries that steps find as they are run, one step after the other.
abbrev pub positions_in : LibraryValue → List StepValue → List ℕ
positions_in library steps = flat_map (positions_of library) steps
