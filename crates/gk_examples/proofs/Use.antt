-- What is found of steps, libraries, names, hooks and lines, worked by computation.
use Rattle.std.proofs.Common.{codes, ◌≡◌, ℕ, true, false, List, [], ◌∷◌, Option, Some, None, refl}
use Rattle.std.specs.Str.{chars, is_utf8}
use lib.Utf8
use Rattle.gk_gherkin.specs.declared.feature.StepType.TheVariants.{Given}
use Rattle.gk_gherkin.specs.declared.hooks.HookKind.TheVariants.{BeforeTag, AfterTag}
use Rattle.gk_gherkin.specs.Feature.{Empty, Text, Table, StepValue, ExamplesValue, ScenarioValue, FeatureValue}
use Rattle.gk_gherkin.specs.Hooks.{HookValue}
use Rattle.gk_select.specs.TagGrammar.{one_term, or_terms, one_factor, and_factors, tagged, negated}
use Rattle.gk_select.specs.Filling.{filled, filled_from, cell_of}
use Rattle.gk_steps.specs.declared.action.Action.TheVariants.{FileIs, WriteFiles, FileExists, SetValue, AtCleanup, Pass, SkipScenario}
use Rattle.gk_steps.specs.declared.pattern.FieldKind.TheVariants.{Plain}
use Rattle.gk_steps.specs.Action.{row_of}
use Rattle.gk_steps.specs.Pattern.{Literal, FieldPiece}
use Rattle.gk_steps.specs.Matching.{match_of}
use Rattle.gk_steps.specs.Finding.{LibraryValue, found, found_any}
use Rattle.gk_world.specs.State.{State}
use Rattle.gk_run.specs.declared.section.Part.TheVariants.{Steps}
use Rattle.gk_run.specs.declared.results.Mark.TheVariants.{Acted}
use Rattle.gk_run.specs.declared.results.Outcome.TheVariants.{Passed, Failed}
use Rattle.gk_run.specs.declared.results.Reason.TheVariants.{NotHere}
use Rattle.gk_run.specs.Acting.{CleanupValue, act}
use Rattle.gk_run.specs.Section.{steps_of_case}
use Rattle.gk_run.specs.SectionHooks.{cleanup_done}
use Rattle.gk_run.specs.Walk.{one_step}
use Rattle.gk_lint.specs.declared.findings.FindingKind.TheVariants.{NameTwice, OfStep, UnusedEntry, HookOfNoTag}
use Rattle.gk_lint.specs.declared.step_faults.StepFault.TheVariants.{NotAllowed, NoText, NoTable, BadTable, IgnoredText, IgnoredTable}
use Rattle.gk_lint.specs.Findings.{at_line, named_once}
use Rattle.gk_lint.specs.StepFaults.{step_faults}
use Rattle.gk_lint.specs.declared.step_sites.StepSite.TheVariants.{Scenario, Cleanup}
use Rattle.gk_lint.specs.StepSites.{site_of_hook}
use Rattle.gk_lint.specs.Lookups.{site_faults, faults_of}
use Rattle.gk_lint.specs.Blocks.{block_faults}
use Rattle.gk_lint.specs.WrittenSteps.{rows_of, runs}
use Rattle.gk_lint.specs.LibraryUse.{unused_entries}
use Rattle.gk_lint.specs.ScenarioNames.{same_names, scenarios_of}
use Rattle.gk_lint.specs.TagUse.{hooks_of_no_tag}
use Rattle.gk_lint.specs.ScenarioLines.{without_scenario}
use Rattle.gk_lint.specs.NamedTags.{nowhere}

-- However many rows have a fault, it is named once.
once : named_once step_faults 3 (NoText ∷ NotAllowed ∷ NoText ∷ []) ≡ at_line 3 (OfStep NotAllowed) ∷ at_line 3 (OfStep NoText) ∷ []
once = refl

-- A check of a file with no text, with a doc string, with both, and with a table; and a check that works with no text.
no_text : block_faults (row_of FileIs).takes false Empty ≡ NoText ∷ []
no_text = refl

doc_string : block_faults (row_of FileIs).takes false (Text (codes "red")) ≡ []
doc_string = refl

field_and_doc_string : block_faults (row_of FileIs).takes true (Text (codes "red")) ≡ IgnoredText ∷ []
field_and_doc_string = refl

table_for_text : block_faults (row_of SetValue).takes false (Table ((codes "red" ∷ []) ∷ [])) ≡ NoText ∷ IgnoredTable ∷ []
table_for_text = refl

text_for_none : block_faults (row_of FileExists).takes false (Text (codes "red")) ≡ IgnoredText ∷ []
text_for_none = refl

-- A scenario is skipped in a hook before a tag, and neither in one after it nor in a cleanup, which registers nothing.
skip_before_tag : site_faults SkipScenario (site_of_hook BeforeTag) ≡ []
skip_before_tag = refl

skip_after_tag : site_faults SkipScenario (site_of_hook AfterTag) ≡ NotAllowed ∷ []
skip_after_tag = refl

register_after_tag : site_faults AtCleanup (site_of_hook AfterTag) ≡ []
register_after_tag = refl

register_in_cleanup : site_faults AtCleanup Cleanup ≡ NotAllowed ∷ []
register_in_cleanup = refl

-- A cleanup that skips, which isn't allowed there: the step that registers it passes in a run, and the cleanup fails.
with_cleanups : LibraryValue
with_cleanups =
    record { line = 1; step_type = None; pattern = Literal (codes "at last ") ∷ FieldPiece (codes "step") Plain ∷ []; action = AtCleanup }
    ∷ record { line = 2; step_type = None; pattern = Literal (codes "it is over") ∷ []; action = SkipScenario }
    ∷ []

at_last : StepValue
at_last = record { keyword = codes "Given"; step_type = Given; text = codes "at last it is over"; block = Empty; line = 3 }

over : CleanupValue
over = record { found = record { entry = 1; fields = [] }; block = Empty; at = record { part = Steps; line = 3 } }

cleanup_not_allowed : faults_of with_cleanups Scenario at_last ≡ NotAllowed ∷ []
unfolding with_cleanups at_last faults_of found found_any match_of is_utf8 chars lib.Utf8.encode
cleanup_not_allowed = refl

its_step_passes : (s : State) → let this = one_step with_cleanups steps_of_case s at_last in (this.mark ≡ Acted Passed) × (this.registered ≡ over ∷ [])
unfolding with_cleanups at_last over act found found_any match_of is_utf8 chars lib.Utf8.encode
its_step_passes s = (refl, refl)

it_fails : (s : State) → let done = cleanup_done with_cleanups over s in done.outcome ≡ Failed NotHere
unfolding with_cleanups over act
it_fails s = refl

-- A table of files, another one, and none.
files : block_faults (row_of WriteFiles).takes false (Table ((codes "name" ∷ codes "text" ∷ []) ∷ (codes "a" ∷ codes "1" ∷ []) ∷ [])) ≡ []
files = refl

other_columns : block_faults (row_of WriteFiles).takes false (Table ((codes "text" ∷ codes "name" ∷ []) ∷ [])) ≡ BadTable ∷ []
other_columns = refl

no_table : block_faults (row_of WriteFiles).takes false (Text (codes "red")) ≡ NoTable ∷ IgnoredText ∷ []
no_table = refl

-- An outline's step is run once for each row, and a scenario's as it is.
step : StepValue
step = record { keyword = codes "Given"; step_type = Given; text = codes "<x>"; block = Empty; line = 4 }

part : ExamplesValue
part = record { name = []; line = 6; tags = codes "@e" ∷ []; header = codes "x" ∷ []; rows = record { line = 8; cells = codes "1" ∷ [] } ∷ record { line = 9; cells = codes "2" ∷ [] } ∷ [] }

scenario : List ExamplesValue → ScenarioValue
scenario examples = record { keyword = codes "Scenario"; name = codes "S"; line = 3; tags = []; steps = step ∷ []; examples = examples }

in_outline : runs (rows_of (scenario (part ∷ []))) step ≡ record step { text = codes "1" } ∷ record step { text = codes "2" } ∷ []
unfolding scenario part step filled filled_from cell_of
in_outline = refl

in_plain : runs (rows_of (scenario [])) step ≡ step ∷ []
unfolding scenario
in_plain = refl

-- The second of two entries isn't used.
library : LibraryValue
library =
    record { line = 2; step_type = None; pattern = Literal (codes "a") ∷ []; action = Pass }
    ∷ record { line = 4; step_type = None; pattern = Literal (codes "b") ∷ []; action = Pass }
    ∷ []

second_unused : unused_entries (0 ∷ 0 ∷ []) library ≡ at_line 4 UnusedEntry ∷ []
unfolding library
second_unused = refl

both_used : unused_entries (1 ∷ 0 ∷ []) library ≡ []
unfolding library
both_used = refl

-- Two scenarios with one name, of which the second stands in a rule; an outline in it.
feature : FeatureValue
feature = record { name = codes "F"; line = 1; tags = codes "@f" ∷ []; background = None; scenarios = scenario [] ∷ []; rules = record { name = codes "R"; line = 4; tags = []; background = None; scenarios = record (scenario (part ∷ [])) { line = 5 } ∷ [] } ∷ [] }

second_named : same_names (scenarios_of feature) ≡ at_line 5 NameTwice ∷ []
unfolding feature scenario
second_named = refl

-- Hooks for tags of the feature and of Examples, for one that stands nowhere, and for no tag.
hook : Option (List ℕ) → HookValue
hook tag = record { kind = BeforeTag; tag = tag; line = 7; steps = [] }

one_idle : hooks_of_no_tag (feature ∷ []) (hook (Some (codes "@f")) ∷ hook (Some (codes "@e")) ∷ hook (Some (codes "@g")) ∷ hook None ∷ []) ≡ at_line 7 HookOfNoTag ∷ []
unfolding feature scenario part hook
one_idle = refl

-- Of the tags that two rules name, one stands nowhere and is named by both, and a negated one stands nowhere, too; those of the feature and of Examples stand somewhere.
named_nowhere : nowhere (feature ∷ []) (one_term (and_factors (tagged (codes "@f")) (one_factor (tagged (codes "@g")))) ∷ or_terms (one_factor (negated (tagged (codes "@h")))) (or_terms (one_factor (tagged (codes "@e"))) (one_term (one_factor (tagged (codes "@g"))))) ∷ [])
    ≡ codes "@g" ∷ codes "@h" ∷ codes "@g" ∷ []
unfolding feature scenario part
named_nowhere = refl

-- The scenario and the rows have lines that choose, and neither the outline's heading nor another line has.
two_lines : without_scenario (feature ∷ []) (3 ∷ 5 ∷ 8 ∷ 10 ∷ []) ≡ 5 ∷ 10 ∷ []
unfolding feature scenario part
two_lines = refl
