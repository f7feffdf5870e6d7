-- The names from elsewhere that the proofs of this crate cite, passed on from one place. Declares nothing.
pub use Rattle.std.proofs.Common.{Bool, Err, List, None, Ok, OnOk, Option, Result, Some, [], ap, append_assoc, ap₂, arith, codes, drop, false, if◌then◌else◌, inl, inr, is_none, is_some, map, not, option_map, option_to_list, refl, string_bytes, subst, sym, take, true, ℕ, ◌++◌, ◌∙◌, ◌∷◌, ◌≡◌}
pub use Rattle.std.proofs.lemmas.Bool.{or_cases}
pub use Rattle.std.proofs.lemmas.Grind.{common_steps}
pub use Rattle.std.proofs.lemmas.Iterator.Consumers.{map_from_collect, nth_from_yields_List}
pub use Rattle.std.proofs.lemmas.Iterator.Splits.{YieldsList-from_lines}
pub use Rattle.std.proofs.lemmas.List.{append-nil}
pub use Rattle.std.proofs.lemmas.List.Concat.{flat_map-append}
pub use Rattle.std.proofs.lemmas.List.Folds.{list_any-append}
pub use Rattle.std.proofs.lemmas.Result.{on_ok_weaker}
pub use Rattle.std.specs.Option.{option_or}
pub use Rattle.std.specs.Prelude.{slice_get, ◌⊎◌}
pub use Rattle.std.specs.Result.{is_ok}
pub use Rattle.std.specs.Str.Lines.{lines}
pub use Rattle.gk_explain.specs.Shown.{unquoted}
pub use Rattle.gk_gherkin.specs.Feature.{BlockValue, FeatureValue, StepValue, Table, feature_value}
pub use Rattle.gk_gherkin.specs.Grammar.{Reads}
pub use Rattle.gk_gherkin.specs.Hooks.{hooks_value}
pub use Rattle.gk_gherkin.specs.Lines.{IsText, lines_of, without_mark}
pub use Rattle.gk_lint.specs.Blocks.{block_faults, fault_if}
pub use Rattle.gk_lint.specs.Findings.{AreInOrder, finding_values}
pub use Rattle.gk_lint.specs.Lookups.{action_faults, cleanup_faults, cleanup_text, found_faults, has_text, site_faults}
unfoldable pub use Rattle.gk_lint.specs.Lookups.{faults_of}
pub use Rattle.gk_lint.specs.NamedTags.{nowhere}
pub use Rattle.gk_lint.specs.ScenarioLines.{without_scenario}
pub use Rattle.gk_lint.specs.StepFaults.{has_fault, is_same_fault}
pub use Rattle.gk_lint.specs.StepSites.{may_register as lets_register, may_stand, site_of_hook}
pub use Rattle.gk_lint.specs.TagUse.{hooks_of_no_tag}
pub use Rattle.gk_lint.specs.WrittenSteps.{found_in, of_hooks}
pub use Rattle.gk_lint.specs.declared.step_faults.StepFault.{StepFault}
pub use Rattle.gk_lint.specs.declared.step_sites.StepSite.{StepSite}
pub use Rattle.gk_request.proofs.InputsLemmas.{at_place, first_unread, sources_unread, take_one}
pub use Rattle.gk_request.specs.Inputs.{AreRead, IsLibrary, with_reading}
pub use Rattle.gk_request.specs.Request.{bytes_of, files_value, hooks_name, library_name, request_of_files}
pub use Rattle.gk_request.specs.Source.{SourceValue, source_value}
pub use Rattle.gk_run.specs.Acting.{Registered, arguments_of, at_site, doc_string, may_register, write_below, write_table}
unfoldable pub use Rattle.gk_run.specs.Acting.{act}
pub use Rattle.gk_run.specs.Chosen.{ChosenValue}
pub use Rattle.gk_run.specs.Section.{after_of, before_of, site_of}
pub use Rattle.gk_run.specs.SectionHooks.{after_kind, before_kind}
pub use Rattle.gk_run.specs.declared.acting.Site.{Site}
pub use Rattle.gk_run.specs.declared.results.Outcome.{Outcome}
pub use Rattle.gk_run.specs.declared.results.Outcome.TheVariants.{Failed, Passed}
pub use Rattle.gk_run.specs.declared.results.Reason.{Reason}
pub use Rattle.gk_run.specs.declared.section.Level.{Level}
pub use Rattle.gk_select.specs.Case.{CaseValue}
pub use Rattle.gk_select.specs.Choice.{is_chosen}
pub use Rattle.gk_select.specs.Expansion.{IsExpandable}
pub use Rattle.gk_steps.specs.Action.{row_of}
pub use Rattle.gk_steps.specs.FilesTable.{files_below}
pub use Rattle.gk_steps.specs.Finding.{FoundValue, LibraryValue, action_of, found, found_any, library_value, text_field}
pub use Rattle.gk_steps.specs.declared.action.Action.{Action}
pub use Rattle.gk_steps.specs.declared.action.Takes.{Takes}
pub use Rattle.gk_world.specs.State.{State}
pub use Rattle.gk_findings.specs.FindingLines.{NotedLibraryValue, finding_lines, idle_lines, noted_library_value, noted_lines, tag_lines}
unfoldable pub use Rattle.gk_findings.specs.FindingLines.{tag_line}
pub use Rattle.gk_findings.specs.LintedSources.{AreExpandable, AreLinted, IsAppended, IsLintOf, IsLintedAs, IsLintedOnto, features_in, looked_up, source_findings, used_by}
pub use Rattle.gk_findings.specs.LintedSteps.{AlwaysComesTo, AlwaysFails, CleanupAlwaysFails, FoundFaultsAreFailures, RegistersFailure, StepsRunAtTheirSites, may_run_at, reason_of_fault}
pub use Rattle.gk_findings.specs.LintedSuite.{library_lines, lines_of_hooks, noted_library, read_of}
pub use Rattle.gk_findings.specs.declared.linted_sources.LintSoFar.{LintSoFar}
