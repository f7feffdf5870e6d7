-- The names from elsewhere that the proofs of this crate cite, passed on from one place. Declares nothing.
pub use Rattle.std.proofs.Common.{All, Bool, Bor, Decides, Err, FitsSigned, Global, IfOk, List, MatchOption, None, Ok, OnErr, Option, Result, Some, String, Vec, [], ap, append-nil, append_assoc, arith, cond, drop, eq-eqb, false, find, flat_map, get_or, inl, inr, is_some, le-leb, leb-true, length, map, nat_eq, nat_le, not, of_z, option_copied, option_map, refl, reverse, rules, slice_get, string_bytes, subst, suc, sym, take, to_z, to_z-of_z, true, true≢false, vec_capacity, vec_len, w64, zero, ℕ, ℤ, ◌&&◌, ◌++◌, ◌+ℤ◌, ◌+◌, ◌-◌, ◌<◌, ◌||◌, ◌↔◌, ◌∙◌, ◌∷◌, ◌≡◌, ◌≢◌, ◌≤◌, ◌⊎◌}
pub use Rattle.std.proofs.lemmas.Bool.{eqb-false, eqb-true, ne_eqb}
pub use Rattle.std.proofs.lemmas.Bool.Decides.{Decides-and, Decides-at, Decides-by_and, Decides-like, Decides-ltb}
pub use Rattle.std.proofs.lemmas.Cmp.{nat_list_cmp_total}
pub use Rattle.std.proofs.lemmas.Fmt.{length_signed_le}
pub use Rattle.std.proofs.lemmas.Grind.{common_steps}
pub use Rattle.std.proofs.lemmas.List.{at_drop_all, at_drop_more, drop_all, length-append, length-map, map-append, map_push, reverse-append}
pub use Rattle.std.proofs.lemmas.List.Folds.{list_any-append}
pub use Rattle.std.proofs.lemmas.Map.Text.{is_eq-slice_cmp}
pub use Rattle.std.proofs.lemmas.Option.{none-some, same_Some}
pub use Rattle.std.proofs.lemmas.Slice.Eq.{bytes_eq-Decides}
pub use Rattle.std.specs.FinMap.{get-insert, get-remove}
pub use Rattle.std.specs.Fmt.{signed_decimal}
pub use Rattle.std.specs.List.{AllZip, FoldsTo, list_all, list_any}
pub use Rattle.std.specs.Option.{option_map_or}
pub use Rattle.std.specs.Prelude.{OnOk, bytes_eq, is_none, negsuc, pos, unwrap_or, ⊤}
pub use Rattle.std.specs.Slice.{IsItemAt}
pub use Rattle.std.specs.Vec.Iter.{into_iter_items, into_iter_len}
pub use lib.ListN.{get_or as slice_index_or, set as slice_set}
pub use Rattle.gk_gherkin.specs.Feature.{BlockValue, StepValue, Table, block_value, step_value, texts}
pub use Rattle.gk_gherkin.specs.Hooks.{HookValue, hooks_value, is_for}
pub use Rattle.gk_gherkin.specs.Text.{contains}
pub use Rattle.gk_gherkin.specs.declared.feature.Block.{Block}
pub use Rattle.gk_gherkin.specs.declared.hooks.HookFile.{HookFile}
pub use Rattle.gk_gherkin.specs.declared.hooks.HookKind.{HookKind}
pub use Rattle.gk_select.specs.Case.{CaseValue, case_value}
pub use Rattle.gk_select.specs.RuleOrder.{FallFrom, rank}
pub use Rattle.gk_select.specs.declared.case.Case.{Case}
pub use Rattle.gk_steps.specs.Action.{ActionRowValue}
pub use Rattle.gk_steps.specs.Decimal.{is_i64, number_of}
pub use Rattle.gk_steps.specs.FilesTable.{files_below}
pub use Rattle.gk_steps.specs.Finding.{FoundValue, HasCandidateFor, HasUsedFields, IsUseOf, LibraryValue, action_of, found, found_value, library_value}
pub use Rattle.gk_steps.specs.declared.action.Action.{Action}
pub use Rattle.gk_steps.specs.declared.action.Does.{Does}
pub use Rattle.gk_steps.specs.declared.action.Does.TheVariants.{Changes, Checks, Registers, Skips}
pub use Rattle.gk_steps.specs.declared.library.Library.{Library}
pub use Rattle.gk_steps.specs.declared.used_fields.FoundUse.{FoundUse}
pub use Rattle.gk_steps.specs.declared.used_fields.UsedFields.{UsedFields}
pub use Rattle.gk_world.specs.Refusals.{IsAnswer, IsFault, first_true, is_bad_name, is_too_long, joined, rename_refusal}
pub use Rattle.gk_world.specs.Sandbox.{Becomes, IsSame, KeepsLayers, SandboxValue}
pub use Rattle.gk_world.specs.State.{Contents, Map, State, Texts, enter, laid, nothing_yet, see, state_of, with_text, without}
pub use Rattle.gk_world.specs.declared.refusals.WorldFault.{WorldFault}
pub use Rattle.gk_run.specs.Acting.{ActionEffect, ArgumentsValue, CleanupValue, Done, HasRegistered, IsActed, IsDone, Performs, Registered, UseValue, WritesFile, WritesFirst, add_number, agrees, and_then, arguments_by_uses, arguments_of, arguments_value, at_site, called, cleanup_value, cleanups_at, does_at_site, done_of, exists, fails, is_absent, is_pass, moved, outcome_of, passes, put, rename_file, row_file, skip_outcome, stays, table, unless, use_of, use_value, used_at, with_env, with_file, with_own, without_cleanups, without_env, without_file, without_own, write_below, write_row, write_rows, write_table}
unfoldable pub use Rattle.gk_run.specs.Acting.{act}
pub use Rattle.gk_run.specs.Chosen.{CasesFallIntoRules, ChosenValue, FormedCasesFallIntoRules, Group, GroupsAreAll, HeadValue, MemberValue, bare_group, chosen_value, group_value, groups_from, groups_in, has_selected, head_value, member_of, members_in, members_of, members_of_groups, members_of_rank, own_members, rule_groups}
pub use Rattle.gk_run.specs.DryRun.{AreDrySteps, IsDryStep, dry_case_of, dry_cases_of, dry_events, dry_feature_of, dry_features_of, dry_row, dry_rules_of, dry_step, dry_verdict}
pub use Rattle.gk_run.specs.Ending.{around_status, ending_of, has_passed, is_memory_ending, is_memory_mark, verdict_status, worse}
pub use Rattle.gk_run.specs.Events.{Ended, Event, IsCutOff, IsRan, Ran, SectionNow, SoFar, Message, after_event, cut_at, ended_in, event_marks, happens, has_cleanup, has_ended, left_by, mark_of, of_case, of_cleanup, of_rule, of_step, outcomes_of, refused, result_of, section_now, notifies, used_in}
pub use Rattle.gk_run.specs.Features.{FeatureCuts, FeaturesWithoutRulesHaveTheirCases, Inside, IsFeatureResult, NotifiesInPart, PrecedesCase, ResultsStandInFileOrder, RuleCuts, StopsBeforeCase, feature_of, feature_row_of, feature_verdict, features_of, inside_by, inside_of, rule_of, rule_statuses, rule_stays_open, rules_inside, rules_of, rules_messages, uncut_feature, uncut_rule, verdict_by}
pub use Rattle.gk_run.specs.Judged.{Cuts, DryRunsAreJudged, Each, IsGoodCase, IsGoodFeature, IsGoodRule, IsHeaded, Judged, JudgedCase, JudgedCases, JudgedDryCase, JudgedDryFeature, JudgedDryRun, JudgedFeature, JudgedFeatures, JudgedHoldPartByPart, JudgedInside, JudgedPartByPart, JudgedRule, JudgedSection, OneList, StepsHaveTheirResults, UnfinishedDryRunsAreJudged, dry_results, has_memory, is_memory_case, is_memory_feature, is_memory_rule, results_from, results_of, rule_rows, uncut}
pub use Rattle.gk_run.specs.OpenRun.{FinishedRunsAreJudged, SuiteValue, UnfinishedRunsAreJudged, opens_features}
pub use Rattle.gk_run.specs.OpenSection.{EndsAround, IsBegun, IsOpened, IsSectionEnd, Run, SectionRow, closing_events, happened_in, no_events, run_of, run_value, section_events, section_of, section_state}
pub use Rattle.gk_run.specs.PrivateContracts.{AreCases, AreCasesInPart, AreDivided, AreRulesInPart, Goes, Happens, IsClosing, IsDoneBy, IsFeatureEnd, IsFeatureEndInPart, IsInside, IsInsideInPart, IsMember, IsNext, IsRule, IsRuleInPart, IsStepRun, RunsCases, RunsFeature, RunsRule, RunsRules, StopsFeature, happened_as, inside_value, next_event}
pub use Rattle.gk_run.specs.Results.{CaseRow, FeatureRow, Results, RuleRow, StepRow, case_row, feature_row, is_failed, is_memory, is_passed, is_status, is_untested, rule_row, step_row}
pub use Rattle.gk_run.specs.Running.{NotifiesEvents, all_stay_open, alone, case_events, case_of, case_rows, case_statuses, cases_of, cases_messages, first_or, is_failed_or_memory, reached_row, row_of_case, same_marks, stays_open, stays_open_by, unreached_row, unrun_row, unselected_row, verdict_of, without_first}
pub use Rattle.gk_run.specs.Section.{Cut, Events, after_of, around_events, around_of, before_of, before_passed, happened, has_event, in_after, in_before, in_cleanups, in_order, in_steps, nowhere, site_of, steps_of_case}
pub use Rattle.gk_run.specs.SectionHooks.{after_lists, before_events, before_kind, before_list, clean_each, cleaned, cleanup_done, entered, hook_steps, tag_lists, walk_each}
pub use Rattle.gk_run.specs.Walk.{CarriesOut, EndsAt, EndsAtTheLeastStop, HasNoStop, IsLookedUp, IsStop, LaterSteps, Stepped, StepsEndAtTheLeastStop, StoppedCasesRunNoStep, Stops, StopsAt, WalksEndAtTheLeastStop, after, carried_on, event_at, event_of, looked_up, one_step, outcome_from, place_of, row_of_step, rows_of_steps, stepped, steps_from, unrun_step, unrun_steps, walk}
pub use Rattle.gk_run.specs.declared.acting.Arguments.{Arguments}
pub use Rattle.gk_run.specs.declared.acting.Site.{Site}
pub use Rattle.gk_run.specs.declared.acting.Used.{Used}
pub use Rattle.gk_run.specs.declared.cases.Member.{Member}
pub use Rattle.gk_run.specs.declared.cases.RuleCases.{RuleCases}
pub use Rattle.gk_run.specs.declared.chosen.RuleHead.{RuleHead}
pub use Rattle.gk_run.specs.declared.cleanups.Cleanup.{Cleanup}
pub use Rattle.gk_run.specs.declared.cleanups.Registration.{Registration}
pub use Rattle.gk_run.specs.declared.ending.Ending.{Ending}
pub use Rattle.gk_run.specs.declared.observer.StepDone.{StepDone}
pub use Rattle.gk_run.specs.declared.results.CaseResult.{CaseResult}
pub use Rattle.gk_run.specs.declared.results.FeatureResult.{FeatureResult}
pub use Rattle.gk_run.specs.declared.results.Mark.{Mark}
pub use Rattle.gk_run.specs.declared.results.Mark.TheVariants.{Acted, Skipped, Undefined, Untested}
pub use Rattle.gk_run.specs.declared.results.Outcome.{Outcome}
pub use Rattle.gk_run.specs.declared.results.Reason.{Reason}
pub use Rattle.gk_run.specs.declared.results.RuleResult.{RuleResult}
pub use Rattle.gk_run.specs.declared.results.Status.{Status}
pub use Rattle.gk_run.specs.declared.rules.RuleEnd.{RuleEnd}
pub use Rattle.gk_run.specs.declared.section.Level.{Level}
pub use Rattle.gk_run.specs.declared.section.Stage.{Stage}
