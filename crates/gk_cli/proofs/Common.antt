-- The names from elsewhere that the proofs of this crate cite, passed on from one place. Declares nothing.
pub use Rattle.std.proofs.Common.{Bool, Err, IfErr, IfOk, List, None, Ok, Option, Result, Some, [], ap, append_assoc, ap₂, arith, codes, cond, drop, drop-cons, false, fold, get_or, inl, inr, is_some, length, map, not, refl, rules, string_bytes, subst, suc, sym, take, true, zero, ℕ, ◌&&◌, ◌++◌, ◌+◌, ◌<◌, ◌==◌, ◌||◌, ◌∙◌, ◌∷◌, ◌≡◌, ◌≢◌, ◌≤◌, ◌⊎◌}
pub use Rattle.std.proofs.KnownBytes.{Appends-trans}
pub use Rattle.std.proofs.lemmas.Bool.{true≢false}
pub use Rattle.std.proofs.lemmas.Grind.{common_steps}
pub use Rattle.std.proofs.lemmas.List.{append-nil, drop_all, get_or-map, length-append, length-map, map-append, map_push, take-append-drop, take_all}
pub use Rattle.std.proofs.lemmas.List.Elements.{All-map, All-nil, All-push}
pub use Rattle.std.proofs.lemmas.List.Folds.{list_any-append}
pub use Rattle.std.proofs.lemmas.Simd.{map-map}
pub use Rattle.std.proofs.lemmas.Slice.Eq.{bytes_eq-Decides}
pub use Rattle.std.proofs.lemmas.Str.Pattern.{split_parts}
pub use Rattle.std.specs.Borrow.{Bor}
pub use Rattle.std.specs.Io.KnownBytes.{Appends}
pub use Rattle.std.specs.List.{All, AllByRecursion, FoldsTo, after_first, before_first, list_all, list_any, slice_index_or}
pub use Rattle.std.specs.List.Sorted.{IsNonDecreasingBy}
pub use Rattle.std.specs.Option.{option_map_or}
pub use Rattle.std.specs.Prelude.{IsErrAnd, IsOk, String, find, if◌then◌else◌, option_map, slice_get, unwrap_or}
pub use Rattle.std.specs.Str.{bytes_eq}
pub use Rattle.std.specs.Str.Parse.{ParsesBool, ParsesUnsigned}
pub use Rattle.std.specs.Vec.Iter.{into_iter_items, into_iter_len}
pub use Rattle.std.specs.declared.alloc.Global.{Global}
pub use Rattle.clap.proofs.CallerLemmas.{added_plain, entry_by_id, present_has_entry, required_present}
pub use Rattle.clap.proofs.CutLemmas.{list_any-Lacks}
pub use Rattle.clap.proofs.WalkLemmas.{first_value-rows, one_text-rows}
pub use Rattle.clap.specs.Facts.{Entry, EntryPasses, IsFilledEntry, PassesArg, ValuesPass, least_values, parser_of_value, unwrap_or_range}
pub use Rattle.clap.specs.Kinds.{or_else}
pub use Rattle.clap.specs.Simple.{app_of_fields, built}
pub use Rattle.clap.specs.Walk.{action_of, is_append, is_simple_arg, row_of}
pub use Rattle.clap.specs.Words.{Accepts, AddsArg, App, BuildsOrBreaks, BuildsTo, HasKind, HasMatchesOf, IsAmong, IsParsed, IsParsedFrom, IsUnsignedIn, Kinds, ReadsOne, Rule, Text, app_of, args_of, fault_of, first_value, found_of, groups_of, has_subcommand, is_broken, is_simple, is_simple_and_free, kind_of, matched_of, matches_of, new_app, raw_values, rows_of, rule_of, with_rule}
pub use Rattle.clap.specs.declared.builder.action.ArgAction.TheVariants.{Set}
pub use Rattle.clap.specs.declared.builder.arg.Arg.{Arg}
pub use Rattle.clap.specs.declared.builder.command.Command.{Command}
pub use Rattle.clap.specs.declared.builder.command.Command.TheOpen.{Command-F}
pub use Rattle.clap.specs.declared.builder.value_parser.ValueParser.{ValueParser}
pub use Rattle.clap.specs.declared.builder.value_parser.ValueParser.TheVariants.{Unsigned}
pub use Rattle.clap.specs.declared.error.Error.{Error}
pub use Rattle.clap.specs.declared.error.kind.ErrorKind.{ErrorKind}
pub use Rattle.clap.specs.declared.error.kind.ErrorKind.TheVariants.{ArgumentConflict, InvalidValue}
pub use Rattle.clap.specs.declared.parser.matches.ArgMatches.{ArgMatches}
pub use Rattle.clap.specs.declared.parser.matches.Found.{Found}
pub use Rattle.clap.specs.declared.parser.matches.MatchedArg.{MatchedArg}
pub use Rattle.gk_explain.specs.Explainer.{Hears, said}
pub use Rattle.gk_explain.specs.Explanation.{ExplanationValue, nothing_said, with_run}
pub use Rattle.gk_explain.specs.Headings.{failures_text}
pub use Rattle.gk_explain.specs.declared.explainer.Explainer.{Explainer}
pub use Rattle.gk_findings.specs.LintedSuite.{IsLinted}
pub use Rattle.gk_gherkin.specs.Feature.{FeatureValue, RuleValue}
pub use Rattle.gk_gherkin.specs.Grammar.{HasOneReading, Reads}
pub use Rattle.gk_gherkin.specs.HooksGrammar.{HaveOneHooksReading}
pub use Rattle.gk_gherkin.specs.Lines.{lines_of}
pub use Rattle.gk_report.specs.PartPieces.{IsPiece, rest}
pub use Rattle.gk_report.specs.Report.{ReportsGrowByParts, head, is_empty, part, parts, parts_from, plain_style, report, tail}
pub use Rattle.gk_report.specs.RuleGroups.{AreInFileOrder}
pub use Rattle.gk_report.specs.Summary.{feature_statuses, scenario_statuses, status, step_statuses, summary_of}
pub use Rattle.gk_report.specs.declared.report.Style.{Style}
pub use Rattle.gk_request.proofs.InputsLemmas.{OneRule, same_hooks, same_library, same_rules}
pub use Rattle.gk_request.proofs.ResultLemmas.{if_err, if_ok, ok_known, on_ok, passed_on}
pub use Rattle.gk_io.specs.Counted.{one_more}
pub use Rattle.gk_request.specs.Inputs.{AreHooks, AreInputs, AreRead, Inputs, InputsAreUnique, IsLibrary, chosen_of, head_of, inputs_value, member_by, with_reading}
pub use Rattle.gk_request.specs.Request.{FilesValue, Request, asked, hooks_name, name_of, request_of_files, files_value}
pub use Rattle.gk_request.specs.RunFault.{IsUnread}
pub use Rattle.gk_request.specs.Source.{SourceValue, source_value}
pub use Rattle.gk_request.specs.declared.run_fault.RunFault.{RunFault}
pub use Rattle.gk_request.specs.declared.run_fault.RunFault.TheVariants.{Hooks, Library, Memory, Read, Select, Write}
pub use Rattle.gk_run.specs.Chosen.{CasesFallIntoRules, ChosenValue, HeadValue, IsFormed, MemberValue, chosen_value}
pub use Rattle.gk_run.specs.DryRun.{AreDryFeatures, dry_cases_of, dry_feature_of, dry_features_of, dry_rules_of}
pub use Rattle.gk_run.specs.Ending.{has_passed}
pub use Rattle.gk_run.specs.Events.{Event, ended_in, result_of, section_now}
pub use Rattle.gk_run.specs.Features.{FeatureCuts, IsFeatureResult, ResultsStandInFileOrder, StandsInFileOrder, feature_of, feature_verdict, features_of, rule_statuses, uncut_feature, verdict_by}
pub use Rattle.gk_run.specs.Judged.{BeginsJudged, Cuts, DryRunsAreJudged, Judged, OneList, UnfinishedDryRunsAreJudged, dry_results, has_memory, is_memory_case, is_memory_feature, is_memory_rule, plain_results, results_from, results_of, uncut}
pub use Rattle.gk_run.specs.OwnResult.{BeginsLike, HasResult, IsLike, IsSameScenario, IsSettled, ResultsAreTheSameInEachRun, above}
pub use Rattle.gk_run.specs.OpenRun.{AreFeatures, FinishedRunsAreJudged, NotifiesFinish, IsFinished, IsKept, IsStarted, SuiteValue, opens_features}
pub use Rattle.gk_run.specs.OpenSection.{IsBegun, NotifiesEnd, Run, run_of}
pub use Rattle.gk_run.specs.Results.{CaseRow, FeatureRow, Results, RuleRow, feature_row, is_failed, is_memory, is_undefined}
pub use Rattle.gk_run.specs.Running.{case_statuses, first_or, stays_open, stays_open_by, without_first}
pub use Rattle.gk_run.specs.Section.{Cut}
pub use Rattle.gk_run.specs.declared.results.Status.{Status}
pub use Rattle.gk_select.specs.Case.{CaseValue}
pub use Rattle.gk_select.specs.Choice.{is_chosen}
pub use Rattle.gk_select.specs.ExampleRows.{ExampleRowValue, row_lists}
pub use Rattle.gk_select.specs.Expansion.{cases}
pub use Rattle.gk_select.specs.FileOrder.{CasesAreInFileOrder}
pub use Rattle.gk_select.specs.OwnTags.{with_own_tags}
pub use Rattle.gk_select.specs.RuleOrder.{FallIntoRules}
pub use Rattle.gk_select.specs.TagGrammar.{Expression}
pub use Rattle.gk_steps.specs.Finding.{LibraryValue, library_value}
pub use Rattle.gk_steps.specs.LibraryFile.{LibraryReadingIsUnique}
pub use Rattle.gk_world.specs.Sandbox.{IsSame, SandboxValue}
pub use Rattle.gk_world.specs.State.{Contents, State, state_of}
pub use Rattle.gk_cli.specs.Arguments.{HasRule, IsAskedBy, IsCommand, IsFaultBy, IsFirstWithout, IsLineNumber, PairValue, SaysArguments, SaysMatches, SaysPair, command, faults_in, format_asked, found_in, has_equals, is_clash, is_format, is_given, line_number, pair_value, split_at_equals, values_of, with_version}
pub use Rattle.gk_cli.specs.ExplainRun.{Adds, Closes, ExplainedInPart, Explains, IsExplainedUpTo, explained_by}
pub use Rattle.gk_cli.specs.FeatureLoop.{AreWritten, AreWrittenUpTo, IsClosed, IsDryResult, IsNextResult, IsRunWritten, IsRunWrittenUpTo, IsTextSoFar, IsWholeText, NotifiesOfDryFeature, NotifiesOfFeature, NotifiesOfFeatures, NotifiesOfFirst, StopsAdding, StopsAtNext, StopsClosing, WritesNext, results_with, stays, stays_begun}
pub use Rattle.gk_cli.specs.ReportRun.{AddsPart, ClosesByTail, IsPrefix, IsWhole, Stays}
pub use Rattle.gk_cli.specs.Modes.{IsWrittenAs, LintedInPart, SaysFaultAs}
pub use Rattle.gk_cli.specs.OptionTable.{option_value, rule_of_option}
pub use Rattle.gk_cli.specs.SameResult.{HasRow, IsSettledIn, ScenariosComeToTheSameInEachRun}
pub use Rattle.gk_cli.specs.RowOrder.{JudgedRowsAreInFileOrder, RowsAreInFileOrder}
pub use Rattle.gk_cli.specs.Suite.{AreJudged, IsReported, JudgedReport, OnlyReport, ReportedInPart, SaysFault, SaysFaultBy, run_by, run_with}
pub use Rattle.gk_cli.specs.Writing.{Device, IsStopped, IsUntouched, IsWritten, StopsBy, UsesWriter, device_of}
pub use Rattle.gk_cli.specs.declared.arguments.Mode.{Mode}
pub use Rattle.gk_cli.specs.declared.arguments.Words.{Words}
pub use Rattle.gk_cli.specs.declared.arguments.WordsFault.{WordsFault}
pub use Rattle.gk_cli.specs.declared.arguments.WordsFault.TheVariants.{Env, File, Usage}
pub use Rattle.gk_cli.specs.declared.report_run.GrowingReport.{GrowingReport}
pub use Rattle.gk_cli.specs.declared.option_table.OptionRow.{OptionRow}
pub use Rattle.gk_cli.specs.declared.feature_loop.CountingReporter.{CountingReporter}
