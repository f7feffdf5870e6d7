-- The names from elsewhere that the proofs of this crate cite, passed on from one place. Declares nothing.
pub use Rattle.std.proofs.Common.{Bool, Bor, Err, IfErr, List, None, Ok, Option, Result, Some, [], ap, append-nil, append_assoc, arith, codes, cond, count_by, drop, false, flat_map, fold, get_or, length, map, min, nat_lt, not, option_map, refl, rules, string_bytes, subst, suc, sym, true, ℕ, ◌&&◌, ◌++◌, ◌+◌, ◌<◌, ◌==◌, ◌||◌, ◌∙◌, ◌∷◌, ◌≡◌, ◌≢◌, ◌≤◌}
pub use Rattle.std.proofs.Math.Bool.{or-false}
pub use Rattle.std.proofs.lemmas.Bool.{le-ltb, lt-ltb, ltb-false, ltb-true, ne_eqb, not-false, not-true, or_parts}
pub use Rattle.std.proofs.lemmas.Grind.{common_steps}
pub use Rattle.std.proofs.lemmas.List.{at_drop_all, get_or-drop, get_or-take, length-drop, length-take, take-append-drop}
pub use Rattle.std.proofs.lemmas.List.Elements.{All-cons, All-nil, All-tail, All-weaker}
pub use Rattle.std.proofs.lemmas.List.Sorted.{IsNonDecreasingBy-drop}
pub use Rattle.std.proofs.lemmas.List.Sums.{fold-append, prefix_len-le-length, prefix_len_passes, prefix_len_stops, take_while-cons}
pub use Rattle.std.proofs.lemmas.Result.{IfOk-weaker, on_ok_weaker}
pub use Rattle.std.proofs.lemmas.Slice.Eq.{bytes_eq-Decides}
pub use Rattle.std.proofs.lemmas.Str.Pattern.{IsSplitOnceResult, split_parts}
pub use Rattle.std.specs.Fmt.{decimal}
pub use Rattle.std.specs.List.{last_or, list_any}
pub use Rattle.std.specs.List.Sorted.{IsNonDecreasingBy}
pub use Rattle.std.specs.Option.{IfSome}
pub use Rattle.std.specs.Prelude.{All, filter}
pub use Rattle.std.specs.Str.{bytes_eq}
pub use Rattle.gk_run.specs.Results.{CaseRow, FeatureRow, Results, RuleRow, StepRow, case_row, is_passed, rule_row, step_row}
pub use Rattle.gk_run.specs.Running.{case_statuses}
pub use Rattle.gk_run.specs.declared.results.Reason.{Reason}
pub use Rattle.gk_run.specs.declared.results.Status.{Status}
pub use Rattle.serde.specs.Event.{Log, Logs, map_begins, map_ends, seq_begins}
pub use Rattle.serde_json.proofs.FreeTexts.{text_of_value}
unfoldable pub use Rattle.serde_json.proofs.OnLiterals.{serde_json_on_literals}
pub use Rattle.serde_json.specs.Data.{Data, member, no_members, object, string}
pub use Rattle.serde_json.specs.Events.{SendsItems, SendsMembers, SendsValue, items_len, members_len}
pub use Rattle.serde_json.specs.View.{items_of}
pub use Rattle.serde_json.specs.Written.{compact_text, has_float, items_have_float, items_text}
pub use denote.Shadow.{shadow}
pub use denote.Text.{Utf8}
pub use Rattle.gk_report.specs.JsonReport.{AddsMembers, array_data, case_data, comma_unless, count_members, counts_data, counts_data_of, feature_data, feature_object, joined, number_data, objects_left, objects_text, printed_features, reason_and, rule_data, rules_and, rules_data, rules_member, status_data, step_counts_data, step_data, step_members, summary_data, undefined_and}
unfoldable pub use Rattle.gk_report.specs.JsonReport.{json_head, json_part, json_tail, object_end, object_start, tail_of}
pub use Rattle.gk_report.specs.PartPieces.{lines_and_end, objects_and_end, to_go}
unfoldable pub use Rattle.gk_report.specs.PartPieces.{rest}
pub use Rattle.gk_report.specs.PlainReport.{case_lines, lines_in, printed_lines, step_line}
unfoldable pub use Rattle.gk_report.specs.PlainReport.{rule_line, status_line}
pub use Rattle.gk_report.specs.ProgressReport.{case_characters}
pub use Rattle.gk_report.specs.Report.{IsOneDocument, ReportsGrowByParts, format_among, format_name, head, is_empty, part, parts, parts_from, report, tail}
pub use Rattle.gk_report.specs.ReportTexts.{is_hidden, line_feed, printed_cases, status_text}
unfoldable pub use Rattle.gk_report.specs.ReportTexts.{one_line}
pub use Rattle.gk_report.specs.RuleGroups.{AreInFileOrder, RuleGroup, RulesFollowTheirScenarios, begins_above, cases_before, cases_behind, count_before, groups_by_line, rule_containing}
pub use Rattle.gk_report.specs.Summary.{IsStatusOf, count_of, counts_of, feature_statuses, greatest, one_case_more, one_feature_more, one_status_more, scenario_statuses, status_by, status_of, statuses_of_case, statuses_of_feature, step_statuses, summary_of}
pub use Rattle.gk_report.specs.declared.json_report.ObjectsLeft.{ObjectsLeft}
pub use Rattle.gk_report.specs.declared.part_pieces.PartPieces.{PartPieces}
pub use Rattle.gk_report.specs.declared.plain_report.LinesLeft.{LinesLeft}
pub use Rattle.gk_report.specs.declared.report.Format.{Format}
pub use Rattle.gk_report.specs.declared.report.Style.{Style}
pub use Rattle.gk_report.specs.declared.summary.Counts.{Counts}
pub use Rattle.gk_report.specs.declared.summary.Summary.{Summary}
