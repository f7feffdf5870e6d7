-- The names from elsewhere that the proofs of this crate cite, passed on from one place. Declares nothing.
pub use Rattle.std.proofs.Common.{Bool, IfSome, IsUtf8, List, None, Option, Some, String, [], ap, append-nil, append_assoc, ap₂, arith, chars, codes, cond, drop, encode_utf8, encode_utf8_all, false, flat_map, inl, inr, length, length-take, map, nat_lt, refl, reverse, rules, string_bytes, subst, suc, sym, take, true, zero, ℕ, ℤ, ⊎_elim, ◌++◌, ◌+◌, ◌-◌, ◌/◌, ◌<◌, ◌==◌, ◌∙◌, ◌∷◌, ◌≡◌, ◌≢◌, ◌≤◌, ◌⊎◌}
pub use Rattle.std.proofs.Math.Facts.{to_z-of_z}
pub use Rattle.std.proofs.lemmas.Bool.{and_cases, and_left, and_parts, and_right, cases_eq, cases_lt, cond-false, cond-true, eq-eqb, eqb-false, eqb-true, le-ltb, lt-ltb, ltb-false, ltb-true, ne_eqb, not_from_true, or_from, or_parts}
pub use Rattle.std.proofs.lemmas.Grind.{common_steps}
pub use Rattle.std.proofs.lemmas.Iterator.{YieldsList-from_chars, YieldsList-from_take, items_from_collect}
pub use Rattle.std.proofs.lemmas.Iterator.Adapters.{YieldsList-from_skip}
pub use Rattle.std.proofs.lemmas.Iterator.Consumers.{map_from_collect}
pub use Rattle.std.proofs.lemmas.Iterator.Splits.{YieldsList-from_str_split}
pub use Rattle.std.proofs.lemmas.List.{drop-drop, drop-map, drop-take, length-append, length-map, take-append-drop, take-map}
pub use Rattle.std.proofs.lemmas.List.Concat.{flat_map-append}
pub use Rattle.std.proofs.lemmas.List.Folds.{list_any-append}
pub use Rattle.std.proofs.lemmas.List.Splits.{length-slice_split}
pub use Rattle.std.proofs.lemmas.List.Sums.{sum_by-append, sum_by-cons}
pub use Rattle.std.proofs.lemmas.Map.Text.{hash_map_updates_text}
pub use Rattle.std.proofs.lemmas.Result.{on_ok_weaker}
pub use Rattle.std.proofs.lemmas.Slice.{pushed}
pub use Rattle.std.proofs.lemmas.Slice.Eq.{bytes_eq-Decides}
pub use Rattle.std.proofs.lemmas.Str.{IsUtf8-past_char, chars-encodes, chars-nil, chars_from_encodes, chars_past_char, encode_ascii, encodes-chars, len_utf8_bounds, length-encode}
pub use Rattle.std.specs.HashMap.{HashMap, get_by_text}
pub use Rattle.std.specs.List.{FoldsTo, enumerate_from, find, list_any, slice_index}
pub use Rattle.std.specs.List.Sorted.{IsStrictlyIncreasing}
pub use Rattle.std.specs.Map.{update}
pub use Rattle.std.specs.Prelude.{OnOk, Result, sum_by}
pub use Rattle.std.specs.Str.{bytes_eq}
pub use Rattle.std.specs.Str.Iter.{chars_rest}
pub use lib.Utf8.{encodes, next}
unfoldable pub use lib.Utf8.{encode}
pub use Rattle.gk_gherkin.specs.Feature.{StepValue, step_value, texts}
pub use Rattle.gk_report.specs.ReportTexts.{line_feed}
pub use Rattle.gk_run.specs.Acting.{CleanupValue, UseValue, done_of}
unfoldable pub use Rattle.gk_run.specs.Acting.{act}
pub use Rattle.gk_run.specs.Ending.{ending_of, has_passed}
pub use Rattle.gk_run.specs.Events.{SectionNow, cut_at, ended_in, left_by, of_cleanup, of_step, refused, used_in}
pub use Rattle.gk_run.specs.OpenSection.{Run}
pub use Rattle.gk_run.specs.Running.{alone}
pub use Rattle.gk_run.specs.Section.{Cut, Events, after_of, before_of, happened, has_event, in_after, in_before, in_cleanups, in_order, in_steps, nowhere, steps_of_case}
pub use Rattle.gk_run.specs.SectionHooks.{after_lists, before_list, clean_each, entered, walk_each}
pub use Rattle.gk_run.specs.Walk.{one_step, steps_from, walk}
pub use Rattle.gk_run.specs.declared.acting.Site.{Site}
pub use Rattle.gk_run.specs.declared.ending.Ending.{Ending}
pub use Rattle.gk_run.specs.declared.results.Mark.{Mark}
pub use Rattle.gk_run.specs.declared.results.Mark.TheVariants.{Skipped}
pub use Rattle.gk_run.specs.declared.section.Level.{Level}
pub use Rattle.gk_run.specs.declared.section.Stage.{Stage}
pub use Rattle.gk_select.specs.Case.{CaseValue}
pub use Rattle.gk_select.specs.ExampleRows.{ExampleRowValue, cell_value, example_row_value}
pub use Rattle.gk_steps.specs.Finding.{LibraryValue, found, library_value}
pub use Rattle.gk_steps.specs.Pattern.{piece_values}
pub use Rattle.gk_world.specs.State.{State, enter, state_of}
pub use Rattle.gk_explain.specs.Details.{difference_line}
unfoldable pub use Rattle.gk_explain.specs.Details.{added_number, compared, event_details, expected_number}
pub use Rattle.gk_explain.specs.Differences.{common_start, first_difference, first_position, position_after, position_past}
pub use Rattle.gk_explain.specs.DifferingLines.{DifferingLinesAreShown, IsLine}
pub use Rattle.gk_explain.specs.Event.{event_value, level_of}
pub use Rattle.gk_explain.specs.Explainer.{CasesAreExplained, Hears, is_cut, said}
pub use Rattle.gk_explain.specs.Explanation.{ExplanationValue, explanation_value, with_case, with_case_of, with_event, with_section}
pub use Rattle.gk_explain.specs.Nearest.{nearest_text, pattern_shown}
pub use Rattle.gk_explain.specs.NearestLines.{AreNearest}
pub use Rattle.gk_explain.specs.RowLines.{cell_text, cells_text}
pub use Rattle.gk_explain.specs.EventLines.{event_lines, kept_of, kept_value, names_value}
pub use Rattle.gk_explain.specs.SectionEvents.{SectionValue, after_event, after_events, section_lines}
pub use Rattle.gk_explain.specs.Shown.{char_after, char_in, chars_after, cut_line, few_lines, is_commanding, is_control, is_left_out, is_suspect, is_within, left_out, lines_round, marked_lines, past_char, row, text_as, text_lines}
unfoldable pub use Rattle.gk_explain.specs.Shown.{escaped, file_shown, marked_text_with}
pub use Rattle.gk_explain.specs.Tables.{first_refused, found_header, quoted_cells}
unfoldable pub use Rattle.gk_explain.specs.Tables.{header_line}
pub use Rattle.gk_explain.specs.declared.differences.Position.{Position}
pub use Rattle.gk_explain.specs.declared.explainer.Explainer.{Explainer}
pub use Rattle.gk_explain.specs.declared.shown.Before.{Before}
pub use Rattle.gk_explain.specs.declared.shown.Before.TheVariants as befores
pub use Rattle.gk_explain.specs.declared.shown.Form.{Form}
pub use Rattle.gk_explain.specs.declared.shown.Form.TheVariants as forms
