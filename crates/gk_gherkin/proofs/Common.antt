-- The names from elsewhere that the proofs of this crate cite, passed on from one place. Declares nothing.
pub use Rattle.std.proofs.Common.{Bool, Bor, Err, IfErr, IfOk, IfSome, List, None, Ok, Option, Result, Some, [], ap, append_assoc, arith, cond, drop, false, find, get_or, inl, inr, set, length, length-append, length-drop, map, min, nat_eq, not, option_copied, refl, rules, slice_index, subst, suc, sym, take, true, vec_len, zero, ℕ, ◌&&◌, ◌++◌, ◌+◌, ◌-◌, ◌<◌, ◌==◌, ◌^◌, ◌||◌, ◌↔◌, ◌∙◌, ◌∷◌, ◌≡◌, ◌≢◌, ◌≤◌, ◌⊎◌}
pub use Rattle.std.proofs.Math.Nat.{eq-or-lt_of_le}
pub use Rattle.std.proofs.Math.Seq.{take-append_seam}
pub use Rattle.std.proofs.lemmas.Bool.{cases_lt, eqb-true, false_from_ne_true, false≢true, lt-ltb, ltb-true, or_parts}
pub use Rattle.std.proofs.lemmas.Bool.Decides.{nat_tests}
pub use Rattle.std.proofs.lemmas.Grind.{common_steps}
pub use Rattle.std.proofs.lemmas.Iterator.Consumers.{YieldsList-end, YieldsList-turn}
pub use Rattle.std.proofs.lemmas.Iterator.Splits.{YieldsList-from_lines}
pub use Rattle.std.proofs.lemmas.List.{append-nil, drop_all, drop_more, get_or-drop, get_or-take, length-map, length-take, length-take-le, length_push, map_push, take-append-drop, take_all, take_more}
pub use Rattle.std.proofs.lemmas.List.Elements.{All-from_get_or}
pub use Rattle.std.proofs.lemmas.List.Splits.{length-slice_split, slice_split-cons_yes, slice_split_first, slice_split_none}
pub use Rattle.std.proofs.lemmas.List.Sums.{count_by-le-length, fails_before_first, passes_at_first, position_or_len_is, prefix_len-drop_all, prefix_len-drop_no, prefix_len-le-length, prefix_len_passes, prefix_len_stops}
pub use Rattle.std.proofs.lemmas.Option.{slice_get_past, slice_get_within}
pub use Rattle.std.proofs.lemmas.Result.{err_from_is_err_and}
pub use Rattle.std.proofs.lemmas.Slice.Eq.{bytes_eq-Decides}
pub use Rattle.std.proofs.lemmas.Str.{IsCharBoundary-after_ascii, IsCharBoundary-before_ascii, IsCharBoundary-start}
pub use Rattle.std.proofs.lemmas.Str.Pattern.{IsSplitOnceResult, split_once_first, split_parts, split_text_parts, starts_text, strip_prefix_char}
pub use Rattle.std.specs.List.{AllByRecursion, after_first, before_first, before_last, ends_with, join_with_byte, last_or, list_all, list_any, position_or_len, prefix_len, slice_split, starts_with, suffix_len}
pub use Rattle.std.specs.Prelude.{MatchOption, OnOk, String, codes, filter, is_some, ltb, option_and_then, option_map, slice_get, take_while, ⊤}
pub use Rattle.std.specs.Str.{IsCharBoundary, IsUtf8, bytes_eq}
pub use Rattle.std.specs.Str.Iter.{HasSubslice}
pub use Rattle.std.specs.Str.Lines.{lines, lines_of_parts, strip_carriage_return}
pub use Rattle.std.specs.Str.Pattern.{FindsText}
pub use Rattle.std.specs.String.{string_bytes}
pub use Rattle.memchr.specs.Find.{IsFirstByte, Nowhere, Passes, is_byte, is_byte2}
pub use denote.Shadow.{shadow}
pub use denote.Text.{Utf8}
pub use Rattle.gk_gherkin.specs.Class.{background_keywords, begins_as_step, begins_with_one, examples_keywords, feature_keywords, fence_text, is_colon, rule_keywords, scenario_keywords, scenario_words, step_keyword, step_keywords, step_text}
unfoldable pub use Rattle.gk_gherkin.specs.Class.{class, class_of, class_of_words, heading_keyword, heading_name}
pub use Rattle.gk_gherkin.specs.DocStrings.{ReadsFences, ReadsOneWay, a_byte, a_fence, content_of, escaped_fence, fences_read, nothing}
unfoldable pub use Rattle.gk_gherkin.specs.DocStrings.{closes, doc_string}
pub use Rattle.gk_gherkin.specs.Feature.{BackgroundValue, BlockValue, ContainerValue, Empty, ExamplesValue, FeatureValue, RowValue, RuleValue, ScenarioValue, StepValue, Table, Text, background_value, block_value, examples_value, feature_container, feature_value, row_value, rule_container, rule_value, scenario_value, step_value, texts}
pub use Rattle.gk_gherkin.specs.FeatureReader.{FeatureReader, NeedsAt, Tagged, Untagged, after_text, by_language, children_in, children_put, feature_from, feature_readers, heading_in_feature, last_children, line_in_feature, on_comment, rule_from, rule_with, tag_line, takes_text, with_children, with_rules, with_text, without_tags}
unfoldable pub use Rattle.gk_gherkin.specs.FeatureReader.{on, on_heading, on_line}
pub use Rattle.gk_gherkin.specs.Grammar.{AreExamples, AreOfOneWidth, AreSteps, AreTags, Describes, HasOneReading, HasTable, IsBackground, IsBlock, IsConcatenation, IsContainer, IsDocString, IsFeature, IsHeading, IsIgnored, IsIgnoredAbove, IsIgnoredClass, IsReadable, IsRow, IsRule, IsScenario, IsStep, IsTable, IsTagLine, IsTaggedHeading, Many, MayDescribeExamples, MayDescribeFeature, MayDescribeScenario, Next, Perhaps, Reads, Skips, describe, described, more, none, skip, skip_none, tagged, untagged}
pub use Rattle.gk_gherkin.specs.HookHeadings.{HookHeadingValue, plain_heading, tag_alone, tag_between}
unfoldable pub use Rattle.gk_gherkin.specs.HookHeadings.{hook_heading, hooks_class}
pub use Rattle.gk_gherkin.specs.HookIndex.{AreListed, AreListedTo, IsFirst, ListsOnly, is_among, positions_of}
pub use Rattle.gk_gherkin.specs.HookTable.{hook_for}
pub use Rattle.gk_gherkin.specs.Hooks.{HookValue, hook_value, hooks_value, is_for, is_same_kind, is_same_tag, number_of_kind}
pub use Rattle.gk_gherkin.specs.HooksGrammar.{AreDistinct, AreHooksReadable, HaveOneHooksReading, IsHook, ReadsHooks, heading_of}
pub use Rattle.gk_gherkin.specs.HooksReader.{Needs, has_heading, hook_after, hook_begun, hook_from, hook_with, hooks_readers, last_hook_takes_text, last_hook_with_text, under_last}
unfoldable pub use Rattle.gk_gherkin.specs.HooksReader.{on_hook, on_plain_line}
pub use Rattle.gk_gherkin.specs.HooksSoFar.{so_far_value}
pub use Rattle.gk_gherkin.specs.Language.{IsEnglishOrNone, language_word, rest_after}
unfoldable pub use Rattle.gk_gherkin.specs.Language.{language_of}
pub use Rattle.gk_gherkin.specs.Lines.{IsNotUtf8At, IsText, IsTooLong, LineValue, Lines, borrowed_value, byte_order_mark, limit, line_at, line_value, lines_of, numbered_from, without_mark}
pub use Rattle.gk_gherkin.specs.OpenParts.{ChildrenValue, background_takes_text, background_with, background_with_text, children_take_text, children_with_text, described_in, examples_from, examples_under, in_examples, in_scenario, is_empty, last_takes_text, last_type, last_with_text, on_children, on_scenario, row_from, row_in, row_of, row_under_last, scenario_from, scenario_takes_text, step_from, steps_take_text, steps_with_text, takes_text_under, text_under_last, type_of_last, width_of, with_background, with_block, with_examples, with_scenarios, with_steps, with_table}
unfoldable pub use Rattle.gk_gherkin.specs.OpenParts.{heading_in, on_background, on_block, on_body, on_examples, on_row, on_steps, with_last}
pub use Rattle.gk_gherkin.specs.ReadFault.{AnswersOrLacksMemory, AnyLineSays, BeginsNone, BeginsSome, BeginsWithTag, EndsInDocString, EndsInTags, FaultSays, FeatureFault, HaveOneFault, HooksFault, HooksLineSays, HooksNeedMemory, IsBadRow, IsBadTag, IsHooksLineFault, IsLineFault, IsOtherWidth, LineSays, LinesFaultSays, NeedsMemory, NoneLikeIt, SomeLikeIt, StoodBefore, StopsAt, TakesTags, line_of_fault}
pub use Rattle.gk_gherkin.specs.Reading.{DocStringValue, FailsAs, FailsBy, InText, Need, NeedSome, NeedsIn, Outside, Readers, State, in_text, longer, need_here, need_later, opened, opening, outside, outside_text, run, whole_text, with_line}
unfoldable pub use Rattle.gk_gherkin.specs.Reading.{finish, reading, run_by, step}
pub use Rattle.gk_gherkin.specs.Reading.Views.{state_value, text_value}
pub use Rattle.gk_gherkin.specs.Results.{Agrees, Fails, ◌>>=◌}
pub use Rattle.gk_gherkin.specs.Rows.{cell_of, cells_of_parts, into_first, no_bar, part_before, parts_after}
unfoldable pub use Rattle.gk_gherkin.specs.Rows.{cells_of, parts_of, unescaped}
pub use Rattle.gk_gherkin.specs.StepTypes.{AreTypedAfter, type_after}
pub use Rattle.gk_gherkin.specs.Tags.{is_tag, words_of}
unfoldable pub use Rattle.gk_gherkin.specs.Tags.{tags_of}
pub use Rattle.gk_gherkin.specs.Text.{begins, is_blank, contains, trim, trim_front}
pub use Rattle.gk_gherkin.specs.declared.class.Class.{Class}
pub use Rattle.gk_gherkin.specs.declared.class.Class.TheVariants.{BackgroundHeading, Blank, Comment, ExamplesHeading, FeatureHeading, FenceLine, Other, RowLine, RuleHeading, ScenarioHeading, StepLine, TagLine}
pub use Rattle.gk_gherkin.specs.declared.class.Fence.{Fence}
pub use Rattle.gk_gherkin.specs.declared.class.Fence.TheVariants.{Backticks, Quotes}
pub use Rattle.gk_gherkin.specs.declared.doc_strings.DocString.{DocString}
pub use Rattle.gk_gherkin.specs.declared.feature.Feature.{Feature}
pub use Rattle.gk_gherkin.specs.declared.feature.StepType.{StepType}
pub use Rattle.gk_gherkin.specs.declared.feature.StepType.TheVariants.{Given}
pub use Rattle.gk_gherkin.specs.declared.hook_headings.HooksClass.{HooksClass}
pub use Rattle.gk_gherkin.specs.declared.hook_headings.HooksClass.TheVariants.{HookLine, Plain}
pub use Rattle.gk_gherkin.specs.declared.hook_index.HookIndex.{HookIndex}
pub use Rattle.gk_gherkin.specs.declared.hooks.Hook.{Hook}
pub use Rattle.gk_gherkin.specs.declared.hooks.HookFile.{HookFile}
pub use Rattle.gk_gherkin.specs.declared.hooks.HookKind.{HookKind}
pub use Rattle.gk_gherkin.specs.declared.hooks.HookKind.TheVariants.{BeforeTag}
pub use Rattle.gk_gherkin.specs.declared.read_fault.ReadFault.{ReadFault}
pub use Rattle.gk_gherkin.specs.declared.read_fault.ReadFault.TheVariants.{BadHook, BadRow, BadTag, CellCount, Memory, TagsAtEnd, UnclosedText, Unexpected}
