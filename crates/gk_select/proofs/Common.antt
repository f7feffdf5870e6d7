-- The names from elsewhere that the proofs of this crate cite, passed on from one place. Declares nothing.
pub use Rattle.std.proofs.Common.{Bool, Bor, Err, Global, IfErr, IfOk, IsSome, List, None, Ok, Option, Result, Some, String, [], add-one, ap, append-nil, append_assoc, ap₂, arith, cond, drop, drop-cons, false, flat_map, get_or, if◌then◌else◌, inl, inr, is_ok, length, map, max, min, nat_eq, nat_lt, not, option_and_then, option_map, refl, rules, slice_index_or, subst, suc, sym, take, tests, true, zero, ℕ, ◌&&◌, ◌*◌, ◌++◌, ◌+◌, ◌-◌, ◌<◌, ◌==◌, ◌^◌, ◌||◌, ◌∙◌, ◌∷◌, ◌≡◌, ◌≢◌, ◌≤◌, ◌⊎◌}
pub use Rattle.std.proofs.Math.Nat.{suc-mul}
pub use Rattle.std.proofs.Math.Seq.{get_or-append_seam}
pub use Rattle.std.proofs.lemmas.Bool.{and_from, and_parts, both_ways, cases_Bool, cases_eq, cases_lt, cond-false, cond-true, lt-ltb, ltb-false, ltb-true, ne_eqb}
pub use Rattle.std.proofs.lemmas.Bool.Decides.{Decides-eqb, nat_tests}
pub use Rattle.std.proofs.lemmas.Grind.{common_steps, get_or_default_zero}
pub use Rattle.std.proofs.lemmas.Iterator.{YieldsList-from_slice}
pub use Rattle.std.proofs.lemmas.Iterator.Consumers.{YieldsList-end, YieldsList-so_far, YieldsList-turn}
pub use Rattle.std.proofs.lemmas.Iterator.Search.{all_from_yields_List, any_from_yields_List}
pub use Rattle.std.proofs.lemmas.Iterator.Splits.{YieldsList-from_str_split}
pub use Rattle.std.proofs.lemmas.List.{at_drop_more, drop_all, drop_more, get_or-map, length-append, length-map, length-take-le, map-append, map_push, take-append-drop}
pub use Rattle.std.proofs.lemmas.List.Folds.{length-flat_map-take, list_any_at, list_any_none}
pub use Rattle.std.proofs.lemmas.List.Sorted.{IsNonDecreasingBy-from_sort, length_permutation, list_any-IsPermutation, searched}
pub use Rattle.std.proofs.lemmas.List.Splits.{length-slice_split}
pub use Rattle.std.proofs.lemmas.List.Sums.{sum_by-append, sum_by-cons}
pub use Rattle.std.proofs.lemmas.Option.{slice_get_past}
pub use Rattle.std.proofs.lemmas.Result.{err_from_is_err_and}
pub use Rattle.std.proofs.lemmas.Slice.Eq.{bytes_eq-Decides, starts_is}
pub use Rattle.std.proofs.lemmas.Str.{IsCharBoundary-after_ascii, IsCharBoundary-from_take}
pub use Rattle.std.proofs.lemmas.Str.Pattern.{IsSplitOnceResult, split_parts, strip_prefix_char}
pub use Rattle.std.specs.List.{AllZip, AllByRecursion, enumerate_from, list_all, list_any, starts_with, suffix_len, sum_by}
pub use Rattle.std.specs.List.Sorted.{IsBinarySearchResult, IsNonDecreasing, IsNonDecreasingBy, IsPermutation, IsStrictlyIncreasing}
pub use Rattle.std.specs.Map.{update}
pub use Rattle.std.specs.Ordering.{is_eq, nat_cmp}
pub use Rattle.std.specs.Prelude.{IfSome, find, is_some, ltb, option_copied, slice_get, zip}
pub use Rattle.std.specs.Result.{MatchResult}
pub use Rattle.std.specs.Str.{IsCharBoundary, IsUtf8, bytes_eq}
pub use Rattle.std.specs.Str.Lines.{lines}
pub use Rattle.std.specs.String.{string_bytes}
pub use Rattle.std.specs.String.Boundary.{IsSplitPoint}
pub use Rattle.std.specs.Vec.Iter.{into_iter_items}
pub use Rattle.gk_gherkin.specs.Feature.{BackgroundValue, BlockValue, ContainerValue, Empty, ExamplesValue, FeatureValue, RowValue, RuleValue, ScenarioValue, StepValue, Table, Text, examples_value, feature_container, feature_value, row_value, rule_container, rule_value, scenario_value, step_value, texts}
pub use Rattle.gk_gherkin.specs.Grammar.{AreExamples, AreSteps, AreTags, Describes, HasTable, IsBackground, IsBlock, IsContainer, IsFeature, IsIgnored, IsIgnoredAbove, IsRow, IsRule, IsScenario, IsStep, IsTaggedHeading, Many, Next, Perhaps, Reads, Skips, describe, described, more, none, skip, skip_none, untagged}
pub use Rattle.gk_gherkin.specs.Lines.{LineValue, Lines, lines_of, numbered_from, without_mark}
pub use Rattle.gk_gherkin.specs.Text.{is_blank, trim_back}
pub use Rattle.gk_gherkin.specs.declared.class.Class.{Class}
pub use Rattle.gk_gherkin.specs.declared.class.Class.TheVariants.{FeatureHeading, RuleHeading}
pub use Rattle.gk_gherkin.specs.declared.feature.Examples.{Examples}
pub use Rattle.gk_gherkin.specs.declared.feature.Scenario.{Scenario}
pub use denote.Shadow.{shadow}
pub use denote.Text.{Utf8}
pub use Rattle.gk_select.specs.Alternatives.{AlternativeValue, ReadsAlternatives, alternative, alternative_holds, alternative_value, alternative_words, or_of, pieces, tag_named, words_with}
pub use Rattle.gk_select.specs.Case.{CaseValue, case_value}
pub use Rattle.gk_select.specs.Choice.{ChoiceValue, all_hold, chosen_by, is_at_lines}
unfoldable pub use Rattle.gk_select.specs.Choice.{is_chosen}
pub use Rattle.gk_select.specs.Names.{IsIndexFrom, has_length, position_in}
unfoldable pub use Rattle.gk_select.specs.Names.{position_of}
pub use Rattle.gk_select.specs.Counting.{examples_steps, feature_steps, left, left_of, rule_steps, scenario_steps}
pub use Rattle.gk_select.specs.ExampleRows.{ExampleRowValue, IsRowOf, RowsAreAtCases, cell_value, entry_value, example_row_value, numbered_row, rows_of_examples, rows_of_scenario}
unfoldable pub use Rattle.gk_select.specs.ExampleRows.{outline_rows}
pub use Rattle.gk_select.specs.Expansion.{ArePlain, HasNoOutline, IsExpandable, RowsFit, RowsFitHeader, case_count, case_count_of, cases_of_rows, cases_of_rules, examples_cases, plain_case, plain_cases, row_case, rule_cases, scenario_cases, step_count}
unfoldable pub use Rattle.gk_select.specs.Expansion.{cases}
pub use Rattle.gk_select.specs.FileOrder.{CasesAreInFileOrder, IsInFileOrder, case_lines, feature_lines, rule_lines}
pub use Rattle.gk_select.specs.Filling.{BeginsWithNone, Byte, FillsByCut, IsCut, IsPlaceholder, Placeholder, can_stand, cell_or_byte, cell_under, filled_at, filled_part, filled_step, header_at, placeholder}
unfoldable pub use Rattle.gk_select.specs.Filling.{cell_of, filled, filled_from, filled_piece}
pub use Rattle.gk_select.specs.Inherited.{InheritedValue, background_steps, inherited_in_feature, inherited_in_rule, inherited_value}
pub use Rattle.gk_select.specs.Outline.{AllFit, has_examples, is_outline}
pub use Rattle.gk_select.specs.OwnTags.{HasSameCasesUntagged, untagged_rule, with_own_tags}
pub use Rattle.gk_select.specs.RuleOrder.{FallFrom, FallIntoRules, rank}
pub use Rattle.gk_select.specs.SelectFault.{AnswersOrLacksMemory}
pub use Rattle.gk_select.specs.Selecting.{examples_selected, rows_selected, rules_hold, rules_selected, scenario_selected}
pub use Rattle.gk_select.specs.TagGrammar.{Expression, Factor, SpeltBy, Term, and_factors, depth, depth_limit, factor_depth, factor_spelling, factor_tags, grouped, negated, one_factor, one_term, or_terms, spelling, tagged, tags_in, term_depth, term_spelling, term_tags}
pub use Rattle.gk_select.specs.TagLists.{tags_of}
pub use Rattle.gk_select.specs.TagMeasures.{Measure, built_value, measure_before, measure_of}
pub use Rattle.gk_select.specs.TagRules.{ReadsNewForm, ReadsTags, SpellsNone}
pub use Rattle.gk_select.specs.TagStops.{StopValue, first_place, place_after, stop_at_end, stop_in, stop_in_pieces, tag_stop, unless_after, wanted_at}
pub use Rattle.gk_select.specs.TagTrees.{GroupRest, State, built_from, closed, empty, expression_again, first, head, one_expression, part_of, ready, run, run_whole, step, term_from, waiting}
pub use Rattle.gk_select.specs.TagValues.{factor_holds, holds, seen_before, seen_depth, seen_of, seen_value, term_holds}
pub use Rattle.gk_select.specs.TagWords.{AreWords, FirstWord, WordValue, and_word, close_word, is_of_new_form, is_parenthesis, not_word, open_word, or_word, tag_word, tags_among, word_said, word_value, words_of_text, words_with_first}
unfoldable pub use Rattle.gk_select.specs.TagWords.{first_word}
pub use Rattle.gk_select.specs.declared.names.NameIndex.{NameIndex}
pub use Rattle.gk_select.specs.declared.select_fault.SelectFault.{SelectFault}
pub use Rattle.gk_select.specs.declared.select_fault.SelectFault.TheVariants.{BadTagText, Memory, TooMany}
pub use Rattle.gk_select.specs.declared.tag_stops.TagPlace.{TagPlace}
pub use Rattle.gk_select.specs.declared.tag_stops.Wanted.TheVariants.{Alternative}
pub use Rattle.gk_select.specs.declared.tag_values.Seen.{Seen}
pub use Rattle.gk_select.specs.declared.tag_values.Seen.TheVariants.{Failed, Held, Value}
pub use Rattle.gk_select.specs.declared.tag_words.Word.{Word}
