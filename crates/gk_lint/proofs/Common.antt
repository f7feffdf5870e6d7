-- The names from elsewhere that the proofs of this crate cite, passed on from one place. Declares nothing.
pub use Rattle.std.proofs.Common.{Bool, Bor, IfOk, List, None, Option, Some, [], add-one, ap, append_assoc, ap₂, arith, chars, cond, drop, false, filter, find, flat_map, fold, get_or, if◌then◌else◌, inl, inr, length, length-take-le, map, max, nat_lt, not, option_map, refl, rules, subst, suc, sym, take, take_all, true, zero, ℕ, ◌&&◌, ◌++◌, ◌+◌, ◌-◌, ◌<◌, ◌==◌, ◌||◌, ◌∙◌, ◌∷◌, ◌≡◌, ◌≤◌}
pub use Rattle.std.proofs.Math.Bool.{or-false, or_assoc, or_comm}
pub use Rattle.std.proofs.Math.Seq.{drop-cons}
pub use Rattle.std.proofs.lemmas.Bool.{MatchBool-at_true, and_from, and_parts, cases_Bool, cases_from_iff, eq-eqb, eqb-true, false_from_ne_true, or_cases, or_left, or_right, true≢false}
pub use Rattle.std.proofs.lemmas.Bool.Decides.{nat_tests}
pub use Rattle.std.proofs.lemmas.Fn.{always_returns_same}
pub use Rattle.std.proofs.lemmas.Grind.{common_steps}
pub use Rattle.std.proofs.lemmas.Iterator.Consumers.{YieldsList-end, YieldsList-turn, map_from_collect}
pub use Rattle.std.proofs.lemmas.Iterator.Splits.{YieldsList-from_lines, YieldsList-from_str_split}
pub use Rattle.std.proofs.lemmas.List.{append-nil, drop_all, length_push, take-map}
pub use Rattle.std.proofs.lemmas.List.Elements.{filter_agree}
pub use Rattle.std.proofs.lemmas.List.Folds.{list_all-map, list_any-append}
pub use Rattle.std.proofs.lemmas.List.Sorted.{IsNonDecreasingBy-from_default, IsNonDecreasingBy-from_sort, IsNonDecreasingBy-from_sort_by_key, list_any-IsPermutation}
pub use Rattle.std.proofs.lemmas.Slice.Eq.{bytes_eq-Decides}
pub use Rattle.std.proofs.lemmas.Str.{encodes-IsAscii}
pub use Rattle.std.specs.Char.{to_ascii_lowercase}
pub use Rattle.std.specs.Fn.{Called, ComputesKey}
pub use Rattle.std.specs.List.{AllByRecursion, enumerate_from, list_any}
pub use Rattle.std.specs.List.Sorted.{IsNonDecreasingBy, IsPermutation, IsStableByKey, ties}
pub use Rattle.std.specs.Option.{option_or}
pub use Rattle.std.specs.Ordering.{is_lt, nat_cmp}
pub use Rattle.std.specs.Prelude.{Err}
pub use Rattle.std.specs.Str.{IsAscii, bytes_eq, encode_utf8_all}
pub use Rattle.std.specs.Str.Lines.{lines}
pub use Rattle.std.specs.String.{string_bytes}
pub use Rattle.gk_gherkin.specs.Feature.{ExamplesValue, FeatureValue, RowValue, RuleValue, ScenarioValue, StepValue, examples_value, feature_value, row_value, rule_value, scenario_value, step_value, texts}
pub use Rattle.gk_gherkin.specs.Hooks.{hook_value}
pub use Rattle.gk_gherkin.specs.Text.{begins, trim}
pub use Rattle.gk_gherkin.specs.declared.class.Class.{Class}
pub use Rattle.gk_gherkin.specs.declared.feature.Examples.{Examples}
pub use Rattle.gk_gherkin.specs.declared.feature.Row.{Row}
pub use Rattle.gk_select.specs.Case.{CaseValue}
pub use Rattle.gk_select.specs.Expansion.{IsExpandable, RowsFit, examples_cases, plain_case, row_case, rule_cases, scenario_cases}
unfoldable pub use Rattle.gk_select.specs.Expansion.{cases}
pub use Rattle.gk_select.specs.Filling.{filled, filled_step}
pub use Rattle.gk_select.specs.Inherited.{InheritedValue, background_steps, inherited_in_feature, inherited_in_rule}
pub use Rattle.gk_select.specs.Outline.{AllFit, FitsHeader, is_outline}
pub use Rattle.gk_steps.specs.Action.{action_row_value}
pub use Rattle.gk_steps.specs.Finding.{EntryValue, LibraryValue, entry_value, entry_values}
pub use Rattle.gk_steps.specs.Pattern.{PieceValue, piece_values}
pub use Rattle.gk_steps.specs.PatternReading.{pieces_of}
pub use denote.Param.Members.{Mut}
pub use Rattle.gk_lint.specs.ExampleParts.{part_value}
pub use Rattle.gk_lint.specs.Findings.{AreInOrder, FindingValue, HintValue, Nearest, finding_value, finding_values, hint_value, named_once}
pub use Rattle.gk_lint.specs.LibraryCauses.{first_match, further_field, has_other_kind, is_near, lacks, parts_value}
pub use Rattle.gk_lint.specs.LibraryUse.{unused_entries, unused_from}
pub use Rattle.gk_lint.specs.Likeness.{ExchangedIsWithinExchange, IsWithinExchange, IsWithinOne, OneOffIsWithinOne, exchanges_first, in_small, letters}
unfoldable pub use Rattle.gk_lint.specs.Likeness.{common_len, differ_at_first, is_exchanged, is_one_off, letter, same_letters}
pub use Rattle.gk_lint.specs.LineEnds.{has_cr}
pub use Rattle.gk_lint.specs.Lookups.{faults_in, faults_of, positions_in, positions_of}
pub use Rattle.gk_lint.specs.MissingParts.{missing_in_scenario, missing_parts}
pub use Rattle.gk_lint.specs.Misspelt.{IsAbove, is_prose, of_worded, worded}
pub use Rattle.gk_lint.specs.NamedTags.{named_by, without}
pub use Rattle.gk_lint.specs.NearestEntry.{compared, first_as_near, greatest_from, is_like, is_near_length, nearest_of, nearness}
pub use Rattle.gk_lint.specs.ScenarioLines.{lines_of_examples, lines_of_feature, lines_of_features, lines_of_rows, lines_of_scenarios}
pub use Rattle.gk_lint.specs.NumberSets.{is_among}
pub use Rattle.gk_lint.specs.ScenarioNames.{named_again, scenarios_of, scenarios_of_rules}
pub use Rattle.gk_lint.specs.StepHints.{cleanup_hint, first_hint, step_hint}
pub use Rattle.gk_lint.specs.TagUse.{idle_hooks, tags_in, tags_of, tags_of_rules, tags_of_scenario, tags_of_scenarios}
pub use Rattle.gk_lint.specs.TextSets.{in_set, is_one_of}
pub use Rattle.gk_lint.specs.UnexpectedLines.{classes_from}
pub use Rattle.gk_lint.specs.WrittenSteps.{LooksUpWhatIsRun, WrittenStep, all_written, background_steps_of, found_in, in_examples, in_rows, of_background, of_feature, of_hooks, of_rules, of_scenario, of_scenarios, rows_of, runs, runs_value, used_in, written}
pub use Rattle.gk_lint.specs.declared.findings.Finding.{Finding}
pub use Rattle.gk_lint.specs.declared.findings.FindingKind.TheVariants.{FileWithoutFeature}
pub use Rattle.gk_lint.specs.declared.line_context.LineContext.{LineContext}
pub use Rattle.gk_lint.specs.declared.line_context.LineContext.TheVariants.{Elsewhere}
pub use Rattle.gk_lint.specs.declared.misspelt.WordedLine.{WordedLine}
pub use Rattle.gk_lint.specs.declared.step_sites.StepSite.TheVariants.{Scenario}
pub use Rattle.gk_lint.specs.declared.example_parts.Part.{Part}
