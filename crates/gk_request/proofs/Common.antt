-- The names from elsewhere that the proofs of this crate cite, passed on from one place. Declares nothing.
pub use Rattle.std.proofs.Common.{Bool, Err, List, None, Ok, Option, Result, Some, [], add-one, ap, append_assoc, ap₂, arith, drop, false, get_or, inl, inr, length, length-append, map, option_map, refl, rules, set, subst, suc, sym, take, true, vec_len, zero, ℕ, ◌++◌, ◌+◌, ◌-◌, ◌<◌, ◌∙◌, ◌∷◌, ◌≡◌, ◌≢◌, ◌≤◌, ◌⊎◌}
pub use Rattle.std.proofs.KnownBytes.{Appends-trans, Consumes-trans}
pub use Rattle.std.proofs.Math.Seq.{take-add}
pub use Rattle.std.proofs.lemmas.Grind.{common_steps}
pub use Rattle.std.proofs.lemmas.List.{append-nil, drop_all, length-map, length-take, map_push, take_all}
pub use Rattle.std.proofs.lemmas.Result.{on_ok_weaker}
pub use Rattle.std.specs.Io.KnownBytes.{Appends, Consumes}
pub use Rattle.std.specs.List.{AllByRecursion}
pub use Rattle.std.specs.Prelude.{◌^◌, min, IfErr, IfOk, IsErrAnd, OnOk, slice_get, zip}
pub use Rattle.std.specs.String.{string_bytes}
pub use Rattle.std.specs.Vec.Iter.{into_iter_items}
pub use Rattle.gk_gherkin.specs.Feature.{FeatureValue, feature_value, rule_value, texts}
pub use Rattle.gk_gherkin.specs.Grammar.{HasOneReading, Reads}
pub use Rattle.gk_gherkin.specs.Hooks.{HookValue, hooks_value}
pub use Rattle.gk_gherkin.specs.HooksGrammar.{HaveOneHooksReading}
pub use Rattle.gk_gherkin.specs.Lines.{IsText, lines_of}
pub use Rattle.gk_gherkin.specs.ReadFault.{FaultSays, HooksFault}
pub use Rattle.gk_gherkin.specs.declared.feature.Feature.{Feature}
pub use Rattle.gk_gherkin.specs.declared.lines.TheConstants.{LONGEST_FILE}
pub use Rattle.gk_gherkin.specs.declared.read_fault.ReadFault.{ReadFault}
pub use Rattle.gk_run.specs.Chosen.{ChosenValue, HeadValue, IsFormed, MemberValue, chosen_value, head_value, member_of, members_of}
pub use Rattle.gk_run.specs.declared.chosen.Chosen.{Chosen}
pub use Rattle.gk_select.specs.Case.{CaseValue, case_value}
pub use Rattle.gk_select.specs.Choice.{chosen_by, is_chosen}
pub use Rattle.gk_select.specs.ExampleRows.{ExampleRowValue, row_lists}
pub use Rattle.gk_select.specs.Expansion.{cases}
pub use Rattle.gk_select.specs.OwnTags.{untagged, untagged_rule, with_own_tags}
pub use Rattle.gk_select.specs.RuleOrder.{FallIntoRules}
pub use Rattle.gk_select.specs.TagGrammar.{Expression}
pub use Rattle.gk_select.specs.TagRules.{ReadsTags}
pub use Rattle.gk_select.specs.declared.case.Case.{Case}
pub use Rattle.gk_select.specs.declared.select_fault.SelectFault.{SelectFault}
pub use Rattle.gk_select.specs.declared.select_fault.SelectFault.TheVariants.{BadTagText}
pub use Rattle.gk_steps.specs.DefaultFile.{default_text}
pub use Rattle.gk_steps.specs.Finding.{LibraryValue, library_value}
pub use Rattle.gk_steps.specs.LibraryFile.{LibraryReadingIsUnique}
pub use Rattle.gk_steps.specs.declared.library_fault.LibraryFault.{LibraryFault}
pub use denote.Ref.{Bor}
pub use Rattle.gk_request.specs.AllFaults.{AllFaultsAreFound, AreFaultsOf, IsFoundIn, SaysOfFile, files_after, run_files}
pub use Rattle.gk_request.specs.Inputs.{AreHooks, AreRead, AreRowsIf, AreRowsOf, AreRules, Inputs, InputsAreUnique, IsFirstBadText, IsLibrary, IsReadAs, IsReadOnto, IsWithinLimit, chosen_of, head_of, member_by, rows_onto, with_reading, with_rows}
pub use Rattle.gk_request.specs.Request.{FilesValue, Request, asked, asked_of, bytes_of, request_of_files, files_value}
pub use Rattle.gk_request.specs.RunFault.{DoesRead, IsFaultOf, IsFirstUnread, IsUnread, IsUnreadBefore, RunFile, SaysFile, SaysSourceAt, SaysSources, StopsAtFile, reading_order, hooks_file, library_file, number_of, source_at, sources_from}
pub use Rattle.gk_request.specs.Source.{SourceValue, source_value}
pub use Rattle.gk_request.specs.declared.request.Options.{Options}
pub use Rattle.gk_request.specs.declared.run_fault.RunFault.{RunFault}
pub use Rattle.gk_request.specs.declared.run_fault.RunFault.TheVariants.{Hooks, Library, Memory, Read, Select, Write}
