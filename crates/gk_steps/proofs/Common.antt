-- The names from elsewhere that the proofs of this crate cite, passed on from one place. Declares nothing.
pub use Rattle.std.proofs.Common.{Bool, Bor, IsTrue, List, None, Option, Some, [], ap, append_assoc, arith, codes, cond, drop, eq-eqb, false, find, flat_map, get_or, inl, inr, length, length-append, length-drop, length-take, lit≤, map, nat_eq, nat_lt, negsuc, not, option_map, pos, refl, rules, string_bytes, subst, suc, sym, take, true, zero, ℕ, ℤ, ◌%◌, ◌&&◌, ◌*◌, ◌++◌, ◌+◌, ◌-◌, ◌<◌, ◌==◌, ◌^◌, ◌||◌, ◌∙◌, ◌∷◌, ◌≡◌, ◌≢◌, ◌≤◌, ◌⊎◌}
pub use Rattle.std.proofs.Math.Nat.{eq-or-lt_of_le, mul-le-mul}
pub use Rattle.std.proofs.Math.Seq.{drop-append_seam, drop-length, take-append_seam}
pub use Rattle.std.proofs.lemmas.Bool.{cases_lt, eqb-true}
pub use Rattle.std.proofs.lemmas.Bool.Decides.{eqb_tells, nat_tests}
pub use Rattle.std.proofs.lemmas.Grind.{common_steps}
pub use Rattle.std.proofs.lemmas.Int.Digits.{digits_value_push}
pub use Rattle.std.proofs.lemmas.Iterator.Consumers.{YieldsList-end, YieldsList-turn}
pub use Rattle.std.proofs.lemmas.Iterator.Splits.{YieldsList-from_lines}
pub use Rattle.std.proofs.lemmas.List.{append-nil, drop-drop, drop_all, drop_at, drop_more, get_or-drop, get_or-map, get_or-take, get_or_append_left, get_or_push, get_or_read, length-map, length-take-le, length_push, map-append, take-append-drop, take-map, take-take, take_all, take_at, take_more, take_rest}
pub use Rattle.std.proofs.lemmas.List.Elements.{filter-append}
pub use Rattle.std.proofs.lemmas.List.Sums.{passes_at_first, prefix_len-le-length, prefix_len_passes}
pub use Rattle.std.proofs.lemmas.Result.{err_from_is_err_and}
pub use Rattle.std.proofs.lemmas.Slice.Eq.{bytes_eq-Decides}
pub use Rattle.std.proofs.lemmas.Str.{IsCharBoundary-after_ascii, IsCharBoundary-before_ascii, IsCharBoundary-end, IsCharBoundary-from_drop, IsCharBoundary-from_rest, IsCharBoundary-from_take, IsCharBoundary-past_char, IsCharBoundary-start, IsUtf8-append, IsUtf8-between, IsUtf8-drop, IsUtf8-from_ascii, IsUtf8-from_is_utf8, IsUtf8-string_bytes, IsUtf8-take, chars-append, chars-nil, chars_past_char, drop_past_char, encode_same, is_utf8-from_IsUtf8, len_utf8_bounds, length-encode}
pub use Rattle.std.proofs.lemmas.Str.Parse.{digits_value-take-le}
pub use Rattle.std.specs.Char.{digit_value, is_digit, len_utf8}
pub use Rattle.std.specs.Int.{w64}
pub use Rattle.std.specs.List.{AllByRecursion, ends_with, list_all, position_or_len, prefix_len, starts_with}
pub use Rattle.std.specs.Option.{option_or}
pub use Rattle.std.specs.Prelude.{Err, FitsSigned, IfErr, IfOk, IsErrAnd, IsSome, IsUtf8, MatchBool, Ok, Result, String, Vec, filter, if◌then◌else◌, is_none, is_some, slice_get, slice_set, ⊤, ◌↔◌}
pub use Rattle.std.specs.Result.{result_ok}
pub use Rattle.std.specs.Str.{IsCharBoundary, bytes_eq}
unfoldable pub use Rattle.std.specs.Str.{chars, is_utf8}
pub use Rattle.std.specs.Str.Lines.{lines}
pub use Rattle.std.specs.Str.Parse.{AllDigits, IsNumeral, ParsesSigned, digits_value, signed_digits_value, without_leading_plus, without_leading_sign}
pub use Rattle.std.specs.declared.alloc.AllocError.{AllocError}
pub use Rattle.std.specs.declared.alloc.Global.{Global}
pub use lib.Utf8.{encode, encodes}
pub use Rattle.gk_gherkin.specs.Feature.{texts}
pub use Rattle.gk_gherkin.specs.Lines.{IsNotUtf8At, IsText, IsTooLong, LineValue, Lines, borrowed_value, limit, line_at, lines_of, numbered_from}
pub use Rattle.gk_gherkin.specs.Text.{begins}
pub use Rattle.gk_gherkin.specs.declared.feature.StepType.{StepType}
pub use denote.Shadow.{shadow}
pub use denote.Text.{Utf8}
pub use Rattle.gk_steps.specs.Action.{ActionRowValue, action_row_value, kind_of_field, row_among, word_texts}
unfoldable pub use Rattle.gk_steps.specs.Action.{action_row}
pub use Rattle.gk_steps.specs.Advances.{HasDigits, IsAdvance, IsAdvanceTo, IsDigitsTo, IsLongest, IsLongestTo, IsMatchedTo, IsNearest, IsNotAfter, IsReachTo, IsRunTo, CanTake, part, values_of}
pub use Rattle.gk_steps.specs.Captures.{AreKept, Hit, HitsWhatIsFound, IsHit, IsKeptResult, KeepsMore, KeepsRest, hit_of, kept_if}
pub use Rattle.gk_steps.specs.CharBoundaries.{AreBoundaries, AreBoundariesFrom}
pub use Rattle.gk_steps.specs.Decimal.{IsNumber, is_i64, is_number, is_numeral, number_of}
pub use Rattle.gk_steps.specs.DefaultFile.{default_entries}
unfoldable pub use Rattle.gk_steps.specs.DefaultFile.{default_text}
pub use Rattle.gk_steps.specs.Digits.{HasNumber, IsNumberRow, KnowsDigits}
pub use Rattle.gk_steps.specs.EntryIndex.{AreListed, GrowsLengths, HasLongLiteral, IsEndsKey, IsIndexOf, IsKeyOf, IsLeast, IsLiteralKey, Lists, NoneIsLessAt, Skips, SkipsAt, SkipsByEnds, SkipsEntries, SkipsInside, ends_key, ends_of, first_literal, key_over, last_byte, last_literal, literal_of, window_at}
pub use Rattle.gk_steps.specs.FilesTable.{are_pairs}
pub use Rattle.gk_steps.specs.FilledCells.{GoesOnBy, cells_of_type, table_cells}
pub use Rattle.gk_steps.specs.Finding.{EntryValue, FindsWhatIsFound, FitsLibrary, FoundValue, HasCandidate, HasTableCandidate, HasUsedFields, HaveKindsOf, IsDigit, IsFirstFound, IsFound, IsFoundAny, IsFoundOf, IsUseOf, LibraryValue, MayNeedTable, MayTakeDigit, NoneBefore, NoneFound, action_of, entry_value, field_named, field_of, found_at, found_from, found_value, is_of_type, library_value, match_where}
unfoldable pub use Rattle.gk_steps.specs.Finding.{found, found_any}
pub use Rattle.gk_steps.specs.Leftmost.{BeginWithoutDigit, CanStandAt, FindsRest, HasNumberTo, IsDigitsEnd, IsFirst, IsLeft, IsPieceEnd, StandsNowhereBefore, TakesUpTo}
pub use Rattle.gk_steps.specs.Library.{are_for_each_from, is_for_one_before}
pub use Rattle.gk_steps.specs.LibraryFault.{LibraryFaultIsUnique, LibraryFaultSays, LibraryLinesFaultSays}
pub use Rattle.gk_steps.specs.LibraryFile.{EntryNeedsMemory, HasNeededFields, HasPattern, HasRightKinds, IsAmbiguous, IsBadPattern, IsBadType, IsMissingField, IsOtherKind, IsReadableLibrary, IsUnknownAction, LibraryNeedsMemory, LibraryReadingIsUnique, ReadsLibrary, Sides, SpellEntries, SpellsEntry, StopsLibraryAt, is_ignored}
unfoldable pub use Rattle.gk_steps.specs.LibraryFile.{last_arrow, sides_of, type_of}
pub use Rattle.gk_steps.specs.LibraryLine.{AddsLine, EntryFaultSays, EntryTextFaultSays, FitsAction, HasOtherKind, Ignored, IsEntryText, LacksField, LineFaultSays, Spelled, has_needed, has_right_kind, has_right_kinds, is_none_or_kind}
pub use Rattle.gk_steps.specs.LiteralEnds.{EndsWith, EndsWithPiece, FitsEnd, FitsStart, IsAfterStart}
pub use Rattle.gk_steps.specs.LiteralOrder.{HasLiterals, LacksLiterals}
pub use Rattle.gk_steps.specs.Matching.{AreSpans, FieldValue, IsBestMatch, IsMatchResult, IsPreferred, IsSpan, Matches, MatchesNot, NumberField, TextField, best_match, field_match, field_value, is_span, longest_match, rest_where, shortest_match, span_value, span_values, spans_with, woven}
unfoldable pub use Rattle.gk_steps.specs.Matching.{match_of}
pub use Rattle.gk_steps.specs.Pattern.{AreDistinctNames, AreLongestRuns, BeginsWithPiece, FieldPiece, Literal, PieceValue, SpellsPattern, field_kind, field_names, is_field_name, is_name_byte, is_name_letter, pattern_value, piece_value, spelled_literal, spelled_piece}
pub use Rattle.gk_steps.specs.PatternReading.{AfterBrace, AfterColon, InName, Outside, after_byte, are_longest_runs, pieces_from, spells_pattern}
unfoldable pub use Rattle.gk_steps.specs.PatternReading.{pieces_of}
pub use Rattle.gk_steps.specs.Spelling.{AddsField, AddsLiteral, ArePiecesLeft, BeginWithField, BeginsAtBrace, EndsLiteral, EndsName, HasField, HasLiteral, HasNoField, IsReadTo, IsSpelled, are_distinct, field_tail, is_brace, is_pattern, literal_pieces}
pub use Rattle.gk_steps.specs.TableRows.{IsAnyBefore, IsCell, IsPlainRow, IsRow, IsRowOver, IsRowTo, IsTable, IsWholeTable}
pub use Rattle.gk_steps.specs.UsedFields.{AreFirst, AreJoined, HasRest, IsAdded, KeepsFirst}
pub use Rattle.gk_steps.specs.declared.action.Action.{Action}
pub use Rattle.gk_steps.specs.declared.action.ActionRow.{ActionRow}
pub use Rattle.gk_steps.specs.declared.captures.NoCaptures.{NoCaptures}
pub use Rattle.gk_steps.specs.declared.entry_index.Ends.{Ends}
pub use Rattle.gk_steps.specs.declared.entry_index.Index.{Index}
pub use Rattle.gk_steps.specs.declared.filled_cells.CellCounter.{CellCounter}
pub use Rattle.gk_steps.specs.declared.library.Entry.{Entry}
pub use Rattle.gk_steps.specs.declared.library_fault.LibraryFault.{LibraryFault}
pub use Rattle.gk_steps.specs.declared.pattern.FieldKind.{FieldKind}
pub use Rattle.gk_steps.specs.declared.pattern.FieldKind.TheVariants.{Decimal, Plain}
pub use Rattle.gk_steps.specs.declared.pattern.Piece.{Piece}
pub use Rattle.gk_steps.specs.declared.used_fields.FirstFields.{FirstFields}
pub use Rattle.gk_steps.specs.declared.used_fields.FoundUse.{FoundUse}
