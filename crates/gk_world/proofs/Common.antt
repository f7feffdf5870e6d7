-- The names from elsewhere that the proofs of this crate cite, passed on from one place. Declares nothing.
pub use Rattle.std.proofs.Common.{Bool, Err, IfErr, IfNone, IfOk, IfSome, IsSome, List, MatchOption, None, Ok, OnErr, OnOk, Option, Result, Some, String, [], ap, arith, bytes_eq, cond, drop, false, get_or, get_or-set_other, get_or-set_same, inl, inr, is_none, is_ok, is_some, length, length-append, map, option_map, option_to_list, position, refl, set, slice_get, string_bytes, string_eq, subst, suc, sym, take, true, true≢false, zero, ℕ, ◌++◌, ◌+◌, ◌-◌, ◌<◌, ◌||◌, ◌∙◌, ◌∷◌, ◌≡◌, ◌≤◌, ◌⊎◌}
pub use Rattle.std.proofs.Math.Seq.{drop-length, take-append_seam, take-length}
pub use Rattle.std.proofs.lemmas.Bool.Decides.{Decides-eqb}
pub use Rattle.std.proofs.lemmas.Cmp.{nat_list_cmp_total}
pub use Rattle.std.proofs.lemmas.Grind.{common_steps}
pub use Rattle.std.proofs.lemmas.List.{drop-append-le, get_or-take, length-set, length-take-le, map-set, take-append-drop, take-append-le}
pub use Rattle.std.proofs.lemmas.List.Quantifiers.{position-Some}
pub use Rattle.std.proofs.lemmas.Map.Text.{btree_map_updates_text, is_eq-slice_cmp}
pub use Rattle.std.proofs.lemmas.Slice.Eq.{bytes_eq-Decides}
pub use Rattle.std.proofs.lemmas.Str.{IsCharBoundary-at_seam}
pub use Rattle.std.specs.BTreeMap.{BTreeMap, get_by_text, is_at}
pub use Rattle.std.specs.Cmp.{eq_by_cmp_equiv}
pub use Rattle.std.specs.Cmp.Lexicographic.{slice_cmp}
pub use Rattle.std.specs.FinMap.{empty, find, get, get-empty, get-from_entries, get-insert, get-remove, nat_cmp-IsAntisymmetric, same_map, slice_cmp-IsAntisymmetric}
pub use Rattle.std.specs.Global.{Global, Vec}
pub use Rattle.std.specs.List.{AllByRecursion}
pub use Rattle.std.specs.Map.{keys_of, lookup, values_of}
pub use Rattle.std.specs.Option.{option_or}
pub use Rattle.std.specs.Ordering.{nat_cmp}
pub use Rattle.std.specs.Prelude.{if◌then◌else◌, ok_or, unwrap_or}
pub use Rattle.std.specs.String.{string_cmp}
pub use Rattle.std.specs.String.Boundary.{IsSplitPoint}
pub use Rattle.indexmap.proofs.CallerLemmas.{insert_entry-new}
pub use Rattle.indexmap.specs.IndexMap.{IndexMap, insert_entry, set_value_at}
pub use Rattle.gk_world.specs.Cells.{Cell, IsOnly, Slot, cell_at}
pub use Rattle.gk_world.specs.Journal.{FitAll, rewound}
pub use Rattle.gk_world.specs.Listing.{AreEntries, Lists, Notes, is_named, texts_of}
pub use Rattle.gk_world.specs.Refusals.{IsAnswer, IsFault, append_refusal, delete_refusal, is_too_long, joined, put_refusal, rename_refusal}
pub use Rattle.gk_world.specs.Reversible.{with_values}
pub use Rattle.gk_world.specs.Sandbox.{Becomes, ChangesAreOfState, EndsByUndos, EndsLayer, HasShortTexts, LayersGiveBack, LeadsTo, NoneTooLong, Records, Rewinds, SandboxValue, TextsAreShort, UndosGiveBack, change, depth, done, layer, layer_begun, with_layers, with_value, without_value}
pub use Rattle.gk_world.specs.Slots.{Adds, HasCell, IsAt, IsMissing, IsNew, IsNewest, IsPosition, Moves, NamesDiffer, Undoes, Writes, WritesEach, cells_of, cut_to, grown, layers_of, map_at, name_at, olds_of, seen, slots_of, with_cell, with_cells, with_moved}
pub use Rattle.gk_world.specs.State.{Contents, Map, Texts, enter, laid, laid_over, layers, outer_of, own_of, see, state_of, with_entries, with_entry, with_innermost, with_layer, with_text, without}
pub use Rattle.gk_world.specs.Stored.{AreStarts, IsSound, open_starts, saved_of, seen_undo, seen_undos, value_of}
pub use Rattle.gk_world.specs.Values.{IsLayer, state_at}
pub use Rattle.gk_world.specs.World.{CanApply, Fits, IsClear, IsHere, Refuses, Steps, changed, contents_of, refusal, undone}
pub use Rattle.gk_world.specs.declared.refusals.WorldFault.{WorldFault}
pub use Rattle.gk_world.specs.declared.refusals.WorldFault.TheVariants.{Memory}
pub use Rattle.gk_world.specs.declared.slots.SlotUndo.{SlotUndo}
pub use Rattle.gk_world.specs.declared.slots.SlotUndo.TheVariants.{Created, Cut, Moved, MovedToNew, Restore}
pub use Rattle.gk_world.specs.declared.table.TableChange.{TableChange}
pub use Rattle.gk_world.specs.declared.values.ValueChange.{ValueChange}
pub use Rattle.gk_world.specs.declared.world.World.{World}
pub use Rattle.gk_world.specs.declared.world.WorldChange.{WorldChange}
pub use Rattle.gk_world.specs.declared.world.WorldUndo.{WorldUndo}
pub use Rattle.gk_world.specs.declared.world.WorldUndo.TheVariants.{Env, File, Value}
