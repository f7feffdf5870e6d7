-- The end of a library's entries for steps of one type.
use Rattle.std.specs.Prelude.{◌≤◌, IsTrue, Bool, true, false, List, drop, length, slice_get, ℕ, zero, suc, is_none, is_some}
use Rattle.std.specs.Option.{option_map_or}
use Rattle.std.specs.List.{list_all}
use Rattle.gk_steps.specs.declared.library.Entry.{Entry}

-- Whether all entries from this position on are for steps of every type.
abbrev pub are_for_each_from : ℕ → List Entry → Bool
are_for_each_from position entries = list_all (λ (e : Entry). is_none e.step_type) (drop position entries)

-- Whether the entry right before this position is for steps of one type. Position 0 has no entry before it and passes.
abbrev pub is_for_one_before : ℕ → List Entry → Bool
is_for_one_before zero entries = true
is_for_one_before (suc position) entries = option_map_or (λ (e : Entry). is_some e.step_type) (slice_get entries position) false

-- The entries for steps of one type end at this position. It is the least position from which all entries are for steps of every type.
pub record IsTypedEnd (position : ℕ) (entries : List Entry) : Type 0 where
  pub within : position ≤ length entries
  pub rest : IsTrue (are_for_each_from position entries)
  pub last : IsTrue (is_for_one_before position entries)
