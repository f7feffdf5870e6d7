-- What a change of a table does to its map, and why it can be refused.
use Rattle.std.specs.Prelude.{◌≡◌, List, [], Option, None, unwrap_or, string_bytes}
use Rattle.std.specs.FinMap as finite
use Rattle.gk_world.specs.declared.refusals.WorldFault.{WorldFault}
use Rattle.gk_world.specs.declared.table.TableChange.{TableChange}
use Rattle.gk_world.specs.declared.table.TableChange.TheVariants.{Put, Append, Remove, Rename}
use Rattle.gk_world.specs.Cells.{Slot}
use Rattle.gk_world.specs.State.{Texts}
use Rattle.gk_world.specs.Refusals.{put_refusal, append_refusal, remove_refusal, rename_refusal, joined, IsFault}
use Rattle.gk_world.specs.Slots.{map_at}

-- The reason to refuse a change of a map, if there is one.
abbrev pub refusal : TableChange → Texts → Option WorldFault
refusal (Put name text) m = put_refusal (string_bytes name) (string_bytes text)
refusal (Append name more) m = append_refusal (finite.get m) (string_bytes name) (string_bytes more)
refusal (Remove name) m = remove_refusal (finite.get m) (string_bytes name)
refusal (Rename name to) m = rename_refusal (finite.get m) (string_bytes name) (string_bytes to)

-- The map after a change.
abbrev pub changed : TableChange → Texts → Texts
changed (Put name text) m = finite.insert m (string_bytes name) (string_bytes text)
changed (Append name more) m = finite.insert m (string_bytes name) (joined (finite.get m) (string_bytes name) (string_bytes more))
changed (Remove name) m = finite.remove m (string_bytes name)
changed (Rename name to) m = finite.insert (finite.remove m (string_bytes name)) (string_bytes to) (unwrap_or (finite.get m (string_bytes name)) [])

-- Nothing refuses the change at slots s, and t is its outcome.
pub record Steps (change : TableChange) (s t : List Slot) : Type 0 where
  pub allowed : refusal change (map_at 0 s) ≡ None
  pub done : map_at 0 t ≡ changed change (map_at 0 s)

-- The change can be refused at slots s with this fault.
abbrev pub Refuses : TableChange → List Slot → WorldFault → Type 0
Refuses change s fault = IsFault (refusal change (map_at 0 s)) fault
