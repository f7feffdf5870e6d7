-- What a change of values does to the maps of their layers, and why it can be refused.
use Rattle.std.specs.Prelude.{◌≡◌, ℕ, ◌<◌, ◌≤◌, ◌-◌, List, Option, Some, None, string_bytes}
use Rattle.std.specs.FinMap as finite
use Rattle.gk_world.specs.declared.refusals.WorldFault.{WorldFault}
use Rattle.gk_world.specs.declared.values.ValueChange.{ValueChange}
use Rattle.gk_world.specs.declared.values.ValueChange.TheVariants.{Set, Delete}
use Rattle.gk_world.specs.Cells.{Slot, Cell}
use Rattle.gk_world.specs.State.{State, state_of, layers}
use Rattle.gk_world.specs.Refusals.{put_refusal, delete_refusal, IsFault}
use Rattle.gk_world.specs.Slots.{layers_of, Writes}

-- The state with the values of the given number of layers, and no file or variable. (behave's documentation: context layers)
abbrev pub state_at : ℕ → List Slot → State
state_at d s = state_of (record { files = finite.empty; env = finite.empty; values = layers_of d s })

-- The layer of a change, counted from 1 at the outermost. (behave's documentation: context layers)
abbrev pub layer_of : ValueChange → ℕ
layer_of (Set layer name text) = layer
layer_of (Delete layer name) = layer

-- A layer's number: at least 1, and at most the number of layers that can be open. (behave's documentation: context layers)
pub record IsLayer (layer : ℕ) : Type 0 where
  pub from : 0 < layer
  pub to : layer ≤ layers

-- The reason to refuse a change of values, if there is one. (behave's documentation: context layers)
abbrev pub refusal : ValueChange → State → Option WorldFault
refusal (Set layer name text) s = put_refusal (string_bytes name) (string_bytes text)
refusal (Delete layer name) s = delete_refusal s (string_bytes name)

-- The name whose value a change sets or deletes.
abbrev pub name_of : ValueChange → List ℕ
name_of (Set layer name text) = string_bytes name
name_of (Delete layer name) = string_bytes name

-- The text of the name after a change, or none.
abbrev pub text_of : ValueChange → Cell
text_of (Set layer name text) = Some (string_bytes text)
text_of (Delete layer name) = None

-- Nothing refuses the change at slots s, and t is its outcome.
pub record Steps (change : ValueChange) (s t : List Slot) : Type 0 where
  pub allowed : refusal change (state_at (layer_of change) s) ≡ None
  pub done : Writes (name_of change) (layer_of change - 1) (text_of change) s t

-- The change can be refused at slots s with this fault.
abbrev pub Refuses : ValueChange → List Slot → WorldFault → Type 0
Refuses change s fault = IsFault (refusal change (state_at (layer_of change) s)) fault
