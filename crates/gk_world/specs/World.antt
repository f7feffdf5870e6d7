-- Files, variables and values together: their changes, and the contents that they represent.
use Rattle.std.specs.Prelude.{◌≡◌, ℕ, ◌<◌, ◌≤◌, Option}
use Rattle.std.specs.FinMap as finite
use Rattle.gk_world.specs.declared.refusals.WorldFault.{WorldFault}
use Rattle.gk_world.specs.declared.world.World.{World}
use Rattle.gk_world.specs.declared.world.WorldUndo.{WorldUndo}
use Rattle.gk_world.specs.declared.world.WorldUndo.TheVariants as undos
use Rattle.gk_world.specs.declared.world.WorldChange.{WorldChange}
use Rattle.gk_world.specs.declared.world.WorldChange.TheVariants as changes
use Rattle.gk_world.specs.State.{layers, state_of, Contents, with_entry, with_innermost}
use Rattle.gk_world.specs.Slots.{map_at, layers_of}
use Rattle.gk_world.specs.Slots as slot
use Rattle.gk_world.specs.Table as table
use Rattle.gk_world.specs.Values as value

-- The contents of the world if the given number of layers is open. (behave's documentation: context layers)
abbrev pub contents_of : ℕ → World → Contents
contents_of d w = record { files = map_at 0 w.files; env = map_at 0 w.env; values = layers_of d w.values }

-- Whether an undo fits its part of the world.
abbrev pub Fits : WorldUndo → World → Type 0
Fits (undos.File u) w = slot.Fits 1 u w.files
Fits (undos.Env u) w = slot.Fits 1 u w.env
Fits (undos.Value u) w = slot.Fits layers u w.values

-- The world before a change.
abbrev pub undone : WorldUndo → World → World
undone (undos.File u) w = record w { files = slot.undone u w.files }
undone (undos.Env u) w = record w { env = slot.undone u w.env }
undone (undos.Value u) w = record w { values = slot.undone u w.values }

-- The undo of one part, on maps; the other parts stay.
abbrev pub Undoes : WorldUndo → World → World → Type 0
Undoes (undos.File u) v w = slot.Undoes u v.files w.files × (w.env ≡ v.env) × (w.values ≡ v.values)
Undoes (undos.Env u) v w = slot.Undoes u v.env w.env × (w.files ≡ v.files) × (w.values ≡ v.values)
Undoes (undos.Value u) v w = slot.Undoes u v.values w.values × (w.files ≡ v.files) × (w.env ≡ v.env)

-- No part has a name twice.
pub record NamesDiffer (w : World) : Type 0 where
  pub files : slot.NamesDiffer w.files
  pub env : slot.NamesDiffer w.env
  pub values : slot.NamesDiffer w.values

-- One part is the change's outcome, and the others stay.
abbrev pub Steps : WorldChange → World → World → Type 0
Steps (changes.File c) v w = table.Steps c v.files w.files × (w.env ≡ v.env) × (w.values ≡ v.values)
Steps (changes.Env c) v w = table.Steps c v.env w.env × (w.files ≡ v.files) × (w.values ≡ v.values)
Steps (changes.Value c) v w = value.Steps c v.values w.values × (w.files ≡ v.files) × (w.env ≡ v.env)

-- The change can be refused with this fault.
abbrev pub Refuses : WorldChange → World → WorldFault → Type 0
Refuses (changes.File c) w e = table.Refuses c w.files e
Refuses (changes.Env c) w e = table.Refuses c w.env e
Refuses (changes.Value c) w e = value.Refuses c w.values e

-- The layer of a change of a value is one that can be open. (behave's documentation: context layers)
abbrev pub CanApply : WorldChange → Type 0
CanApply (changes.File c) = Unit {0}
CanApply (changes.Env c) = Unit {0}
CanApply (changes.Value c) = value.IsLayer (value.layer_of c)

-- A change of a value is in the innermost of the given number of layers. (behave's documentation: context layers)
abbrev pub IsHere : WorldChange → ℕ → Type 0
IsHere (changes.File c) d = Unit {0}
IsHere (changes.Env c) d = Unit {0}
IsHere (changes.Value c) d = (value.layer_of c ≡ d) × (0 < d)

-- The contents after a change.
abbrev pub changed : WorldChange → Contents → Contents
changed (changes.File c) m = record m { files = table.changed c m.files }
changed (changes.Env c) m = record m { env = table.changed c m.env }
changed (changes.Value c) m = record m { values = with_innermost (λ v. with_entry v (value.name_of c) (value.text_of c)) m.values }

-- The reason to refuse a change, if there is one.
abbrev pub refusal : WorldChange → Contents → Option WorldFault
refusal (changes.File c) m = table.refusal c m.files
refusal (changes.Env c) m = table.refusal c m.env
refusal (changes.Value c) m = value.refusal c (state_of m)

-- No layer outside the first d has a value. (behave's documentation: context layers)
abbrev pub IsClear : ℕ → World → Type 0
IsClear d w = (k : ℕ) → d ≤ k → map_at k w.values ≡ finite.empty
