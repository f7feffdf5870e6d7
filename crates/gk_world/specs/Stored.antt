-- How a sandbox is stored: the value that a world, its undos and its starts give.
use Rattle.std.specs.Prelude.{◌≡◌, ℕ, zero, suc, ◌≤◌, List, [], ◌∷◌, length, drop, slice_index}
use Rattle.gk_world.specs.declared.world.World.{World}
use Rattle.gk_world.specs.declared.world.WorldUndo.{WorldUndo}
use Rattle.gk_world.specs.declared.world.WorldUndo.TheVariants.{File, Env, Value}
use Rattle.gk_world.specs.State.{layers, Contents}
use Rattle.gk_world.specs.Reversible.{of_files, of_env, of_layer, UndoValue}
use Rattle.gk_world.specs.Sandbox.{SandboxValue, TextsAreShort}
use Rattle.gk_world.specs.Slots.{cell_of, olds_of}
use Rattle.gk_world.specs.Journal.{rewound, FitAll}
use Rattle.gk_world.specs.World as world
use Rattle.gk_world.specs.World.{contents_of, Fits, IsClear}

-- The value of an undo in this world.
abbrev pub seen_undo : World → WorldUndo → UndoValue
seen_undo w (File u) = record { which = of_files; old = olds_of w.files u }
seen_undo w (Env u) = record { which = of_env; old = olds_of w.env u }
seen_undo w (Value u) = record { which = of_layer (suc (cell_of u)); old = olds_of w.values u }

-- The values of undos, oldest first: each in the world with the newer ones undone, so as it was recorded.
abbrev pub seen_undos : World → List WorldUndo → List UndoValue
seen_undos w [] = []
seen_undos w (u ∷ us) = seen_undo (rewound world.undone us w) u ∷ seen_undos w us

-- The starts of the open layers, the innermost first.
abbrev pub open_starts : ℕ → List ℕ → List ℕ
open_starts zero starts = []
open_starts (suc d) starts = slice_index starts d ∷ open_starts d starts

-- The contents that rewinding to each start would give.
abbrev pub saved_of : List ℕ → List WorldUndo → World → List Contents
saved_of [] us w = []
saved_of (m ∷ ms) us w = contents_of (length ms) (rewound world.undone (drop m us) w) ∷ saved_of ms us w

-- The sandbox's value that a world, its undos and its starts give.
abbrev pub value_of : World → List WorldUndo → List ℕ → SandboxValue
value_of w us ms = record { now = contents_of (length ms) w; saved = saved_of ms us w; entries = seen_undos w us; starts = ms }

-- No start is above n or an inner start. The outermost start is 0, and so is n if no layer is open. No layer had values before it began.
abbrev pub AreStarts : List ℕ → ℕ → List WorldUndo → World → Type 0
AreStarts [] n us w = n ≡ 0
AreStarts (m ∷ ms) n us w = (m ≤ n) × IsClear (length ms) (rewound world.undone (drop m us) w) × AreStarts ms m us w

-- The invariant of a sandbox between its calls.
pub record IsSound (w : World) (us : List WorldUndo) (ms : List ℕ) : Type 0 where
  pub room : length ms ≤ layers
  pub clear : IsClear (length ms) w
  pub ordered : AreStarts ms (length us) us w
  pub fit : FitAll world.undone Fits us w
  pub texts : TextsAreShort (value_of w us ms)
