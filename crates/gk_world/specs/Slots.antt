-- Slots, and the finite maps that they represent: map_at k has, for each name, the cell k of its slot.
use Rattle.std.specs.Prelude.{◌≡◌, ◌≢◌, ℕ, zero, suc, ◌+◌, ◌<◌, List, [], ◌∷◌, ◌++◌, length, take, map, unwrap_or, Some, None, true, false, slice_index_or, slice_set, bytes_eq, String, string_bytes, option_map}
use Rattle.std.specs.FinMap as finite
use Rattle.std.specs.Global.{Global}
use Rattle.std.specs.String.Boundary.{IsSplitPoint}
use Rattle.gk_world.specs.declared.slots.SlotUndo.{SlotUndo}
use Rattle.gk_world.specs.declared.slots.SlotUndo.TheVariants.{Restore, Created, Cut, Moved, MovedToNew}
use Rattle.gk_world.specs.State.{Texts, with_entry, with_entries, Map}
use Rattle.gk_world.specs.Cells.{Slot, Cell, cell_at, IsOnly}

-- Rows as slots: names and texts, without their places in memory.
module _ {C : Type 0} (cells : C → List Cell) where
  -- A row as a slot.
  abbrev pub seen : String Global × C → Slot
  seen r = (string_bytes r.0, cells r.1)

  -- Rows as slots, in their order.
  abbrev pub slots_of : List (String Global × C) → List Slot
  slots_of rows = map seen rows

-- The finite map of the cells at k. The first slot of a name counts, and an absent cell is no text.
abbrev pub map_at : ℕ → List Slot → Texts
map_at k [] = finite.empty
map_at k (s ∷ ss) = with_entry (map_at k ss) s.0 (cell_at k s.1)

-- The text that each name has in cell k.
abbrev pub text_at : ℕ → List Slot → Map
text_at k s = finite.get (map_at k s)

-- The values of the given number of layers, the innermost first: the outermost has the first cells. (behave's documentation: context layers)
abbrev pub layers_of : ℕ → List Slot → List Texts
layers_of zero s = []
layers_of (suc d) s = map_at d s ∷ layers_of d s

-- One cell of each of these names gets its new text, or none, one name after another, and the rest stays.
pub record WritesEach (entries : List (List ℕ × Cell)) (cell : ℕ) (old new : List Slot) : Type 0 where
  pub here : map_at cell new ≡ with_entries (map_at cell old) entries
  pub others : (k : ℕ) → k ≢ cell → map_at k new ≡ map_at k old

-- One cell of one name gets a new text, or none, and the rest stays.
abbrev pub Writes : List ℕ → ℕ → Cell → List Slot → List Slot → Type 0
Writes name cell text old new = WritesEach ((name, text) ∷ []) cell old new

-- A cell of a name gets this text, and the rest stays.
abbrev pub Puts : {Y Z : Type 0} → String Y → ℕ → String Z → List Slot → List Slot → Type 0
Puts name cell text old new = Writes (string_bytes name) cell (Some (string_bytes text)) old new

-- A cell's text of one name moves to another name, and the rest stays.
abbrev pub Moves : List ℕ → List ℕ → ℕ → List Slot → List Slot → Type 0
Moves name to cell old new = WritesEach ((name, None) ∷ (to, text_at cell old name) ∷ []) cell old new

-- The slots with these cells in the slot at i.
abbrev pub with_cells : List Slot → ℕ → List Cell → List Slot
with_cells [] i c = []
with_cells (s ∷ ss) zero c = (s.0, c) ∷ ss
with_cells (s ∷ ss) (suc i) c = s ∷ with_cells ss i c

-- The name of the slot at i.
abbrev pub name_at : List Slot → ℕ → List ℕ
name_at s i = let w : Slot = slice_index_or s i ([], []) in w.0

-- The cells of the slot at i.
abbrev pub cells_of : List Slot → ℕ → List Cell
cells_of s i = let w : Slot = slice_index_or s i ([], []) in w.1

-- The slots with this content in cell k of the slot at i.
abbrev pub with_cell : List Slot → ℕ → ℕ → Cell → List Slot
with_cell s i k c = with_cells s i (slice_set (cells_of s i) k c)

-- The slots with a cell's content moved from one slot to another, and this content left in its place.
abbrev pub with_moved : List Slot → ℕ → ℕ → ℕ → Cell → List Slot
with_moved s from to k left = with_cell (with_cell s from k left) to k (cell_at k (cells_of s from))

-- The first slot of this name is at i.
abbrev pub IsPosition : List ℕ → List Slot → ℕ → Type 0
IsPosition name [] i = ⊥
IsPosition name (s ∷ ss) zero = bytes_eq name s.0 ≡ true
IsPosition name (s ∷ ss) (suc i) = (bytes_eq name s.0 ≡ false) × IsPosition name ss i

-- If the slot at i is the first of its name, this cell of it gets this text or none, and the rest stays.
abbrev pub WritesAt : ℕ → ℕ → Cell → List Slot → List Slot → Type 0
WritesAt i cell text old new = (name : List ℕ) → IsPosition name old i → Writes name cell text old new

-- No slot has this name.
abbrev pub IsMissing : List ℕ → List Slot → Type 0
IsMissing name [] = Unit {0}
IsMissing name (s ∷ ss) = (bytes_eq name s.0 ≡ false) × IsMissing name ss

-- A slot with this name is added at the end, and has its only text in this cell.
pub record Adds (name : List ℕ) (cell : ℕ) (text : List ℕ) (old new : List Slot) : Type 0 where
  pub cells : List Cell
  pub added : new ≡ old ++ (name, cells) ∷ []
  pub only : IsOnly cell (Some text) cells

-- The slot at i is the first of this name, and holds the name's texts.
pub record IsAt (name : List ℕ) (s : List Slot) (i : ℕ) : Type 0 where
  pub within : i < length s
  pub found : IsPosition name s i
  pub first : IsPosition (name_at s i) s i
  pub holds : (k : ℕ) → finite.get (map_at k s) name ≡ cell_at k (cells_of s i)

-- The name has no slot, and therefore no text.
pub record IsNew (name : List ℕ) (s : List Slot) : Type 0 where
  pub missing : IsMissing name s
  pub absent : (k : ℕ) → finite.get (map_at k s) name ≡ None

-- No two slots have the same name.
abbrev pub NamesDiffer : List Slot → Type 0
NamesDiffer [] = Unit {0}
NamesDiffer (s ∷ ss) = IsMissing s.0 ss × NamesDiffer ss

-- A slot exists at this position and has this cell, whose number is less than the width.
pub record HasCell (width : ℕ) (s : List Slot) (position cell : ℕ) : Type 0 where
  pub there : position < length s
  pub within : cell < length (cells_of s position)
  pub allowed : cell < width

-- The slot at this position is the last, and all its cells but this one are absent. The cell's number is less than the width.
pub record IsNewest (width : ℕ) (s : List Slot) (position cell : ℕ) : Type 0 where
  pub last : length s ≡ position + 1
  pub others : (k : ℕ) → k ≢ cell → cell_at k (cells_of s position) ≡ None
  pub allowed : cell < width

-- The cell of the slot at this position has a text that can be cut to this length. The cell's number is less than the width.
pub record HasLonger (width : ℕ) (s : List Slot) (position cell kept : ℕ) : Type 0 where
  pub has : HasCell width s position cell
  pub whole : List ℕ
  pub is : cell_at cell (cells_of s position) ≡ Some whole
  pub split : IsSplitPoint whole kept

-- The first `kept` bytes of a text, if there is a text.
abbrev pub cut_to : ℕ → Cell → Cell
cut_to kept = option_map (take kept)

-- A text with more at its end; an absent text counts as empty.
abbrev pub grown : Cell → List ℕ → Cell
grown c more = Some (unwrap_or c [] ++ more)

-- Whether an undo fits these slots: each slot and the cell that it names exist. For a creation, the slot is the last, and its other cells are absent. For a growth, the cell's text can be cut to its old length.
abbrev pub Fits : ℕ → SlotUndo → List Slot → Type 0
Fits width (Restore position cell old) s = HasCell width s position cell
Fits width (Created position cell) s = IsNewest width s position cell
Fits width (Cut position cell kept) s = HasLonger width s position cell kept
Fits width (Moved from to cell old) s = HasCell width s from cell × HasCell width s to cell
Fits width (MovedToNew from position cell) s = HasCell width (take position s) from cell × IsNewest width s position cell

-- The slots before a change: the cell has its old text again, or the new slot is gone. After a growth, the old text is the beginning of the present one. A text that moved is back in its place.
abbrev pub undone : SlotUndo → List Slot → List Slot
undone (Restore position cell old) s = with_cell s position cell (option_map string_bytes old)
undone (Created position cell) s = take position s
undone (Cut position cell kept) s = with_cell s position cell (cut_to kept (cell_at cell (cells_of s position)))
undone (Moved from to cell old) s = with_moved s to from cell (option_map string_bytes old)
undone (MovedToNew from position cell) s = with_cell (take position s) from cell (cell_at cell (cells_of s position))

-- The cell that an undo changes.
abbrev pub cell_of : SlotUndo → ℕ
cell_of (Restore position cell old) = cell
cell_of (Created position cell) = cell
cell_of (Cut position cell kept) = cell
cell_of (Moved from to cell old) = cell
cell_of (MovedToNew from position cell) = cell

-- The names that an undo changes in these slots, each with the text, or none, that it restores.
abbrev pub olds_of : List Slot → SlotUndo → List (List ℕ × Cell)
olds_of s (Restore position cell old) = (name_at s position, option_map string_bytes old) ∷ []
olds_of s (Created position cell) = (name_at s position, None) ∷ []
olds_of s (Cut position cell kept) = (name_at s position, cut_to kept (cell_at cell (cells_of s position))) ∷ []
olds_of s (Moved from to cell old) = (name_at s to, option_map string_bytes old) ∷ (name_at s from, cell_at cell (cells_of s to)) ∷ []
olds_of s (MovedToNew from position cell) = (name_at s position, None) ∷ (name_at s from, cell_at cell (cells_of s position)) ∷ []

-- An undo, on maps: the cell of each of its names has the old text again, or none, and the rest stays.
abbrev pub Undoes : SlotUndo → List Slot → List Slot → Type 0
Undoes u old new = WritesEach (olds_of old u) (cell_of u) old new
