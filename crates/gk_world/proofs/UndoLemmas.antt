-- What undos are on maps.
use Rattle.gk_world.proofs.Common.{◌≡◌, ℕ, zero, suc, ◌+◌, ◌<◌, Bool, true, false, cond, List, [], ◌∷◌, ◌++◌, get_or, take, length, None, option_map, string_bytes, bytes_eq, refl, sym, ap, ◌∙◌, arith, common_steps, Decides-eqb, HasCell, IsNewest, IsPosition, Slot, Cell, SlotUndo, Restore, Created, Cut, Moved, MovedToNew, Texts, with_entries, with_entry, map_at, layers_of, name_at, cells_of, cell_at, with_cell, Writes, WritesEach, olds_of, NamesDiffer, Undoes, with_values, subst, get_or-take, length-take-le}
use Rattle.std.specs.FinMap as map
use Rattle.gk_world.specs.Slots.{Fits, undone, cell_of}
use Rattle.gk_world.proofs.SlotsLemmas.{writes, writes_both, map_at-push, same_write, get-map_at-missing, same_texts, get-with_entry, bytes_self, first_of, missing_before, differ-with_cells, differ-take, length-with_cells, name-with_cells, length-cells_of}

-- the last slot, split off
last_off : (s : List Slot) (n : ℕ) → length s ≡ n + 1 → s ≡ take n s ++ get_or s n ([], []) ∷ []
last_off [] n h = absurd (omega arith)
last_off (w ∷ []) zero h = refl
last_off (w ∷ x ∷ s) zero h = absurd (omega arith)
last_off (w ∷ s) (suc n) h = grind (arith, common_steps)

taken_back : (m : Texts) (n : List ℕ) (c : Cell) → map.get m n ≡ None → m ≡ with_entry (with_entry m n c) n None
taken_back m n c none = same_texts _ _ (λ q. by (bytes_eq q n) q refl ∙ sym (get-with_entry (with_entry m n c) n None q ∙ ap (cond (bytes_eq q n) None) (get-with_entry m n c q)))
  where
    by : (b : Bool) (q : List ℕ) → bytes_eq q n ≡ b → map.get m q ≡ cond b None (cond b c (map.get m q))
    by true q h = ap (map.get m) (bytes_self q n h) ∙ none
    by false q h = refl

-- the newest slot, taken off
created_back : (w position cell : ℕ) (s : List Slot) → NamesDiffer s → IsNewest w s position cell → Writes (name_at s position) cell None s (take position s)
created_back w position cell s d h = grind (arith, common_steps, last_off, map_at-push, missing_before, taken_back, get-map_at-missing, same_write)

-- a slot before the newest
within_front : (w : ℕ) (s : List Slot) (from position cell : ℕ) → HasCell w (take position s) from cell → IsNewest w s position cell → from < position
within_front w s from position cell h newest = omega (arith, h.there, length-take-le position s (omega (arith, newest.last)))

-- an undo sets a cell of each of its names to the old text
pub undo_writes : (w : ℕ) (u : SlotUndo) (s : List Slot) → NamesDiffer s → Fits w u s → Undoes u s (undone u s)
undo_writes w (Restore position cell old) s d h = writes (name_at s position) s _ position cell (option_map string_bytes old) refl (first_of s position d h.there) h.within
undo_writes w (Cut position cell kept) s d h = writes (name_at s position) s _ position cell _ refl (first_of s position d h.has.there) h.has.within
undo_writes w (Created position cell) s d h = created_back w position cell s d h
undo_writes w (Moved from to cell old) s d h =
    let c : Cell = option_map string_bytes old in
    let t : List Slot = with_cell s to cell c in
    let text : Cell = cell_at cell (cells_of s to) in
    let there : from < length t = subst (λ n. from < n) (sym (length-with_cells s to _)) h.0.there in
    let first = subst (λ n. IsPosition n t from) (name-with_cells s to from _) (first_of t from (differ-with_cells s to _ d) there) in
    writes_both _ _ _ _ cell s t _
    (writes (name_at s to) s t to cell c refl (first_of s to d h.1.there) h.1.within)
    (writes (name_at s from) t _ from cell text refl first (subst (λ n. cell < n) (sym (length-cells_of s to cell from c)) h.0.within))
undo_writes w (MovedToNew from position cell) s d h =
    let t : List Slot = take position s in
    let lt : from < position = within_front w s from position cell h.0 h.1 in
    let first = subst (λ n. IsPosition n t from) (ap (λ (w : Slot). w.0) (get_or-take position s from ([], []) lt)) (first_of t from (differ-take position s d) h.0.there) in
    writes_both _ _ _ _ cell s t _
    (created_back w position cell s d h.1)
    (writes (name_at s from) t _ from cell _ refl first h.0.within)

pub length-layers_of : (d : ℕ) (s : List Slot) → length (layers_of d s) ≡ d
length-layers_of zero s = refl
length-layers_of (suc d) s = ap suc (length-layers_of d s)

layers_same : (d : ℕ) (s t : List Slot) → ((k : ℕ) → k < d → map_at k t ≡ map_at k s) → layers_of d t ≡ layers_of d s
layers_same zero s t h = refl
layers_same (suc d) s t h = λ i. h d (omega arith) i ∷ layers_same d s t (λ k lt. h k (omega arith)) i

-- a write into one layer's cells
pub layers_put : (d j : ℕ) (es : List (List ℕ × Cell)) (s t : List Slot) → WritesEach es j s t → layers_of d t ≡ with_values (suc j) (λ m. with_entries m es) (layers_of d s)
layers_put zero j es s t h = refl
layers_put (suc d) j es s t h = grind (arith, common_steps, layers_put d j es s t h, Decides-eqb, length-layers_of, layers_same)

-- names still differ after an undo
pub differ_undone : (u : SlotUndo) (s : List Slot) → NamesDiffer s → NamesDiffer (undone u s)
differ_undone (Restore position cell old) s d = differ-with_cells s position _ d
differ_undone (Created position cell) s d = differ-take position s d
differ_undone (Cut position cell kept) s d = differ-with_cells s position _ d
differ_undone (Moved from to cell old) s d = differ-with_cells _ from _ (differ-with_cells s to _ d)
differ_undone (MovedToNew from position cell) s d = differ-with_cells _ from _ (differ-take position s d)

-- the cell of an undo is one of the slots'
cell_within : (w : ℕ) (u : SlotUndo) (s : List Slot) → Fits w u s → cell_of u < w
cell_within w (Restore position cell old) s h = h.allowed
cell_within w (Created position cell) s h = h.allowed
cell_within w (Cut position cell kept) s h = h.has.allowed
cell_within w (Moved from to cell old) s h = h.0.allowed
cell_within w (MovedToNew from position cell) s h = h.0.allowed

-- where there is one cell alone, an undo sets its names to the old texts
pub map_undone : (u : SlotUndo) (s : List Slot) → NamesDiffer s → Fits 1 u s → map_at 0 (undone u s) ≡ with_entries (map_at 0 s) (olds_of s u)
map_undone u s d h = subst (λ k. map_at k (undone u s) ≡ with_entries (map_at k s) (olds_of s u)) (only_cell (cell_of u) (cell_within 1 u s h)) (undo_writes 1 u s d h).here
  where
    only_cell : (k : ℕ) → k < 1 → k ≡ 0
    only_cell k lt = omega arith
