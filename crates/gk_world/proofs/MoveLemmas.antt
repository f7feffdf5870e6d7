-- What a text that moves from one slot to another leaves.
use Rattle.gk_world.proofs.Common.{◌≡◌, ℕ, zero, suc, ◌<◌, List, [], ◌∷◌, ◌++◌, None, get_or-set_other, get_or-set_same, length, take, set, refl, sym, ap, subst, ◌∙◌, arith, Slot, Cell, cell_at, IsOnly, Adds, HasCell, IsMissing, IsPosition, Moves, NamesDiffer, WritesEach, cells_of, name_at, with_cell, with_cells, with_moved, MovedToNew}
use Rattle.gk_world.specs.Slots.{Fits, undone}
use Rattle.gk_world.proofs.SlotsLemmas.{writes, writes_both, pushes, newest, push-back, first_of, differ-with_cells, missing-with_cells, length-with_cells, name-with_cells, length-cells_of, has_still, cell-back, cell-written, get-map_at-position}

-- ---- between two rows
pub within_still : (s t : List Slot) (i j k : ℕ) (c : Cell) → t ≡ with_cell s i j c → k < length s → k < length t
within_still s t i j k c e lt = subst (λ t. k < length t) (sym e) (subst (λ n. k < n) (sym (length-with_cells s i _)) lt)

pub wide_before : (s t : List Slot) (i j k l : ℕ) (c : Cell) → t ≡ with_cell s i j c → l < length (cells_of t k) → l < length (cells_of s k)
wide_before s t i j k l c e lt = subst (λ n. l < n) (length-cells_of s i j k c) (subst (λ t. l < length (cells_of t k)) e lt)

module _ (s : List Slot) (from to j : ℕ) (lf : from < length s) (lt : to < length s) (wf : j < length (cells_of s from)) (wt : j < length (cells_of s to)) where
  abbrev pub left : List Slot
  left = with_cell s from j None

  abbrev pub text : Cell
  text = cell_at j (cells_of s from)

  abbrev pub after : List Slot
  after = with_moved s from to j None

  to_left : to < length left
  to_left = subst (λ n. to < n) (sym (length-with_cells s from _)) lt

  wide_left : j < length (cells_of left to)
  wide_left = subst (λ n. j < n) (sym (length-cells_of s from j to None)) wt

  pub moved_over : (r : List Slot) → r ≡ after → NamesDiffer s → Moves (name_at s from) (name_at s to) j s r
  moved_over r e d =
      let here = first_of s from d lf in
      let there = subst (λ n. IsPosition n left to) (name-with_cells s from to _) (first_of left to (differ-with_cells s from _ d) to_left) in
      subst (λ c. WritesEach ((name_at s from, None) ∷ (name_at s to, c) ∷ []) j s r) (sym (get-map_at-position j (name_at s from) s from here))
      (writes_both (name_at s from) (name_at s to) None text j s left r
      (writes (name_at s from) s left from j None refl here wf)
      (writes (name_at s to) left r to j text e there wide_left))

  pub moved_fits : (r : List Slot) → r ≡ after → (w : ℕ) → j < w → HasCell w r from j × HasCell w r to j
  moved_fits r e w allowed = subst (λ r. HasCell w r from j × HasCell w r to j) (sym e) (
    has_still w left to j from j text (has_still w s from j from j None (record { there = lf; within = wf; allowed = allowed })),
    has_still w left to j to j text (has_still w s from j to j None (record { there = lt; within = wt; allowed = allowed })),
  )

  pub moved_back : (r : List Slot) → r ≡ after → (old : Cell) → old ≡ cell_at j (cells_of left to) → with_moved r to from j old ≡ s
  moved_back r e old is =
      (λ i. with_cell (cell-back left r to j text old e to_left is i) from j (cell-written left r to j text e to_left wide_left i))
      ∙ cell-back s left from j None text refl lf refl

-- ---- to a new row
cells_of-front : (s t : List Slot) (i : ℕ) → i < length s → cells_of (s ++ t) i ≡ cells_of s i
cells_of-front [] t i lt = absurd (omega arith)
cells_of-front (v ∷ s) t zero lt = refl
cells_of-front (v ∷ s) t (suc i) lt = cells_of-front s t i (omega arith)

cells_of-last : (s : List Slot) (n : List ℕ) (cs : List Cell) → cells_of (s ++ (n, cs) ∷ []) (length s) ≡ cs
cells_of-last [] n cs = refl
cells_of-last (v ∷ s) n cs = cells_of-last s n cs

written-front : (s t : List Slot) (i : ℕ) (cs : List Cell) → i < length s → with_cells (s ++ t) i cs ≡ with_cells s i cs ++ t
written-front [] t i cs lt = absurd (omega arith)
written-front (v ∷ s) t zero cs lt = refl
written-front (v ∷ s) t (suc i) cs lt = ap (λ l. v ∷ l) (written-front s t i cs (omega arith))

written-last : (s : List Slot) (n : List ℕ) (cs ds : List Cell) → with_cells (s ++ (n, cs) ∷ []) (length s) ds ≡ s ++ (n, ds) ∷ []
written-last [] n cs ds = refl
written-last (v ∷ s) n cs ds = ap (λ l. v ∷ l) (written-last s n cs ds)

module _ (n : List ℕ) (s t r : List Slot) (from position j : ℕ) (e : List ℕ) (a : Adds n j e s t) (moved : r ≡ with_moved t from position j None) (is : position ≡ length s) (lf : from < length s) (wf : j < length (cells_of t from)) (wt : j < length (cells_of t position)) where
  old_row : cells_of t from ≡ cells_of s from
  old_row = ap (λ l. cells_of l from) a.added ∙ cells_of-front s _ from lf

  new_row : cells_of t position ≡ a.cells
  new_row = (λ i. cells_of (a.added i) (is i)) ∙ cells_of-last s n a.cells

  abbrev pub held : Cell
  held = cell_at j (cells_of s from)

  abbrev pub emptied : List Slot
  emptied = with_cell s from j None

  abbrev pub filled : List Cell
  filled = set a.cells j held

  same_length : length emptied ≡ length s
  same_length = length-with_cells s from _

  -- the row without its text, and then the new one with it
  front_emptied : with_cell t from j None ≡ emptied ++ (n, a.cells) ∷ []
  front_emptied =
      (λ i. with_cells (a.added i) from (set (old_row i) j None))
      ∙ written-front s ((n, a.cells) ∷ []) from (set (cells_of s from) j None) lf

  still_there : cells_of (with_cell t from j None) position ≡ a.cells
  still_there = (λ i. cells_of (front_emptied i) ((is ∙ sym same_length) i)) ∙ cells_of-last emptied n a.cells

  rows : r ≡ emptied ++ (n, filled) ∷ []
  rows =
      moved
      ∙ (λ i. with_cells (with_cell t from j None) position (set (still_there i) j (cell_at j (old_row i))))
      ∙ (λ i. with_cells (front_emptied i) ((is ∙ sym same_length) i) filled)
      ∙ written-last emptied n a.cells filled

  only : IsOnly j held filled
  only = record {
    here = get_or-set_same a.cells j held None (subst (λ cs. j < length cs) new_row wt);
    others = λ k ne. get_or-set_other a.cells j k held None ne ∙ a.only.others k ne;
  }

  front : take position r ≡ emptied
  front = push-back emptied r (n, filled) position rows (is ∙ sym same_length)

  wide : j < length (cells_of s from)
  wide = subst (λ cs. j < length cs) old_row wf

  pub moved_to_new : NamesDiffer s → IsMissing n s → Moves (name_at s from) n j s r
  moved_to_new d missing =
      let here = first_of s from d lf in
      subst (λ c. WritesEach ((name_at s from, None) ∷ (n, c) ∷ []) j s r) (sym (get-map_at-position j (name_at s from) s from here))
      (writes_both (name_at s from) n None held j s emptied r
      (writes (name_at s from) s emptied from j None refl here wide)
      (pushes n emptied r filled j held rows (missing-with_cells n s from _ missing) only))

  pub new_fits : (w : ℕ) → j < w → Fits w (MovedToNew from position j) r
  new_fits w allowed = (
    subst (λ l. HasCell w l from j) (sym front) (has_still w s from j from j None (record { there = lf; within = wide; allowed = allowed })),
    newest w n emptied r filled position j held rows (is ∙ sym same_length) only allowed,
  )

  pub new_back : undone (MovedToNew from position j) r ≡ s
  new_back =
      (λ i. with_cell (front i) from j (cell_at j (((λ k. cells_of (rows k) ((is ∙ sym same_length) k)) ∙ cells_of-last emptied n filled) i)))
      ∙ ap (with_cell emptied from j) only.here
      ∙ cell-back s emptied from j None held refl lf refl

-- ---- and back
pub take-with_cells : (p : ℕ) (s : List Slot) (cs : List Cell) → take p (with_cells s p cs) ≡ take p s
take-with_cells zero s cs = refl
take-with_cells (suc p) [] cs = refl
take-with_cells (suc p) (w ∷ s) cs = ap (λ l. w ∷ l) (take-with_cells p s cs)
