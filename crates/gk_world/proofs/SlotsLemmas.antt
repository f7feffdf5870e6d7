-- Slots and the maps that they stand for.
use Rattle.gk_world.proofs.Common.{◌≡◌, ℕ, zero, suc, ◌<◌, Bool, true, false, cond, List, [], ◌∷◌, ◌++◌, Option, None, Some, MatchOption, length, take, refl, sym, ap, subst, ◌∙◌, bytes_eq, get_or, set, arith, get_or-set_other, get_or-set_same, common_steps, get, get-empty, get-insert, get-remove, same_map, slice_cmp-IsAntisymmetric, nat_cmp-IsAntisymmetric, nat_list_cmp_total, is_eq-slice_cmp, bytes_eq-Decides, take-append-le, take-length, Slot, Cell, cell_at, IsOnly, Texts, with_entry, map_at, Writes, with_cells, with_cell, cells_of, name_at, IsPosition, IsMissing, IsAt, IsNew, HasCell, IsNewest, NamesDiffer, WritesEach, length-set}
use Rattle.std.specs.FinMap as map
use Rattle.std.proofs.lemmas.List.{length-append}

pub same_texts : (m n : Texts) → ((q : List ℕ) → get m q ≡ get n q) → m ≡ n
same_texts m n h = same_map nat_list_cmp_total (slice_cmp-IsAntisymmetric nat_cmp-IsAntisymmetric) m n h

-- what a map has once one name is set
pub get-with_entry : (m : Texts) (n : List ℕ) (c : Cell) (q : List ℕ) → get (with_entry m n c) q ≡ cond (bytes_eq q n) c (get m q)
get-with_entry m n None q = get-remove nat_list_cmp_total m n q ∙ ap (λ b. cond b None (get m q)) (is_eq-slice_cmp q n)
get-with_entry m n (Some t) q = get-insert nat_list_cmp_total m n t q ∙ ap (λ b. cond b (Some t) (get m q)) (is_eq-slice_cmp q n)

pub bytes_self : (n m : List ℕ) → bytes_eq n m ≡ true → n ≡ m
bytes_self n m e = (bytes_eq-Decides n m).0 e

cond_apart : {A : Type 0} (b c : Bool) (x y z : A) → (b ≡ true → c ≡ true → ⊥) → cond b x (cond c y z) ≡ cond c y (cond b x z)
cond_apart true true x y z h = absurd (h refl refl)
cond_apart true false x y z h = refl
cond_apart false c x y z h = refl

-- two names that differ are not both q
apart : (n m q : List ℕ) → bytes_eq n m ≡ false → bytes_eq q m ≡ true → bytes_eq q n ≡ true → ⊥
apart n m q f a b = grind (arith, common_steps, bytes_eq-Decides)

-- to write the slot of a name is to set that name
get-map_at-with_cells : (j : ℕ) (n : List ℕ) (s : List Slot) (i : ℕ) (c : List Cell) → IsPosition n s i → (q : List ℕ) → get (map_at j (with_cells s i c)) q ≡ cond (bytes_eq q n) (cell_at j c) (get (map_at j s) q)
get-map_at-with_cells j n [] i c h q = absurd h
get-map_at-with_cells j n (s ∷ ss) zero c h q = grind (arith, common_steps, get-with_entry, bytes_eq, bytes_eq-Decides)
get-map_at-with_cells j n (s ∷ ss) (suc i) c h q = grind (arith, common_steps, get-with_entry, bytes_eq, get-map_at-with_cells j n ss i c h.1 q, cond_apart, apart)

get-map_at-push : (j : ℕ) (n : List ℕ) (s : List Slot) (c : List Cell) → IsMissing n s → (q : List ℕ) → get (map_at j (s ++ (n, c) ∷ [])) q ≡ cond (bytes_eq q n) (cell_at j c) (get (map_at j s) q)
get-map_at-push j n [] c h q = get-with_entry map.empty n (cell_at j c) q
get-map_at-push j n (s ∷ ss) c h q = grind (arith, common_steps, get-with_entry, bytes_eq, get-map_at-push j n ss c h.1 q, cond_apart, apart)

-- the same as equations of maps
map_at-with_cells : (j : ℕ) (n : List ℕ) (s : List Slot) (i : ℕ) (c : List Cell) → IsPosition n s i → map_at j (with_cells s i c) ≡ with_entry (map_at j s) n (cell_at j c)
map_at-with_cells j n s i c h = same_texts _ _ (λ q. get-map_at-with_cells j n s i c h q ∙ sym (get-with_entry (map_at j s) n (cell_at j c) q))

pub map_at-push : (j : ℕ) (n : List ℕ) (s : List Slot) (c : List Cell) → IsMissing n s → map_at j (s ++ (n, c) ∷ []) ≡ with_entry (map_at j s) n (cell_at j c)
map_at-push j n s c h = same_texts _ _ (λ q. get-map_at-push j n s c h q ∙ sym (get-with_entry (map_at j s) n (cell_at j c) q))

-- what a map has at a name
pub get-map_at-position : (j : ℕ) (n : List ℕ) (s : List Slot) (i : ℕ) → IsPosition n s i → get (map_at j s) n ≡ cell_at j (cells_of s i)
get-map_at-position j n [] i h = absurd h
get-map_at-position j n (s ∷ ss) zero h = get-with_entry (map_at j ss) s.0 (cell_at j s.1) n ∙ ap (λ b. cond b (cell_at j s.1) (get (map_at j ss) n)) h
get-map_at-position j n (s ∷ ss) (suc i) h = get-with_entry (map_at j ss) s.0 (cell_at j s.1) n ∙ ap (λ b. cond b (cell_at j s.1) (get (map_at j ss) n)) h.0 ∙ get-map_at-position j n ss i h.1

pub get-map_at-missing : (j : ℕ) (n : List ℕ) (s : List Slot) → IsMissing n s → get (map_at j s) n ≡ None
get-map_at-missing j n [] h = get-empty _ n
get-map_at-missing j n (s ∷ ss) h = get-with_entry (map_at j ss) s.0 (cell_at j s.1) n ∙ ap (λ b. cond b (cell_at j s.1) (get (map_at j ss) n)) h.0 ∙ get-map_at-missing j n ss h.1

-- to set what is there changes nothing
pub same_write : (m : Texts) (n : List ℕ) (c : Cell) → get m n ≡ c → with_entry m n c ≡ m
same_write m n c h = same_texts _ _ (λ q. get-with_entry m n c q ∙ by (bytes_eq q n) q refl)
  where
    by : (b : Bool) (q : List ℕ) → bytes_eq q n ≡ b → cond b c (get m q) ≡ get m q
    by true q e = sym h ∙ ap (get m) (sym (bytes_self q n e))
    by false q e = refl

-- a write of one cell of a name's slot
pub writes : (n : List ℕ) (s t : List Slot) (i j : ℕ) (c : Cell) → t ≡ with_cell s i j c → IsPosition n s i → j < length (cells_of s i) → Writes n j c s t
writes n s t i j c e h lt = subst (Writes n j c s) (sym e) (record {
  here = map_at-with_cells j n s i (set (cells_of s i) j c) h ∙ ap (with_entry (map_at j s) n) (get_or-set_same (cells_of s i) j c None lt);
  others = λ k ne.
      map_at-with_cells k n s i (set (cells_of s i) j c) h
      ∙ ap (with_entry (map_at k s) n) (get_or-set_other (cells_of s i) j k c None ne)
      ∙ same_write (map_at k s) n (cell_at k (cells_of s i)) (get-map_at-position k n s i h);
})

-- two writes of one cell, one after the other
pub writes_both : (n m : List ℕ) (c d : Cell) (j : ℕ) (r s t : List Slot) → Writes n j c r s → Writes m j d s t → WritesEach ((n, c) ∷ (m, d) ∷ []) j r t
writes_both n m c d j r s t first second = record {
  here = second.here ∙ ap (λ x. with_entry x m d) first.here;
  others = λ k ne. second.others k ne ∙ first.others k ne;
}

-- a slot that is added, with one text
pub pushes : (n : List ℕ) (s t : List Slot) (cells : List Cell) (j : ℕ) (c : Cell) → t ≡ s ++ (n, cells) ∷ [] → IsMissing n s → IsOnly j c cells → Writes n j c s t
pushes n s t cells j c e h only = grind (arith, common_steps, map_at-push, same_write, get-map_at-missing)

-- ---- positions
pub position-within : (n : List ℕ) (s : List Slot) (i : ℕ) → IsPosition n s i → i < length s
position-within n [] i h = absurd h
position-within n (s ∷ ss) zero h = omega arith
position-within n (s ∷ ss) (suc i) h = omega (arith, position-within n ss i h.1)

pub named : (n : List ℕ) (s : List Slot) (i : ℕ) → IsPosition n s i → n ≡ name_at s i
named n [] i h = absurd h
named n (w ∷ s) zero h = bytes_self n w.0 h
named n (w ∷ s) (suc i) h = named n s i h.1

pub first_is : (n : List ℕ) (s : List Slot) (i : ℕ) → IsPosition n s i → IsPosition (name_at s i) s i
first_is n s i h = subst (λ n. IsPosition n s i) (named n s i h) h

-- ---- names that differ
unequal : (n m : List ℕ) → bytes_eq n m ≡ false → bytes_eq m n ≡ false
unequal n m f = grind (arith, common_steps, bytes_eq, bytes_eq-Decides)

missing-name : (n : List ℕ) (s : List Slot) (i : ℕ) → IsMissing n s → i < length s → bytes_eq (name_at s i) n ≡ false
missing-name n [] i h lt = absurd (omega arith)
missing-name n (w ∷ s) zero h lt = unequal n w.0 h.0
missing-name n (w ∷ s) (suc i) h lt = missing-name n s i h.1 (omega arith)

-- where names differ, each slot is the first of its name
pub first_of : (s : List Slot) (i : ℕ) → NamesDiffer s → i < length s → IsPosition (name_at s i) s i
first_of [] i d lt = absurd (omega arith)
first_of (w ∷ s) zero d lt = (bytes_eq-Decides w.0 w.0).1 refl
first_of (w ∷ s) (suc i) d lt = (missing-name w.0 s i d.0 (omega arith), first_of s i d.1 (omega arith))

pub missing_before : (s : List Slot) (i : ℕ) → NamesDiffer s → i < length s → IsMissing (name_at s i) (take i s)
missing_before [] i d lt = absurd (omega arith)
missing_before (w ∷ s) zero d lt = tt
missing_before (w ∷ s) (suc i) d lt = (missing-name w.0 s i d.0 (omega arith), missing_before s i d.1 (omega arith))

pub missing-with_cells : (n : List ℕ) (s : List Slot) (i : ℕ) (c : List Cell) → IsMissing n s → IsMissing n (with_cells s i c)
missing-with_cells n [] i c h = tt
missing-with_cells n (w ∷ s) zero c h = h
missing-with_cells n (w ∷ s) (suc i) c h = (h.0, missing-with_cells n s i c h.1)

pub differ-with_cells : (s : List Slot) (i : ℕ) (c : List Cell) → NamesDiffer s → NamesDiffer (with_cells s i c)
differ-with_cells [] i c d = tt
differ-with_cells (w ∷ s) zero c d = d
differ-with_cells (w ∷ s) (suc i) c d = (missing-with_cells w.0 s i c d.0, differ-with_cells s i c d.1)

missing-take : (n : List ℕ) (k : ℕ) (s : List Slot) → IsMissing n s → IsMissing n (take k s)
missing-take n zero s h = tt
missing-take n (suc k) [] h = tt
missing-take n (suc k) (w ∷ s) h = (h.0, missing-take n k s h.1)

pub differ-take : (k : ℕ) (s : List Slot) → NamesDiffer s → NamesDiffer (take k s)
differ-take zero s d = tt
differ-take (suc k) [] d = tt
differ-take (suc k) (w ∷ s) d = (missing-take w.0 k s d.0, differ-take k s d.1)

missing-front : (n : List ℕ) (s t : List Slot) → IsMissing n (s ++ t) → IsMissing n s
missing-front n [] t h = tt
missing-front n (w ∷ s) t h = (h.0, missing-front n s t h.1)

pub differ-front : (s t : List Slot) → NamesDiffer (s ++ t) → NamesDiffer s
differ-front [] t d = tt
differ-front (w ∷ s) t d = (missing-front w.0 s t d.0, differ-front s t d.1)

missing-push : (n : List ℕ) (s : List Slot) (w : Slot) → IsMissing n s → bytes_eq n w.0 ≡ false → IsMissing n (s ++ w ∷ [])
missing-push n [] w h f = (f, tt)
missing-push n (v ∷ s) w h f = (h.0, missing-push n s w h.1 f)

pub differ-push : (s : List Slot) (w : Slot) → NamesDiffer s → IsMissing w.0 s → NamesDiffer (s ++ w ∷ [])
differ-push [] w d h = (tt, tt)
differ-push (v ∷ s) w d h = (missing-push v.0 s w d.0 (unequal w.0 v.0 h.0), differ-push s w d.1 h.1)

pub length-with_cells : (s : List Slot) (i : ℕ) (c : List Cell) → length (with_cells s i c) ≡ length s
length-with_cells [] i c = refl
length-with_cells (w ∷ s) zero c = refl
length-with_cells (w ∷ s) (suc i) c = ap suc (length-with_cells s i c)

cells-written : (s : List Slot) (i : ℕ) (cs : List Cell) → i < length s → cells_of (with_cells s i cs) i ≡ cs
cells-written [] i cs lt = absurd (omega arith)
cells-written (w ∷ s) zero cs lt = refl
cells-written (w ∷ s) (suc i) cs lt = cells-written s i cs (omega arith)

-- what a write of one slot keeps of each
pub name-with_cells : (s : List Slot) (i k : ℕ) (cs : List Cell) → name_at (with_cells s i cs) k ≡ name_at s k
name-with_cells [] i k cs = refl
name-with_cells (w ∷ s) zero zero cs = refl
name-with_cells (w ∷ s) zero (suc k) cs = refl
name-with_cells (w ∷ s) (suc i) zero cs = refl
name-with_cells (w ∷ s) (suc i) (suc k) cs = name-with_cells s i k cs

pub length-cells_of : (s : List Slot) (i j k : ℕ) (c : Cell) → length (cells_of (with_cell s i j c) k) ≡ length (cells_of s k)
length-cells_of [] i j k c = refl
length-cells_of (w ∷ s) zero j zero c = length-set w.1 j c
length-cells_of (w ∷ s) zero j (suc k) c = refl
length-cells_of (w ∷ s) (suc i) j zero c = refl
length-cells_of (w ∷ s) (suc i) j (suc k) c = length-cells_of s i j k c

-- a slot whose cell is written has that cell
pub has_cell : (w : ℕ) (s t : List Slot) (i j : ℕ) (c : Cell) → t ≡ with_cell s i j c → i < length s → j < length (cells_of s i) → j < w → HasCell w t i j
has_cell w s t i j c e there within allowed = grind (arith, common_steps, length-with_cells, cells-written)

-- each slot still has its cells
pub has_still : (w : ℕ) (s : List Slot) (i j k l : ℕ) (c : Cell) → HasCell w s k l → HasCell w (with_cell s i j c) k l
has_still w s i j k l c h = record {
  there = subst (λ n. k < n) (sym (length-with_cells s i _)) h.there;
  within = subst (λ n. l < n) (sym (length-cells_of s i j k c)) h.within;
  allowed = h.allowed;
}

-- a slot that is added is the newest
pub newest : (width : ℕ) (n : List ℕ) (s t : List Slot) (cells : List Cell) (i j : ℕ) (c : Cell) → t ≡ s ++ (n, cells) ∷ [] → i ≡ length s → IsOnly j c cells → j < width → IsNewest width t i j
newest width n s t cells i j c e is only allowed = grind (arith, common_steps, length-append)

pub position_is : (n : List ℕ) (s t : List Slot) (r : Option ℕ) → s ≡ t → MatchOption r (IsMissing n s) (λ i. IsPosition n s i) → MatchOption r (IsNew n t) (λ i. IsAt n t i)
position_is n s t None e h = subst (IsNew n) e (record { missing = h; absent = λ k. get-map_at-missing k n s h })
position_is n s t (Some i) e h = subst (λ s. IsAt n s i) e (record { within = position-within n s i h; found = h; first = first_is n s i h; holds = λ k. get-map_at-position k n s i h })

-- ---- undoing
written-twice : (s : List Slot) (i : ℕ) (cs ds : List Cell) → with_cells (with_cells s i cs) i ds ≡ with_cells s i ds
written-twice [] i cs ds = refl
written-twice (w ∷ s) zero cs ds = refl
written-twice (w ∷ s) (suc i) cs ds = ap (λ l. w ∷ l) (written-twice s i cs ds)

written-same : (s : List Slot) (i : ℕ) → with_cells s i (cells_of s i) ≡ s
written-same [] i = refl
written-same (w ∷ s) zero = refl
written-same (w ∷ s) (suc i) = ap (λ l. w ∷ l) (written-same s i)

set-back : (cs : List Cell) (j : ℕ) (c : Cell) → set (set cs j c) j (get_or cs j None) ≡ cs
set-back [] j c = refl
set-back (d ∷ cs) zero c = refl
set-back (d ∷ cs) (suc j) c = ap (λ l. d ∷ l) (set-back cs j c)

-- a write of one cell, and back
pub cell-back : (s t : List Slot) (i j : ℕ) (c old : Cell) → t ≡ with_cell s i j c → i < length s → old ≡ get_or (cells_of s i) j None → with_cell t i j old ≡ s
cell-back s t i j c old e lt is = grind (arith, common_steps, cells-written, set-back, written-twice, written-same)

set-twice : (cs : List Cell) (j : ℕ) (c d : Cell) → set (set cs j c) j d ≡ set cs j d
set-twice [] j c d = refl
set-twice (b ∷ cs) zero c d = refl
set-twice (b ∷ cs) (suc j) c d = ap (λ l. b ∷ l) (set-twice cs j c d)

-- two writes of one cell are the later one
pub cell-twice : (s t r : List Slot) (i j : ℕ) (c d : Cell) → t ≡ with_cell s i j c → r ≡ with_cell t i j d → i < length s → r ≡ with_cell s i j d
cell-twice s t r i j c d e f lt = grind (arith, common_steps, cells-written, set-twice, written-twice)

-- what was there, written again
pub cell-same : (s : List Slot) (i j : ℕ) → with_cell s i j (cell_at j (cells_of s i)) ≡ s
cell-same s i j = grind (arith, common_steps, written-same)

pub within-written : (s t : List Slot) (i j : ℕ) (c : Cell) → t ≡ with_cell s i j c → i < length s → i < length t
within-written s t i j c e lt = subst (λ t. i < length t) (sym e) (subst (λ n. i < n) (sym (length-with_cells s i (set (cells_of s i) j c))) lt)

pub cell-written : (s t : List Slot) (i j : ℕ) (c : Cell) → t ≡ with_cell s i j c → i < length s → j < length (cells_of s i) → cell_at j (cells_of t i) ≡ c
cell-written s t i j c e lt within = ap (λ t. cell_at j (cells_of t i)) e ∙ ap (cell_at j) (cells-written s i (set (cells_of s i) j c) lt) ∙ get_or-set_same (cells_of s i) j c None within

-- a slot that is added, taken off
pub push-back : (s t : List Slot) (w : Slot) (i : ℕ) → t ≡ s ++ w ∷ [] → i ≡ length s → take i t ≡ s
push-back s t w i e is = (λ k. take (is k) (e k)) ∙ take-append-le (length s) s (w ∷ []) (omega arith) ∙ take-length s
