-- The entries of an index map as slots.
use Rattle.gk_world.proofs.Common.{◌≡◌, ℕ, zero, suc, ◌+◌, ◌<◌, Bool, true, false, cond, List, [], ◌∷◌, ◌++◌, get_or, set, length, take, option_to_list, Option, None, Some, is_some, IsSome, MatchOption, String, string_bytes, position, slice_get, bytes_eq, string_eq, refl, sym, ap, ◌∙◌, subst, true≢false, arith, length-append, position-Some, Global, lookup, keys_of, values_of, IndexMap, set_value_at, insert_entry, insert_entry-new, Slot, Cell, cells_of, name_at, with_cells, with_cell, IsPosition, IsMissing, IsAt, IsNew, NamesDiffer, seen, slots_of}
use Rattle.gk_world.proofs.SlotsLemmas.{position_is, differ-with_cells, differ-front, push-back}

-- whether a key is this name
abbrev pub is_name : List ℕ → String Global → Bool
is_name n k = bytes_eq n (string_bytes k)

by_test : {P : Type 0} (b : Bool) → (b ≡ true → P) → (b ≡ false → P) → P
by_test true f g = f refl
by_test false f g = g refl

module _ {C : Type 0} (cells : C → List Cell) where
  missing_from : (n : List ℕ) (es : List (String Global × C)) → lookup (is_name n) es ≡ None → IsMissing n (slots_of cells es)
  missing_from n [] h = tt
  missing_from n (e ∷ es) h = by_test (is_name n e.0)
      (λ y. absurd (true≢false (ap is_some (ap (λ b. cond b (Some e.1) (lookup (is_name n) es)) (sym y) ∙ h))))
      (λ f. (f, missing_from n es (ap (λ b. cond b (Some e.1) (lookup (is_name n) es)) (sym f) ∙ h)))

  lookup-missing : (n : List ℕ) (es : List (String Global × C)) → IsMissing n (slots_of cells es) → lookup (is_name n) es ≡ None
  lookup-missing n [] h = refl
  lookup-missing n (e ∷ es) h = ap (λ b. cond b (Some e.1) (lookup (is_name n) es)) h.0 ∙ lookup-missing n es h.1

  position_by_index : (n : List ℕ) (es : List (String Global × C)) (i : ℕ) (d : String Global) → i < length es → is_name n (get_or (keys_of es) i d) ≡ true → ((k : ℕ) → k < i → is_name n (get_or (keys_of es) k d) ≡ false) → IsPosition n (slots_of cells es) i
  position_by_index n [] i d lt hit h = absurd (omega arith)
  position_by_index n (e ∷ es) zero d lt hit h = hit
  position_by_index n (e ∷ es) (suc i) d lt hit h = (h zero (omega arith), position_by_index n es i d (omega arith) hit (λ k l. h (suc k) (omega arith)))

  length-keys : (es : List (String Global × C)) → length (keys_of es) ≡ length es
  length-keys [] = refl
  length-keys (e ∷ es) = ap suc (length-keys es)

  position_from : (n : List ℕ) (es : List (String Global × C)) (i : ℕ) → position (is_name n) (keys_of es) ≡ Some i → IsPosition n (slots_of cells es) i
  position_from n [] i h = absurd (true≢false (sym (ap is_some h)))
  position_from n (e ∷ es) i h =
      let f = position-Some (is_name n) (keys_of (e ∷ es)) i e.0 h in
      position_by_index n (e ∷ es) i e.0 (subst (λ n. i < n) (length-keys (e ∷ es)) f.0) f.1 f.2

  -- where an index map finds a name
  pub found_at : (n : List ℕ) (es : List (String Global × C)) (s : List Slot) (r : Option ℕ) → slots_of cells es ≡ s → r ≡ position (is_name n) (keys_of es) → is_some r ≡ is_some (lookup (is_name n) es) → MatchOption r (IsNew n s) (λ i. IsAt n s i)
  found_at n es s r e h f = position_is n (slots_of cells es) s r e (raw r h f)
    where
      none : {A : Type 0} (o : Option A) → false ≡ is_some o → o ≡ None
      none None g = refl
      none (Some x) g = absurd (true≢false (sym g))

      raw : (r : Option ℕ) → r ≡ position (is_name n) (keys_of es) → is_some r ≡ is_some (lookup (is_name n) es) → MatchOption r (IsMissing n (slots_of cells es)) (λ i. IsPosition n (slots_of cells es) i)
      raw (Some i) h f = position_from n es i (sym h)
      raw None h f = missing_from n es (none (lookup (is_name n) es) f)

  rows-set : (es : List (String Global × C)) (i : ℕ) (new : C) → slots_of cells (set_value_at es i new) ≡ with_cells (slots_of cells es) i (cells new)
  rows-set [] i new = refl
  rows-set (e ∷ es) zero new = refl
  rows-set (e ∷ es) (suc i) new = ap (λ l. seen cells e ∷ l) (rows-set es i new)

  cells-at : (es : List (String Global × C)) (i : ℕ) (x : C) → slice_get (values_of es) i ≡ Some x → cells_of (slots_of cells es) i ≡ cells x
  cells-at [] i x h = absurd (true≢false (sym (ap is_some h)))
  cells-at (e ∷ es) zero x h = let same : e.1 ≡ x = cc in ap cells same
  cells-at (e ∷ es) (suc i) x h = cells-at es i x h

  pub cells-at-position : (es : List (String Global × C)) (s : List Slot) (i : ℕ) (x : C) → slots_of cells es ≡ s → slice_get (values_of es) i ≡ Some x → cells x ≡ cells_of s i
  cells-at-position es s i x is at = sym (cells-at es i x at) ∙ ap (λ s. cells_of s i) is

  -- the name of the row at i
  name-at : (es : List (String Global × C)) (i : ℕ) (r : String Global × C) → Some r ≡ slice_get es i → string_bytes r.0 ≡ name_at (slots_of cells es) i
  name-at [] i r h = absurd (true≢false (ap is_some h))
  name-at (e ∷ es) zero r h = let same : r ≡ e = cc in ap (λ (r : String Global × C). string_bytes r.0) same
  name-at (e ∷ es) (suc i) r h = name-at es i r h

  pub name-at-position : (es : List (String Global × C)) (s : List Slot) (i : ℕ) (r : String Global × C) → slots_of cells es ≡ s → Some r ≡ slice_get es i → string_bytes r.0 ≡ name_at s i
  name-at-position es s i r is at = name-at es i r at ∙ ap (λ s. name_at s i) is

  no-name : (es : List (String Global × C)) (i : ℕ) → None ≡ slice_get es i → [] ≡ name_at (slots_of cells es) i
  no-name [] i h = refl
  no-name (e ∷ es) zero h = absurd (true≢false (sym (ap is_some h)))
  no-name (e ∷ es) (suc i) h = no-name es i h

  -- there is no name after the last row
  pub no-name-at-position : (es : List (String Global × C)) (s : List Slot) (i : ℕ) → slots_of cells es ≡ s → None ≡ slice_get es i → [] ≡ name_at s i
  no-name-at-position es s i is at = no-name es i at ∙ ap (λ s. name_at s i) is

  -- a write of one cell of the row at i
  pub row-write : (es : List (String Global × C)) (s : List Slot) (i j : ℕ) (x new : C) (c : Cell) → slots_of cells es ≡ s → slice_get (values_of es) i ≡ Some x → cells new ≡ set (cells x) j c → slots_of cells (set_value_at es i new) ≡ with_cell s i j c
  row-write es s i j x new c is at e =
      rows-set es i new
      ∙ ap (with_cells (slots_of cells es) i) (e ∙ ap (λ l. set l j c) (cells-at-position es s i x is at))
      ∙ ap (λ t. with_cells t i (set (cells_of s i) j c)) is

  pub differ-written : (es : List (String Global × C)) (i : ℕ) (new : C) → NamesDiffer (slots_of cells es) → NamesDiffer (slots_of cells (set_value_at es i new))
  differ-written es i new d = subst NamesDiffer (sym (rows-set es i new)) (differ-with_cells (slots_of cells es) i (cells new) d)

  slots_of-append : (es fs : List (String Global × C)) → slots_of cells (es ++ fs) ≡ slots_of cells es ++ slots_of cells fs
  slots_of-append [] fs = refl
  slots_of-append (e ∷ es) fs = ap (λ l. seen cells e ∷ l) (slots_of-append es fs)

  -- a row that is added
  pushed : (es fs : List (String Global × C)) (s : List Slot) (k : String Global) (new : C) → slots_of cells es ≡ s → IsMissing (string_bytes k) s → (lookup (is_name (string_bytes k)) es ≡ None → fs ≡ es ++ (k, new) ∷ []) → slots_of cells fs ≡ s ++ (string_bytes k, cells new) ∷ []
  pushed es fs s k new e miss h =
      let none = lookup-missing (string_bytes k) es (subst (IsMissing (string_bytes k)) (sym e) miss) in
      ap (slots_of cells) (h none) ∙ slots_of-append es ((k, new) ∷ []) ∙ ap (λ l. l ++ (string_bytes k, cells new) ∷ []) e

  -- a row that an index map inserts
  pub inserted : {S : Type 0} (m : IndexMap (String Global) C S) (fs : List (String Global × C)) (s : List Slot) (k : String Global) (new : C) → slots_of cells m.entries ≡ s → IsMissing (string_bytes k) s → fs ≡ insert_entry string_eq m.entries k new → slots_of cells fs ≡ s ++ (string_bytes k, cells new) ∷ []
  inserted m fs s k new e miss is = pushed m.entries fs s k new e miss (λ none. is ∙ insert_entry-new string_eq m k new none)

  pub length-slots_of : (es : List (String Global × C)) → length (slots_of cells es) ≡ length es
  length-slots_of [] = refl
  length-slots_of (e ∷ es) = ap suc (length-slots_of es)

  -- what is left where the last row is taken off
  pub differ-popped : (es fs : List (String Global × C)) (o : Option (String Global × C)) → es ≡ fs ++ option_to_list o → NamesDiffer (slots_of cells es) → NamesDiffer (slots_of cells fs)
  differ-popped es fs o e d = differ-front (slots_of cells fs) (slots_of cells (option_to_list o)) (subst NamesDiffer (ap (slots_of cells) e ∙ slots_of-append fs (option_to_list o)) d)

  -- the rows before the last, where it is taken off
  pub popped : (es fs : List (String Global × C)) (o : Option (String Global × C)) (s : List Slot) (position : ℕ) → slots_of cells es ≡ s → es ≡ fs ++ option_to_list o → length s ≡ position + 1 → (0 < length es → IsSome o) → take position s ≡ slots_of cells fs
  popped es fs None s position view e last found = absurd (true≢false (sym (found (omega (arith, last, ap length view, length-slots_of es)))))
  popped es fs (Some r) s position view e last found =
      let more : s ≡ slots_of cells fs ++ seen cells r ∷ [] = sym view ∙ ap (slots_of cells) e ∙ slots_of-append fs (r ∷ []) in
      push-back (slots_of cells fs) s (seen cells r) position more (omega (arith, last, ap length more, length-append (slots_of cells fs) (seen cells r ∷ [])))
