-- What an index over names finds.
use Rattle.gk_select.proofs.Common.{IfSome, ◌||◌, list_any, bytes_eq-Decides, ltb, Bool, true, false, cond, is_some, slice_get, option_map, option_copied, update, nat_cmp, is_eq, string_bytes, ◌≡◌, ℕ, zero, suc, ◌+◌, ◌<◌, ◌≤◌, List, [], ◌∷◌, length, drop, get_or, Option, Some, None, Bor, String, inl, inr, refl, sym, ap, ◌∙◌, arith, common_steps, cond-true, cond-false, cases_lt, lt-ltb, ltb-true, drop_more, drop_all, slice_get_past, texts, cell_of, position_of, position_in, has_length, IsIndexFrom, NameIndex}
use Rattle.std.specs.Prelude.{bytes_eq}

shifted : (first : ℕ) (o : Option ℕ) → option_map (λ n. first + n) (option_map suc o) ≡ option_map (λ n. first + 1 + n) o
shifted first None = refl
shifted first (Some n) = ap Some (omega arith)

from_zero : (o : Option ℕ) → option_map (λ n. 0 + n) o ≡ o
from_zero None = refl
from_zero (Some n) = ap Some (omega arith)

-- The first name of some, or one of the others.
by_name : (first : ℕ) (b : Bool) (old o : Option ℕ) → old ≡ option_map (λ n. first + 1 + n) o → cond b (Some first) old ≡ option_map (λ n. first + n) (cond b (Some 0) (option_map suc o))
by_name first true old o e = ap Some (omega arith)
by_name first false old o e = e ∙ sym (shifted first o)

-- Names one after another.
module _ {Z : Type 0} (header : List (String Z)) (i : ℕ) (name : List ℕ) where
  at_name : (h : String Z) → i < length header → h ≡ get_or header i h → position_of (texts (drop i header)) name ≡ cond (bytes_eq (string_bytes h) name) (Some 0) (option_map suc (position_of (texts (drop (i + 1) header)) name))
  unfolding position_of
  at_name h within is = rw (drop_more header i h within, sym is) refl

  pub found : (h : String Z) → i < length header → h ≡ get_or header i h → bytes_eq (string_bytes h) name ≡ true → option_map (λ n. i + n) (position_of (texts (drop i header)) name) ≡ Some i
  found h within is t = ap (option_map (λ n. i + n)) (at_name h within is ∙ cond-true _ _ _ t) ∙ ap Some (omega arith)

  pub other : (h : String Z) → i < length header → h ≡ get_or header i h → bytes_eq (string_bytes h) name ≡ false → option_map (λ n. i + 1 + n) (position_of (texts (drop (i + 1) header)) name) ≡ option_map (λ n. i + n) (position_of (texts (drop i header)) name)
  other h within is f = sym (ap (option_map (λ n. i + n)) (at_name h within is ∙ cond-false _ _ _ f) ∙ shifted i _)

  pub none_left : length header ≤ i → option_map (λ n. i + n) (position_of (texts (drop i header)) name) ≡ None
  unfolding position_of
  none_left past = rw (drop_all i header past) refl

-- An index without names.
pub no_names : (first : ℕ) (index : NameIndex) → index.positions.entries ≡ [] → IsIndexFrom first [] index
unfolding position_of
no_names first index e = grind (arith, common_steps)

-- An index with one name more.
no_name : (name other : List ℕ) (names : List (List ℕ)) (b known : Bool) → bytes_eq name other ≡ b → cond (is_eq (nat_cmp (length name) (length other))) true known ≡ false → (known ≡ false → position_of names other ≡ None) → cond b (Some 0) (option_map suc (position_of names other)) ≡ None
no_name name other names true known e absent more = grind (arith, common_steps)
no_name name other names false known e absent more = grind (arith, common_steps)

pub added : (old new : NameIndex) (name : List ℕ) (position : ℕ) (names : List (List ℕ))
    → ((n : ℕ) → has_length new n ≡ cond (is_eq (nat_cmp (length name) n)) true (has_length old n))
    → ((other : List ℕ) → position_in new other ≡ update bytes_eq (position_in old) name (Some position) other)
    → IsIndexFrom (position + 1) names old → IsIndexFrom position (name ∷ names) new
unfolding position_of
added old new name position names longer more is = record {
  positions = λ other. more other ∙ by_name position (bytes_eq name other) (position_in old other) (position_of names other) (is.positions other);
  lengths = λ other absent. no_name name other names (bytes_eq name other) (has_length old (length other)) refl (sym (longer (length other)) ∙ absent) (is.lengths other);
}

pub found_in : (index : NameIndex) (names : List (List ℕ)) (name : List ℕ) → IsIndexFrom 0 names index → position_in index name ≡ position_of names name
found_in index names name is = is.positions name ∙ from_zero (position_of names name)

-- The cell of a row by the position of its column.
at_column : {Z : Type 0} (cell : String Z) (cells : List (String Z)) (b : Bool) (o : Option ℕ) (later : Option (List ℕ)) (position : ℕ)
    → ((n : ℕ) → o ≡ Some n → later ≡ option_map string_bytes (slice_get cells n))
    → cond b (Some 0) (option_map suc o) ≡ Some position → cond b (Some (string_bytes cell)) later ≡ option_map string_bytes (slice_get (cell ∷ cells) position)
at_column cell cells true o later zero more e = refl
at_column cell cells true o later (suc position) more e = let never : ⊥ = cc in absurd never
at_column cell cells false None later position more e = let never : ⊥ = cc in absurd never
at_column cell cells false (Some n) later zero more e = let never : ⊥ = cc in absurd never
at_column cell cells false (Some n) later (suc position) more e = let same : n ≡ position = cc in more position (ap Some same)

pub cell_at : {Z : Type 0} (headers : List (List ℕ)) (row : List (String Z)) (name : List ℕ) (position : ℕ) → position_of headers name ≡ Some position → cell_of headers (texts row) name ≡ option_map string_bytes (slice_get row position)
unfolding position_of cell_of
cell_at [] row name position e = let never : ⊥ = cc in absurd never
cell_at (h ∷ headers) [] name position e = refl
cell_at (h ∷ headers) (cell ∷ cells) name position e = at_column cell cells (bytes_eq h name) (position_of headers name) (cell_of headers (texts cells) name) position (cell_at headers cells name) e

none_later : (b : Bool) (o : Option ℕ) (cell : List ℕ) (later : Option (List ℕ)) → (o ≡ None → later ≡ None) → cond b (Some 0) (option_map suc o) ≡ None → cond b (Some cell) later ≡ None
none_later true o cell later more e = let never : ⊥ = cc in absurd never
none_later false None cell later more e = more refl
none_later false (Some n) cell later more e = let never : ⊥ = cc in absurd never

pub no_cell_at : (headers cells : List (List ℕ)) (name : List ℕ) → position_of headers name ≡ None → cell_of headers cells name ≡ None
unfolding position_of cell_of
no_cell_at [] cells name e = refl
no_cell_at (h ∷ headers) [] name e = refl
no_cell_at (h ∷ headers) (cell ∷ cells) name e = none_later (bytes_eq h name) (position_of headers name) cell (cell_of headers cells name) (no_cell_at headers cells name) e

-- The cell that `get` finds at a position.
got_at : {X : Type 0} (xs : List X) (i : ℕ) (x : X) → i < length xs → x ≡ get_or xs i x → slice_get xs i ≡ Some x
got_at [] i x l e = let never : ⊥ = omega arith in absurd never
got_at (y ∷ ys) zero x l e = ap Some (sym e)
got_at (y ∷ ys) (suc i) x l e = got_at ys i x (omega arith) e

pub looked_up : {X : Type 0} (xs : List X) (position : ℕ) (o : Option (Bor X)) → is_some o ≡ ltb position (length xs) → IfSome o (λ x. x.now ≡ get_or xs position x.now) → slice_get xs position ≡ option_copied o
looked_up xs position None none same = elim (cases_lt position (length xs)) [
  | inl less ↦ let never : false ≡ true = none ∙ lt-ltb position (length xs) less in absurd cc
  | inr past ↦ slice_get_past xs position past
]
looked_up xs position (Some x) some same = got_at xs position x.now (ltb-true position (length xs) (sym some)) same

-- Whether there is a position.
has_next : (name n : List ℕ) (o : Option ℕ) (b : Bool) → is_some o ≡ b → is_some (cond (bytes_eq n name) (Some 0) (option_map suc o)) ≡ (bytes_eq name n || b)
has_next name n o b e = grind (arith, common_steps, bytes_eq-Decides)

pub has_name : (names : List (List ℕ)) (name : List ℕ) → is_some (position_of names name) ≡ list_any (bytes_eq name) names
unfolding position_of
has_name [] name = refl
has_name (n ∷ names) name = has_next name n (position_of names name) (list_any (bytes_eq name) names) (has_name names name)
