-- What a listing says.
use Rattle.gk_world.proofs.Common.{Vec, Result, Ok, Err, IfOk, ◌≡◌, ℕ, zero, suc, ◌+◌, ◌<◌, Bool, true, false, ◌||◌, cond, List, [], ◌∷◌, map, take, length, Option, Some, None, option_map, String, string_bytes, bytes_eq, refl, ap, sym, ◌∙◌, arith, common_steps, lookup, BTreeMap, is_at, get_by_text, string_cmp, nat_cmp, slice_cmp, eq_by_cmp_equiv, option_or, find, get-from_entries, take-length, nat_list_cmp_total, is_eq-slice_cmp, btree_map_updates_text, Slot, Map, laid, see, map_at, layers_of, name_at, IsMissing, state_at, texts_of, Lists, AreEntries, Notes, is_named}
use Rattle.std.specs.BTreeMap as tree
use Rattle.std.specs.FinMap as finite
use Rattle.gk_world.proofs.SlotsLemmas.{get-map_at-missing, bytes_self}

-- ---- what a map of the program has at a name
abbrev bytes_of_entry : {Y Z : Type 0} → String Y × String Z → List ℕ × List ℕ
bytes_of_entry entry = (string_bytes entry.0, string_bytes entry.1)

chosen : {A B : Type 0} (f : A → B) (b : Bool) (x : A) (o : Option A) → cond b (Some (f x)) (option_map f o) ≡ option_map f (cond b (Some x) o)
chosen f true x o = refl
chosen f false x o = refl

find_entries : {Y Z : Type 0} (es : List (String Y × String Z)) (name : List ℕ) → find (slice_cmp nat_cmp) name (map bytes_of_entry es) ≡ option_map string_bytes (lookup (is_at (λ k. slice_cmp nat_cmp name (string_bytes k))) es)
find_entries [] name = refl
find_entries (e ∷ es) name = grind (arith, common_steps, string_bytes, find_entries es name, chosen)

get-texts_of : {Y Z : Type 0} (m : BTreeMap (String Y) (String Z)) (name : List ℕ) → finite.get (texts_of m.entries) name ≡ option_map string_bytes (get_by_text m name)
get-texts_of m name = get-from_entries nat_list_cmp_total (map bytes_of_entry m.entries) name ∙ find_entries m.entries name

updated : {Z : Type 0} (b : Bool) (text : String Z) (o : Option (String Z)) → option_map string_bytes (cond b (Some text) o) ≡ cond b (Some (string_bytes text)) (option_map string_bytes o)
updated true text o = refl
updated false text o = refl

same_text : (a b : List ℕ) → bytes_eq a b ≡ bytes_eq b a
same_text a b = sym (is_eq-slice_cmp a b) ∙ (eq_by_cmp_equiv nat_list_cmp_total).symm a b ∙ is_eq-slice_cmp b a

get-put : {Y Z : Type 0} (m n : BTreeMap (String Y) (String Z)) (name : String Y) (text : String Z) → tree.Updates string_cmp m n name (Some text) → (q : List ℕ) → finite.get (texts_of n.entries) q ≡ cond (bytes_eq q (string_bytes name)) (Some (string_bytes text)) (finite.get (texts_of m.entries) q)
get-put m n name text h q =
    get-texts_of n q
    ∙ ap (option_map string_bytes) (btree_map_updates_text (string_bytes name) m n (Some text) h q)
    ∙ updated (bytes_eq (string_bytes name) q) text (get_by_text m q)
    ∙ ap (λ b. cond b (Some (string_bytes text)) (option_map string_bytes (get_by_text m q))) (same_text (string_bytes name) q)
    ∙ ap (λ o. cond (bytes_eq q (string_bytes name)) (Some (string_bytes text)) o) (sym (get-texts_of m q))

-- ---- the names so far
-- what there is at the names of the first slots, and nothing at others
abbrev pub ListsFirst : {Y Z : Type 0} → Map → List Slot → ℕ → BTreeMap (String Y) (String Z) → Type 0
ListsFirst there s i m = (q : List ℕ) → finite.get (texts_of m.entries) q ≡ cond (is_named q (take i s)) (there q) None

named_next : (q : List ℕ) (s : List Slot) (i : ℕ) → i < length s → is_named q (take (i + 1) s) ≡ (bytes_eq q (name_at s i) || is_named q (take i s))
named_next q [] i lt = absurd (omega arith)
named_next q (w ∷ s) zero lt = refl
named_next q (w ∷ s) (suc i) lt = grind (arith, common_steps, bytes_eq, named_next q s i (omega arith))

-- a name with its text, if it has one
pub put_notes : {Y Z : Type 0} (m n : BTreeMap (String Y) (String Z)) (name : String Y) (text : String Z) (a b : List ℕ) → string_bytes name ≡ a → string_bytes text ≡ b → tree.Updates string_cmp m n name (Some text) → Notes a (Some b) m n
put_notes m n name text a b e f h = λ q. get-put m n name text h q ∙ (λ k. cond (bytes_eq q (e k)) (Some (f k)) (finite.get (texts_of m.entries) q))

noted : (b c : Bool) (t o : Option (List ℕ)) → (b ≡ true → o ≡ t) → cond b (option_or t (cond c o None)) (cond c o None) ≡ cond (b || c) o None
noted false c t o h = refl
noted true c (Some x) o h = sym (h refl)
noted true true None o h = refl
noted true false None o h = sym (h refl)

pub lists_none : {Y Z : Type 0} (there : Map) (s : List Slot) (m : BTreeMap (String Y) (String Z)) → tree.IsEmpty m → ListsFirst there s 0 m
lists_none {Y} {Z} there s m empty = λ q. get-from_entries nat_list_cmp_total (map bytes_of_entry m.entries) q ∙ ap (λ (es : List (String Y × String Z)). find (slice_cmp nat_cmp) q (map bytes_of_entry es)) empty

pub lists_next : {Y Z : Type 0} (there : Map) (s : List Slot) (i : ℕ) (m n : BTreeMap (String Y) (String Z)) (name : List ℕ) (text : Option (List ℕ)) → i < length s → name ≡ name_at s i → text ≡ there name → Notes name text m n → ListsFirst there s i m → ListsFirst there s (i + 1) n
lists_next there s i m n name text lt is has h first = λ q.
    h q
    ∙ ap (λ o. cond (bytes_eq q name) (option_or text o) o) (first q)
    ∙ noted (bytes_eq q name) (is_named q (take i s)) text (there q) (λ e. ap there (bytes_self q name e) ∙ sym has)
    ∙ ap (λ x. cond (bytes_eq q x || is_named q (take i s)) (there q) None) is
    ∙ ap (λ b. cond b (there q) None) (sym (named_next q s i lt))

-- ---- other names have nothing
missing : (q : List ℕ) (s : List Slot) → is_named q s ≡ false → IsMissing q s
missing q [] e = tt
missing q (w ∷ s) e = let p = neither (bytes_eq q w.0) (is_named q s) e in (p.0, missing q s p.1)
  where
    neither : (a b : Bool) → (a || b) ≡ false → (a ≡ false) × (b ≡ false)
    neither false b e = (refl, e)
    neither true b e = let wrong : ⊥ = cc in absurd wrong

laid_nothing : (d : ℕ) (q : List ℕ) (s : List Slot) → IsMissing q s → laid (layers_of d s) q ≡ None
laid_nothing zero q s h = refl
laid_nothing (suc d) q s h = ap (λ o. option_or o (laid (layers_of d s) q)) (get-map_at-missing d q s h) ∙ laid_nothing d q s h

see_laid : (d : ℕ) (q : List ℕ) (s : List Slot) → see (state_at d s) q ≡ laid (layers_of d s) q
see_laid zero q s = refl
see_laid (suc d) q s = refl

all_listed : {Y Z : Type 0} (there : Map) (s : List Slot) (i : ℕ) (m : BTreeMap (String Y) (String Z)) → i ≡ length s → ((q : List ℕ) → IsMissing q s → there q ≡ None) → ListsFirst there s i m → (q : List ℕ) → finite.get (texts_of m.entries) q ≡ there q
all_listed there s i m all none first = grind (arith, common_steps, take-length, missing)

listed : {Y Z E : Type 0} (there : Map) (m : BTreeMap (String Y) (String Z)) (r : Result (Vec (String Y × String Z)) E) → ((q : List ℕ) → finite.get (texts_of m.entries) q ≡ there q) → IfOk r (λ pairs. AreEntries m pairs.items) → IfOk r (λ pairs. Lists there pairs.items)
listed there m (Ok pairs) h e = record { texts = λ q. ap (λ es. finite.get (texts_of es) q) e.same ∙ h q; ascending = e.ascending }
listed there m (Err x) h e = tt

pub table_listed : {Y Z E : Type 0} (s : List Slot) (i : ℕ) (m : BTreeMap (String Y) (String Z)) (r : Result (Vec (String Y × String Z)) E) → i ≡ length s → ListsFirst (finite.get (map_at 0 s)) s i m → IfOk r (λ pairs. AreEntries m pairs.items) → IfOk r (λ pairs. Lists (finite.get (map_at 0 s)) pairs.items)
table_listed s i m r all first = listed (finite.get (map_at 0 s)) m r (all_listed (finite.get (map_at 0 s)) s i m all (λ q h. get-map_at-missing 0 q s h) first)

pub values_listed : {Y Z E : Type 0} (d : ℕ) (s : List Slot) (i : ℕ) (m : BTreeMap (String Y) (String Z)) (r : Result (Vec (String Y × String Z)) E) → i ≡ length s → ListsFirst (see (state_at d s)) s i m → IfOk r (λ pairs. AreEntries m pairs.items) → IfOk r (λ pairs. Lists (see (state_at d s)) pairs.items)
values_listed d s i m r all first = listed (see (state_at d s)) m r (all_listed (see (state_at d s)) s i m all (λ q h. see_laid d q s ∙ laid_nothing d q s h) first)
