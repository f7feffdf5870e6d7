-- What is found among entries of which those from a position on are for steps of each type.
use Rattle.gk_steps.proofs.Common.{◌≡◌, ℕ, zero, suc, ◌<◌, ◌≤◌, inl, inr, Bool, true, false, ◌&&◌, List, [], ◌∷◌, take, map, Option, Some, None, refl, sym, subst, ◌∙◌, arith, common_steps, slice_get, is_none, cases_lt, take-map, StepType, Entry, EntryValue, LibraryValue, FoundValue, HasCandidate, HasTableCandidate, IsFoundOf, entry_value, are_for_each_from}
use Rattle.gk_steps.proofs.DecimalLemmas.{and_left, and_right}

-- elements before a position
pub get_before : {X : Type 0} (xs : List X) (n i : ℕ) → i < n → slice_get (take n xs) i ≡ slice_get xs i
get_before xs zero i less = absurd (omega arith)
get_before [] (suc n) i less = refl
get_before (x ∷ xs) (suc n) zero less = refl
get_before (x ∷ xs) (suc n) (suc i) less = get_before xs n i (omega arith)

pub get_taken : {X : Type 0} (xs : List X) (n i : ℕ) (x : X) → slice_get (take n xs) i ≡ Some x → i < n
get_taken xs zero i x e = let bad : ⊥ = cc in absurd bad
get_taken [] (suc n) i x e = let bad : ⊥ = cc in absurd bad
get_taken (y ∷ ys) (suc n) zero x e = omega arith
get_taken (y ∷ ys) (suc n) (suc i) x e = let less : i < n = get_taken ys n i x e in omega arith

-- entries from a position on
none_so : (o : Option StepType) → is_none o ≡ true → o ≡ None
none_so None e = refl
none_so (Some t) e = let bad : ⊥ = cc in absurd bad

for_each_at : (entries : List Entry) (typed position : ℕ) (entry : EntryValue) → are_for_each_from typed entries ≡ true → typed ≤ position → slice_get (map entry_value entries) position ≡ Some entry → entry.step_type ≡ None
for_each_at [] typed position entry all le e = let bad : ⊥ = cc in absurd bad
for_each_at (x ∷ xs) (suc n) zero entry all le e = absurd (omega arith)
for_each_at (x ∷ xs) (suc n) (suc p) entry all le e = for_each_at xs n p entry all (omega arith) e
for_each_at (x ∷ xs) zero zero entry all le e = grind (arith, common_steps, none_so, and_left)
for_each_at (x ∷ xs) zero (suc p) entry all le e = for_each_at xs zero p entry (and_right (is_none x.step_type) (are_for_each_from 0 xs) all) (omega arith) e

-- what is found before a position is found
not_typed : (o : Option StepType) (t : StepType) → o ≡ None → o ≡ Some t → ⊥
not_typed o t a b = let bad : ◌≡◌ {A = Option StepType} None (Some t) = sym a ∙ b in let none : ⊥ = cc in none

found_before : (es : LibraryValue) (n : ℕ) (t : StepType) (text : List ℕ) (found : Option FoundValue) → ((position : ℕ) (entry : EntryValue) → n ≤ position → slice_get es position ≡ Some entry → entry.step_type ≡ None)
    → IsFoundOf (take n es) (Some t) text found → IsFoundOf es (Some t) text found
found_before es n t text None rest h = λ position entry e is. elim (cases_lt position n) [
  | inl less ↦ h position entry (get_before es n position less ∙ e) is
  | inr le ↦ absurd (not_typed entry.step_type t (rest position entry le e) is)
]
found_before es n t text (Some found) rest h = grind (arith, common_steps, get_taken, get_before)

pub typed_found : (entries : List Entry) (typed : ℕ) (t : StepType) (text : List ℕ) (found : Option FoundValue) → are_for_each_from typed entries ≡ true → IsFoundOf (map entry_value (take typed entries)) (Some t) text found → IsFoundOf (map entry_value entries) (Some t) text found
typed_found entries typed t text found all h =
    found_before (map entry_value entries) typed t text found (λ position entry le e. for_each_at entries typed position entry all le e)
    (subst (λ es. IsFoundOf es (Some t) text found) (sym (take-map entry_value typed entries)) h)

-- an entry before a position whose ends a text has
candidate_before : (es : LibraryValue) (n : ℕ) (step_type : Option StepType) (text : List ℕ) → HasCandidate (take n es) step_type text → HasCandidate es step_type text
candidate_before es n step_type text h = grind (arith, common_steps, get_before, get_taken)

pub typed_candidate : (entries : List Entry) (typed : ℕ) (t : StepType) (text : List ℕ) → HasCandidate (map entry_value (take typed entries)) (Some t) text → HasCandidate (map entry_value entries) (Some t) text
typed_candidate entries typed t text h = candidate_before (map entry_value entries) typed (Some t) text (subst (λ es. HasCandidate es (Some t) text) (sym (take-map entry_value typed entries)) h)

table_candidate_before : (es : LibraryValue) (n : ℕ) (step_type : Option StepType) (text : List ℕ) → HasTableCandidate (take n es) step_type text → HasTableCandidate es step_type text
table_candidate_before es n step_type text h = grind (arith, common_steps, get_before, get_taken)

pub typed_table_candidate : (entries : List Entry) (typed : ℕ) (t : StepType) (text : List ℕ) → HasTableCandidate (map entry_value (take typed entries)) (Some t) text → HasTableCandidate (map entry_value entries) (Some t) text
typed_table_candidate entries typed t text h = table_candidate_before (map entry_value entries) typed (Some t) text (subst (λ es. HasTableCandidate es (Some t) text) (sym (take-map entry_value typed entries)) h)

both_true : (a b : Bool) → a ≡ true → b ≡ true → (a && b) ≡ true
both_true true b e f = f
both_true false b e f = let bad : ⊥ = cc in absurd bad

pub one_less : (entries : List Entry) (typed : ℕ) (x : Entry) → slice_get entries typed ≡ Some x → is_none x.step_type ≡ true → are_for_each_from (suc typed) entries ≡ true → are_for_each_from typed entries ≡ true
one_less [] typed x e none all = let bad : ⊥ = cc in absurd bad
one_less (y ∷ ys) zero x e none all = grind (arith, common_steps, both_true)
one_less (y ∷ ys) (suc n) x e none all = one_less ys n x e none all
