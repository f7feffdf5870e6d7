-- Numbers under keys, in buckets.
use Rattle.gk_steps.proofs.Common.{◌≡◌, ℕ, zero, suc, ◌+◌, ◌<◌, ◌≤◌, inl, inr, List, [], ◌∷◌, ◌++◌, length, get_or, Option, Some, refl, ap, sym, subst, ◌∙◌, arith, slice_get, slice_set, eq-or-lt_of_le, cases_lt}
use Rattle.std.specs.Prelude.{Vec, ◌%◌}
use Rattle.std.specs.Option.{option_map_or}
use Rattle.std.specs.declared.alloc.Global.{Global}
use Rattle.std.proofs.Math.Nat.{mod-lt}
use Rattle.std.proofs.lemmas.List.{length-set}
use Rattle.gk_steps.specs.declared.keyed_numbers.Keyed.{Keyed}
use Rattle.gk_steps.specs.KeyedNumbers.{bucket_of, IsIn, IsUnder, IsLeastUnder, PushesUnder}
use Rattle.gk_steps.proofs.EntryIndexLemmas.{get_at, get_within, same_some}

-- a bucket with one number more
get_changed : {X : Type 0} (xs : List X) (i k : ℕ) (y : X) → i < length xs → (k ≡ i → ⊥) → slice_get (slice_set xs i y) k ≡ slice_get xs k
get_changed [] i k y l differ = absurd (omega (arith, l))
get_changed (x ∷ xs) zero zero y l differ = absurd (differ refl)
get_changed (x ∷ xs) zero (suc k) y l differ = refl
get_changed (x ∷ xs) (suc i) zero y l differ = refl
get_changed (x ∷ xs) (suc i) (suc k) y l differ = get_changed xs i k y (omega (arith, l)) (λ same. differ (ap suc same))

get_new : {X : Type 0} (xs : List X) (i : ℕ) (y : X) → i < length xs → slice_get (slice_set xs i y) i ≡ Some y
get_new [] i y l = absurd (omega (arith, l))
get_new (x ∷ xs) zero y l = refl
get_new (x ∷ xs) (suc i) y l = get_new xs i y (omega (arith, l))

get_front : {X : Type 0} (xs ys : List X) (k : ℕ) (p : X) → slice_get xs k ≡ Some p → slice_get (xs ++ ys) k ≡ Some p
get_front [] ys k p e = let bad : ⊥ = cc in absurd bad
get_front (x ∷ xs) ys zero p e = e
get_front (x ∷ xs) ys (suc k) p e = get_front xs ys k p e

get_end : {X : Type 0} (xs : List X) (y : X) → slice_get (xs ++ y ∷ []) (length xs) ≡ Some y
get_end [] y = refl
get_end (x ∷ xs) y = get_end xs y

pub bucket_pushed : (xs ys : List (Vec Keyed Global)) (key number n : ℕ) (before after : Vec Keyed Global) → n ≡ length xs → 0 < n → before ≡ get_or xs (key % n) before → after.items ≡ before.items ++ (record { key = key; number = number }) ∷ [] → ys ≡ slice_set xs (key % n) after → PushesUnder key number xs ys
bucket_pushed xs ys key number n before after size some is pushed set =
    let i = key % n in
    let item : Keyed = record { key = key; number = number } in
    let items : Option (Vec Keyed Global) → List Keyed = λ o. option_map_or (λ (v : Vec Keyed Global). v.items) o [] in
    let within : i < length xs = subst (λ m. i < m) size (mod-lt key some) in
    let count : length ys ≡ length xs = ap length set ∙ length-set xs i after in
    let new_at : (k : ℕ) → bucket_of ys k ≡ items (slice_get (slice_set xs i after) (k % n)) = λ k. ap (λ m. items (slice_get ys (k % m))) (count ∙ sym size) ∙ ap (λ zs. items (slice_get zs (k % n))) set in
    let old_at : (k : ℕ) → bucket_of xs k ≡ items (slice_get xs (k % n)) = λ k. ap (λ m. items (slice_get xs (k % m))) (sym size) in
    let here : (k : ℕ) → k % n ≡ i → bucket_of ys k ≡ bucket_of xs k ++ item ∷ [] = λ k same.
    new_at k ∙ ap (λ j. items (slice_get (slice_set xs i after) j)) same ∙ ap items (get_new xs i after within) ∙ pushed
    ∙ ap (λ zs. zs ++ item ∷ []) (sym (old_at k ∙ ap (λ j. items (slice_get xs j)) same ∙ ap items (get_at xs i before within is))) in
    let other : (k : ℕ) → (k % n ≡ i → ⊥) → bucket_of ys k ≡ bucket_of xs k = λ k differ. new_at k ∙ ap items (get_changed xs i (k % n) after within differ) ∙ sym (old_at k) in
    record {
      kept = λ k p among. elim (cases_lt (k % n) i) [
        | inl less ↦ subst (λ zs. IsIn zs k p) (sym (other k (λ same. omega (arith, less, same)))) among
        | inr le ↦ elim (eq-or-lt_of_le le) [
          | inl same ↦ subst (λ zs. IsIn zs k p) (sym (here k (sym same))) (among.0, get_front (bucket_of xs k) (item ∷ []) among.0 (record { key = k; number = p }) among.1)
          | inr more ↦ subst (λ zs. IsIn zs k p) (sym (other k (λ same. omega (arith, more, same)))) among
        ]
      ];
      added = subst (λ zs. IsIn zs key number) (sym (here key refl)) (length (bucket_of xs key), get_end (bucket_of xs key) item);
      count = count;
    }

pub already_there : (xs : List (Vec Keyed Global)) (key number : ℕ) → IsUnder xs key number → PushesUnder key number xs xs
already_there xs key number there = record { kept = λ k n is. is; added = there; count = refl }

-- the least of a bucket
abbrev pub LeastOfFirst : List Keyed → ℕ → ℕ → ℕ → ℕ → Type 0
LeastOfFirst items key from k least = (j number : ℕ) → j < k → slice_get items j ≡ Some (record { key = key; number = number }) → from ≤ number → least ≤ number

pub first_none : (items : List Keyed) (key from least : ℕ) → LeastOfFirst items key from 0 least
first_none items key from least j number less = absurd (omega (arith, less))

pub first_more : (items : List Keyed) (key from old new k : ℕ) (item : Keyed) → slice_get items k ≡ Some item → new ≤ old → LeastOfFirst items key from k old → (item.key ≡ key → from ≤ item.number → new ≤ item.number) → LeastOfFirst items key from (k + 1) new
first_more items key from old new k item there le h now j number less is low = elim (let most : j ≤ k = omega (arith, less) in eq-or-lt_of_le most) [
  | inr before ↦ omega (arith, le, h j number before is low)
  | inl here ↦
      let own : Keyed = record { key = key; number = number } in
      let same : item ≡ own = same_some item own (sym there ∙ ap (slice_get items) (sym here) ∙ is) in
      let number_is : item.number ≡ number = ap (λ (i : Keyed). i.number) same in
      omega (arith, number_is, now (ap (λ (i : Keyed). i.key) same) (omega (arith, number_is, low)))
]

pub first_all : (buckets : List (Vec Keyed Global)) (items : List Keyed) (key from most least k : ℕ) → items ≡ bucket_of buckets key → length items ≤ k → (from ≤ most → from ≤ least) → least ≤ most → LeastOfFirst items key from k least → IsLeastUnder buckets key from most least
first_all buckets items key from most least k is past low high h = record {
  low = low;
  high = high;
  least = λ number among later.
      let there : slice_get items among.0 ≡ Some (record { key = key; number = number }) = ap (λ xs. slice_get xs among.0) is ∙ among.1 in
      h among.0 number (omega (arith, past, get_within items among.0 (record { key = key; number = number }) there)) there later;
}
