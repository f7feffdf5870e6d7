-- The last item of a list, read and replaced.
use Rattle.gk_gherkin.proofs.Common.{Lines, Many, more, none, subst, Bor, option_copied, ◌≡◌, ℕ, zero, suc, ◌+◌, ◌-◌, ◌<◌, List, [], ◌∷◌, ◌++◌, length, map, get_or, set, refl, sym, ap, arith, Option, Some, None, last_or, slice_get}
use Rattle.std.proofs.lemmas.Option.{get_or_from_slice_get}
unfoldable use Rattle.gk_gherkin.specs.OpenParts.{with_last}

pub with_last-push : {A : Type 0} (y : A) (xs : List A) (x : A) → with_last y (xs ++ x ∷ []) ≡ xs ++ y ∷ []
unfolding with_last
with_last-push y [] x = refl
with_last-push y (z ∷ []) x = refl
with_last-push y (z ∷ w ∷ xs) x = ap (λ l. z ∷ l) (with_last-push y (w ∷ xs) x)

pub last_or-push : {A : Type 0} (o : Option A) (xs : List A) (x : A) → last_or o (xs ++ x ∷ []) ≡ Some x
last_or-push o [] x = refl
last_or-push o (y ∷ xs) x = last_or-push (Some y) xs x

at_last : {A V : Type 0} (v : A → V) (xs : List A) (i : ℕ) (new : A) → length xs ≡ i + 1 → map v (set xs i new) ≡ with_last (v new) (map v xs)
unfolding with_last
at_last v [] i new n = absurd (omega arith)
at_last v (x ∷ []) zero new n = refl
at_last v (x ∷ []) (suc i) new n = absurd (omega arith)
at_last v (x ∷ y ∷ xs) zero new n = absurd (omega arith)
at_last v (x ∷ y ∷ xs) (suc i) new n = ap (λ l. v x ∷ l) (at_last v (y ∷ xs) i new (omega arith))

-- The last item of a list is replaced.
pub set_last : {A V : Type 0} (v : A → V) (xs : List A) (n : ℕ) (new : A) → n ≡ length xs → 0 < n → map v (set xs (n - 1) new) ≡ with_last (v new) (map v xs)
set_last v xs n new e some = at_last v xs (n - 1) new (omega arith)

last_at : {A V : Type 0} (v : A → V) (xs : List A) (o : Option V) (i : ℕ) (last : A) → length xs ≡ i + 1 → last ≡ get_or xs i last → last_or o (map v xs) ≡ Some (v last)
last_at v [] o i last n is = absurd (omega arith)
last_at v (x ∷ []) o zero last n is = ap (λ y. Some (v y)) (sym is)
last_at v (x ∷ []) o (suc i) last n is = absurd (omega arith)
last_at v (x ∷ y ∷ xs) o zero last n is = absurd (omega arith)
last_at v (x ∷ y ∷ xs) o (suc i) last n is = last_at v (y ∷ xs) (Some (v x)) i last (omega arith) is

-- The last item of a list, read at its position.
pub get_last : {A V : Type 0} (v : A → V) (xs : List A) (n : ℕ) (last : A) → n ≡ length xs → 0 < n → last ≡ get_or xs (n - 1) last → last_or None (map v xs) ≡ Some (v last)
get_last v xs n last e some is = last_at v xs None (n - 1) last (omega arith) is

-- The last item of a list, if there is one, as `last` of a slice returns it.
pub last_read : {A V : Type 0} (v : A → V) (xs : List A) (last : A) → slice_get xs (length xs - 1) ≡ Some last → last_or None (map v xs) ≡ Some (v last)
last_read v [] last is = let no : ⊥ = cc in absurd no
last_read v (x ∷ xs) last is = get_last v (x ∷ xs) (length (x ∷ xs)) last refl (omega arith) (sym (get_or_from_slice_get (x ∷ xs) (length (x ∷ xs) - 1) last last is))

-- The same, of what is behind the reference that it returns.
pub last_is : {A V : Type 0} (v : A → V) (xs slice : List A) (r : Option (Bor A)) (last : Bor A) → slice ≡ xs → option_copied r ≡ slice_get slice (length slice - 1) → r ≡ Some last → last_or None (map v xs) ≡ Some (v last.now)
last_is v xs slice r last same read is = last_read v xs last.now (rw (← same) (rw is at (sym read)))

-- The last item was changed as the definitions say, and so was the whole.
pub changed_last : {A V W : Type 0} (v : A → V) (whole : List V → W) (xs : List A) (n : ℕ) (old new : A) (g : Option V → W) → n ≡ length xs → 0 < n → old ≡ get_or xs (n - 1) old → g (Some (v old)) ≡ whole (with_last (v new) (map v xs)) → whole (map v (set xs (n - 1) new)) ≡ g (last_or None (map v xs))
changed_last v whole xs n old new g e some is by = rw (get_last v xs n old e some is, set_last v xs n new e some, by) refl

no_last_after : {A P : Type 0} (x : A) (xs : List A) → last_or (Some x) xs ≡ None → P
no_last_after x [] is = let no : ⊥ = cc is in absurd no
no_last_after x (y ∷ xs) is = no_last_after y xs is

-- A list without a last item is empty.
pub no_items : {A : Type 0} (xs : List A) → last_or None xs ≡ None → xs ≡ []
no_items [] is = refl
no_items (x ∷ xs) is = no_last_after x xs is

grown_last : {A : Type 0} (Part : Lines → A → Lines → Type 0) (y : A) (o : Option A) (x : A) (xs : List A) (ls mid rest : Lines) (last : A) → last_or o (x ∷ xs) ≡ Some last → ((from : Lines) → Part from last mid → Part from y rest) → Many Part ls (x ∷ xs) mid → Many Part ls (with_last y (x ∷ xs)) rest
unfolding with_last
grown_last Part y o x [] ls mid rest last is grow (more p none) = let same : x ≡ last = cc is in more (grow ls (subst (λ x. Part ls x mid) same p)) none
grown_last Part y o x (z ∷ xs) ls mid rest last is grow (more {mid = after} p many) = more p (grown_last Part y (Some x) z xs after mid rest last is grow many)

-- If the last part, replaced, reads up to rest, so do the parts with their last replaced.
pub Many-with_last : {A : Type 0} (Part : Lines → A → Lines → Type 0) (y : A) (xs : List A) (ls mid rest : Lines) (last : A) → last_or None xs ≡ Some last → ((from : Lines) → Part from last mid → Part from y rest) → Many Part ls xs mid → Many Part ls (with_last y xs) rest
Many-with_last Part y [] ls mid rest last is grow many = let no : ⊥ = cc is in absurd no
Many-with_last Part y (x ∷ xs) ls mid rest last is grow many = grown_last Part y None x xs ls mid rest last is grow many

last_part : {A : Type 0} {Part : Lines → A → Lines → Type 0} (o : Option A) (x : A) (xs : List A) (ls rest : Lines) (last : A) → last_or o (x ∷ xs) ≡ Some last → Many Part ls (x ∷ xs) rest → (from : Lines) × Part from last rest
last_part {Part = Part} o x [] ls rest last is (more p none) = let same : x ≡ last = cc is in (ls, subst (λ x. Part ls x rest) same p)
last_part o x (z ∷ xs) ls rest last is (more {mid = after} p many) = last_part (Some x) z xs after rest last is many

-- The last of some parts.
pub Many-last : {A : Type 0} {Part : Lines → A → Lines → Type 0} (xs : List A) (ls rest : Lines) (last : A) → last_or None xs ≡ Some last → Many Part ls xs rest → (from : Lines) × Part from last rest
Many-last [] ls rest last is many = let no : ⊥ = cc is in absurd no
Many-last (x ∷ xs) ls rest last is many = last_part None x xs ls rest last is many
