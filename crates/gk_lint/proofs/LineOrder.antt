-- A stable sort by lines keeps the findings of each line in their order.
use Rattle.gk_lint.proofs.Common.{◌≡◌, ℕ, ◌<◌, length, not, ◌&&◌, ◌==◌, List, [], ◌∷◌, filter, refl, sym, ap, ◌∙◌, arith, common_steps, Bor, ties, IsStableByKey, IsNonDecreasingBy, IsNonDecreasingBy-from_default, nat_cmp, is_lt, Called, ComputesKey, always_returns_same, filter_agree, nat_tests, Mut, Finding, FindingValue, FileWithoutFeature, finding_value, finding_values}
use Rattle.std.proofs.lemmas.List.{get_or-map}
use Rattle.gk_lint.specs.declared.findings.Hint.TheVariants.{Nothing}

-- Two numbers neither of which is below the other are one.
tie_is_one : (m n : ℕ) → (not (is_lt (nat_cmp m n)) && not (is_lt (nat_cmp n m))) ≡ (n == m)
tie_is_one m n = grind (arith, nat_tests)

-- A finding that none is compared with by more than its line.
abbrev at : ℕ → Finding
at n = record { line = n; kind = FileWithoutFeature; hint = Nothing }

-- From what a stable sort by a closure ensures, where the closure gives the line.
of_each_line : {F : Type 0} {g : Mut F (Bor Finding × Unit {0}) ℕ} {f : F} (xs ys : List Finding) → ((key : Finding → ℕ) → ComputesKey g key f → IsStableByKey key nat_cmp xs ys) → ((a : Bor Finding × Unit {0}) (r : ℕ) (f' : F) → Called g f a r f' → (r ≡ a.0.now.line) × (f' ≡ f)) → (n : ℕ) → filter (λ (x : Finding). x.line == n) ys ≡ filter (λ (x : Finding). x.line == n) xs
of_each_line {g = g} {f = f} xs ys stable h n =
    let line : Finding → ℕ = λ x. x.line in
    let same = stable line (always_returns_same g (λ a r. r ≡ a.0.now.line) f h) (at n) in
    let agree : (x : Finding) → ties (λ (a : Finding) (b : Finding). is_lt (nat_cmp a.line b.line)) (at n) x ≡ (x.line == n) = λ x. tie_is_one n x.line in
    sym (filter_agree _ _ agree ys) ∙ same ∙ filter_agree _ _ agree xs

-- What values of a line there are.
values_at : (n : ℕ) (xs : List Finding) → filter (λ (v : FindingValue). v.line == n) (finding_values xs) ≡ finding_values (filter (λ (x : Finding). x.line == n) xs)
values_at n [] = refl
values_at n (x ∷ xs) = grind (arith, common_steps, values_at n xs)

-- The same of the values of findings.
pub values_of_each_line : {F : Type 0} {g : Mut F (Bor Finding × Unit {0}) ℕ} {f : F} (xs ys : List Finding) → ((key : Finding → ℕ) → ComputesKey g key f → IsStableByKey key nat_cmp xs ys) → ((a : Bor Finding × Unit {0}) (r : ℕ) (f' : F) → Called g f a r f' → (r ≡ a.0.now.line) × (f' ≡ f)) → (n : ℕ) → filter (λ (v : FindingValue). v.line == n) (finding_values ys) ≡ filter (λ (v : FindingValue). v.line == n) (finding_values xs)
values_of_each_line xs ys stable h n = values_at n ys ∙ ap finding_values (of_each_line xs ys stable h n) ∙ sym (values_at n xs)

pub values_by_line : (xs : List Finding) → IsNonDecreasingBy (λ (f : Finding). f.line) xs → IsNonDecreasingBy (λ (v : FindingValue). v.line) (finding_values xs)
values_by_line xs h = IsNonDecreasingBy-from_default (λ (v : FindingValue). v.line) (finding_values xs) (finding_value (at 1)) (λ i j le lt.
    let within : j < length xs = grind (arith, common_steps) in
    rw (get_or-map {X = Finding} {Y = FindingValue} finding_value xs i (at 1) (finding_value (at 1)) (omega (arith, le, within)), get_or-map {X = Finding} {Y = FindingValue} finding_value xs j (at 1) (finding_value (at 1)) within) (h i j (at 1) le within))
