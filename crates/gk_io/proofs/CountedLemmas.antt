-- One write after the other.
use Rattle.gk_io.proofs.Common.{◌≡◌, ℕ, ◌+◌, ◌-◌, List, length, take, drop, Option, subst, sym, arith, take-add, common_steps, Appends-trans, Appends}

-- a write after the first n bytes, as the code has the slice
pub Appends-after : (a b c : Option (List ℕ)) (xs : List ℕ) (n k : ℕ) → Appends a b (take n xs) → Appends b c (take k (take (length xs - n) (drop n xs))) → Appends a c (take (n + k) xs)
Appends-after a b c xs n k g h =
    let whole : take (length xs - n) (drop n xs) ≡ drop n xs = grind (arith, common_steps) in
    subst (Appends a c) (sym (take-add n k xs)) (Appends-trans a b c (take n xs) (take k (drop n xs)) g (subst (λ ys. Appends b c (take k ys)) whole h))
