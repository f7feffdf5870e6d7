-- Whether a line is among lines in rising order.
use Rattle.gk_select.proofs.Common.{common_steps, get_or_default_zero, ◌≡◌, ◌<◌, ◌≤◌, ℕ, false, ◌==◌, List, length, get_or, Result, Ok, Err, is_ok, arith, cases_lt, nat_tests, list_any_at, list_any_none, searched, list_any-IsPermutation, length_permutation, list_any, IsBinarySearchResult, IsNonDecreasing, IsPermutation, nat_cmp, MatchResult, is_chosen, Expression}

below : (a b : ℕ) → a < b → (a == b) ≡ false
below a b l = grind (arith, nat_tests)

above : (a b : ℕ) → b < a → (a == b) ≡ false
above a b l = grind (arith, nat_tests)

-- What a search says of the whole list.
from_searched : (xs : List ℕ) (x : ℕ) (r : Result ℕ ℕ)
    → MatchResult r (λ i. (i < length xs) × (get_or xs i 0 ≡ x)) (λ i. (i ≤ length xs) × ((k : ℕ) → k < i → get_or xs k 0 < x) × ((k : ℕ) → i ≤ k → k < length xs → x < get_or xs k 0))
    → is_ok r ≡ list_any (λ y. y == x) xs
from_searched xs x (Ok i) f = grind (arith, common_steps, list_any_at)
from_searched xs x (Err i) f = grind (arith, common_steps, list_any_none, get_or_default_zero, cases_lt, below, above)

pub is_among : (xs : List ℕ) (x : ℕ) (r : Result ℕ ℕ) → IsBinarySearchResult (λ y. nat_cmp y x) xs r → IsNonDecreasing xs → is_ok r ≡ list_any (λ y. y == x) xs
is_among xs x r s up = from_searched xs x r (searched xs x r s (λ i j. up i j 0))

-- In any order, lines choose the same cases.
pub same_choice : (rules : List Expression) (xs ys : List ℕ) → IsPermutation xs ys → is_chosen rules ys ≡ is_chosen rules xs
unfolding is_chosen
same_choice rules xs ys p = grind (arith, common_steps, list_any-IsPermutation, length_permutation)
