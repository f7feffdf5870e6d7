-- Numbers in another order.
use Rattle.gk_lint.proofs.Common.{◌≡◌, ℕ, ◌==◌, List, sym, list_any-IsPermutation, IsPermutation, is_among, unused_entries, unused_from, LibraryValue}

-- The order of numbers doesn't change which are among them.
pub same_among : (xs ys : List ℕ) → IsPermutation xs ys → (n : ℕ) → is_among ys n ≡ is_among xs n
same_among xs ys p n = sym (list_any-IsPermutation (λ other. other == n) xs ys p)

-- What is found goes by which positions are used, whatever their order.
pub same_unused : (xs ys : List ℕ) → ((n : ℕ) → is_among ys n ≡ is_among xs n) → (library : LibraryValue) → unused_from 0 (is_among ys) library ≡ unused_entries xs library
same_unused xs ys same library = λ i. unused_from 0 (λ n. same n i) library
