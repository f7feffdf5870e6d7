-- What stands before and after the first colon or blank of a text.
use Rattle.gk_gherkin.proofs.Common.{◌≡◌, ◌<◌, ◌∷◌, false, get_or, ◌+◌, ℕ, List, [], length, Option, Some, None, Bor, ap, sym, arith, take_all, drop_all, IsSplitOnceResult, split_once_first, position_or_len, before_first, after_first, trim, begins, nat_tests, is_colon}

module _ (text : List ℕ) (r : Option (Bor (List ℕ) × Bor (List ℕ))) (split : IsSplitOnceResult 58 text r) where
  pub at_colon : (x : Bor (List ℕ) × Bor (List ℕ)) → r ≡ Some x → (x.0.now ≡ before_first is_colon text) × (x.1.now ≡ after_first is_colon text)
  at_colon x is = let (inside, front, back) = rw is at (split_once_first 58 text r split (omega arith)) in (front, back)

  pub no_colon : r ≡ None → (text ≡ before_first is_colon text) × (trim (after_first is_colon text) ≡ [])
  no_colon is =
      let none = rw is at (split_once_first 58 text r split (omega arith)) in
      (sym (take_all (position_or_len is_colon text) text (omega arith)), ap trim (drop_all (position_or_len is_colon text + 1) text (omega arith)))

-- No text begins with a word that has another first byte.
pub first_differs : (text word : List ℕ) → 0 < length text → 0 < length word → (get_or text 0 0 ≡ get_or word 0 0 → ⊥) → begins text word ≡ false
first_differs [] word a b differs = absurd (omega arith)
first_differs (t ∷ text) [] a b differs = absurd (omega arith)
first_differs (t ∷ text) (w ∷ word) a b differs = grind (arith, nat_tests)
