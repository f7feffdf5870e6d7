-- A text is cut after its last byte that is no blank.
use Rattle.gk_select.proofs.Common.{◌≡◌, ◌-◌, List, ℕ, length, take, ap, sym, subst, ◌∙◌, arith, length-take-le, IsCharBoundary-from_take, suffix_len, IsUtf8, IsSplitPoint, is_blank, trim_back}

-- The text that is left, and its length.
module _ (bs left : List ℕ) (is : left ≡ trim_back bs) where
  same_length : length left ≡ length bs - suffix_len is_blank bs
  same_length = ap length is ∙ length-take-le (length bs - suffix_len is_blank bs) bs (omega arith)

  pub front_is : take (length left) bs ≡ left
  front_is = ap (λ (n : ℕ). take n bs) same_length ∙ sym is

  pub splits : IsUtf8 bs → IsUtf8 left → IsSplitPoint bs (length left)
  splits whole front =
      let seam = IsCharBoundary-from_take bs (length left) whole (omega (arith, same_length)) (subst IsUtf8 (sym front_is) front) in
      (seam.0, λ _. seam.1)
