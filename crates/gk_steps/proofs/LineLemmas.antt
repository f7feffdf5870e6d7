-- The lines of a text, as a loop over its parts meets them.
use Rattle.gk_steps.proofs.Common.{◌≡◌, ℕ, zero, suc, ◌+◌, ◌<◌, ◌≤◌, List, [], ◌∷◌, length, take, get_or, refl, ap, ◌∙◌, arith, common_steps, Lines, line_at, numbered_from}

-- a part is the line of its number
pub line_there : (n : ℕ) (texts : List (List ℕ)) (i : ℕ) (text : List ℕ) → i < length texts → text ≡ get_or texts i text → (i < length (numbered_from n texts)) × (line_at (n + i) text ≡ get_or (numbered_from n texts) i (line_at (n + i) text))
line_there n [] i text less e = absurd (omega arith)
line_there n (t ∷ texts) zero text less e = (omega arith, ap (λ (m : ℕ). line_at m text) (let same : n + 0 ≡ n = omega arith in same) ∙ ap (line_at n) e)
line_there n (t ∷ texts) (suc i) text less e = grind (arith, common_steps, line_there (n + 1) texts i text (omega arith) e)

-- after the last part no line is left
pub no_more_lines : (n : ℕ) (texts : List (List ℕ)) (i : ℕ) → length texts ≤ i → take i (numbered_from n texts) ≡ numbered_from n texts
no_more_lines n [] zero le = refl
no_more_lines n [] (suc i) le = refl
no_more_lines n (t ∷ texts) zero le = absurd (omega arith)
no_more_lines n (t ∷ texts) (suc i) le = ap (λ (ls : Lines). line_at n t ∷ ls) (no_more_lines (n + 1) texts i (omega arith))
