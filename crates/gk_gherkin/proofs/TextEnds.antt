-- Texts that grow at their end.
use Rattle.gk_gherkin.proofs.Common.{◌≡◌, ℕ, List, [], ◌∷◌, ◌++◌, append_assoc, sym, ◌∙◌, arith, common_steps}

pub after_end : (before text : List ℕ) → (before ++ 10 ∷ []) ++ text ≡ before ++ 10 ∷ text
after_end before text = append_assoc before (10 ∷ []) text

-- A text that takes two more pieces, of what is left to take.
pub two_more : (before one two first second left rest all : List ℕ) → one ≡ before ++ first → two ≡ one ++ second → left ≡ first ++ (second ++ rest) → before ++ left ≡ all → two ++ rest ≡ all
two_more before one two first second left rest all e f g h = grind (arith, common_steps)

pub last_piece : (before whole left all : List ℕ) → whole ≡ before ++ left → before ++ left ≡ all → all ≡ whole
last_piece before whole left all e h = sym (e ∙ h)
