-- What std's `contains` answers, as the definition has it.
use Rattle.gk_gherkin.proofs.Common.{◌||◌, ◌==◌, HasSubslice, ◌≡◌, ◌⊎◌, inl, inr, ℕ, Bool, true, false, List, [], ◌∷◌, ◌++◌, length, take, drop, refl, sym, ap, ◌∙◌, arith, take-append_seam, eqb-true, take-append-drop, bytes_eq-Decides, begins, contains}

-- a list begins with another where it is that one and something after it
begins_so : (bs text rest : List ℕ) → bs ≡ text ++ rest → begins bs text ≡ true
begins_so bs text rest e = (bytes_eq-Decides text (take (length text) bs)).1 (sym (ap (λ xs. take (length text) xs) e ∙ take-append_seam text rest))

pub begun : (bs text : List ℕ) → begins bs text ≡ true → bs ≡ text ++ drop (length text) bs
begun bs text h = let e = (bytes_eq-Decides text (take (length text) bs)).0 h in
    sym (take-append-drop (length text) bs) ∙ ap (λ xs. xs ++ drop (length text) bs) (sym e)

pub either_first : (a b : Bool) → a ≡ true → (a || b) ≡ true
either_first true b h = refl
either_first false b h = cc

pub either_second : (a b : Bool) → b ≡ true → (a || b) ≡ true
either_second true b h = refl
either_second false b h = h

no_bytes_after : (before text rest : List ℕ) → [] ≡ before ++ (text ++ rest) → (length text == 0) ≡ true
no_bytes_after [] [] rest e = refl
no_bytes_after [] (b ∷ bs) rest e = cc
no_bytes_after (x ∷ xs) text rest e = cc

tail_same : (x y : ℕ) (xs ys : List ℕ) → x ∷ xs ≡ y ∷ ys → xs ≡ ys
tail_same x y xs ys e = ap (λ zs. drop 1 zs) e

-- a text that another contains is found by the definition
contains_after : (whole text before rest : List ℕ) → whole ≡ before ++ (text ++ rest) → contains whole text ≡ true
contains_after [] text before rest e = no_bytes_after before text rest e
contains_after (b ∷ bs) text [] rest e = either_first (begins (b ∷ bs) text) (contains bs text) (begins_so (b ∷ bs) text rest e)
contains_after (b ∷ bs) text (x ∷ before) rest e = either_second (begins (b ∷ bs) text) (contains bs text) (contains_after bs text before rest (tail_same b x bs _ e))

pub contains_from : (whole text : List ℕ) → HasSubslice whole text → contains whole text ≡ true
contains_from whole text (before, rest, e) = contains_after whole text before rest e

pub one_of : (a b : Bool) → (a || b) ≡ true → (a ≡ true) ⊎ (b ≡ true)
one_of true b h = inl refl
one_of false b h = inr h

empty_text : (text : List ℕ) → (length text == 0) ≡ true → text ≡ []
empty_text [] h = refl
empty_text (b ∷ bs) h = let e = eqb-true (length (b ∷ bs)) 0 h in let never : ⊥ = omega arith in absurd never

pub contains_to : (whole text : List ℕ) → contains whole text ≡ true → HasSubslice whole text
contains_to [] text h = ([], [], sym (ap (λ xs. xs ++ []) (empty_text text h)))
contains_to (b ∷ bs) text h = elim (one_of (begins (b ∷ bs) text) (contains bs text) h) [
  | inl e ↦ ([], drop (length text) (b ∷ bs), begun (b ∷ bs) text e)
  | inr e ↦ let more = contains_to bs text e in (b ∷ more.0, more.1, ap (λ xs. b ∷ xs) more.2)
]
