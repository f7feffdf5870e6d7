-- A text is filled piece by piece, each piece the text before a `>`.
use Rattle.gk_select.proofs.Common.{◌≡◌, ◌≢◌, ℕ, zero, suc, ◌+◌, ◌<◌, false, ◌&&◌, nat_eq, List, [], ◌∷◌, ◌++◌, length, get_or, Option, Some, None, refl, ap, arith, inl, inr, common_steps, cases_Bool, cases_eq, cond-true, cond-false, ne_eqb, nat_tests, bytes_eq-Decides, starts_with, bytes_eq, can_stand, header_at, cell_under, filled_at, filled_from, filled, cell_of, cell_or_byte, filled_piece}

-- A text without a byte.
pub record Without (c : ℕ) (bs : List ℕ) : Type 0 where
  pub at : (i : ℕ) → i < length bs → get_or bs i 0 ≢ c

pub Without-rest : {c b : ℕ} {bs : List ℕ} → Without c (b ∷ bs) → Without c bs
Without-rest {c} {b} {bs} w = record { at = λ i h. w.at (suc i) (omega arith) }

pub Without-first : {c b : ℕ} {bs : List ℕ} → Without c (b ∷ bs) → b ≢ c
Without-first {c} {b} {bs} w = w.at 0 (omega arith)

-- Before a `>`, a placeholder's rest is the piece itself.
ends_piece : (h bs after : List ℕ) → Without 62 bs → (can_stand h && starts_with nat_eq (bs ++ 62 ∷ after) (h ++ 62 ∷ [])) ≡ bytes_eq h bs
ends_piece [] [] after w = refl
ends_piece [] (b ∷ bs) after w = let first = Without-first w in grind (arith, nat_tests)
ends_piece (x ∷ h) [] after w = grind (arith, nat_tests)
ends_piece (x ∷ h) (b ∷ bs) after w = let first = Without-first w in let ih = ends_piece h bs after (Without-rest w) in grind (arith, nat_tests, ih)

-- Where no `>` is left, there is no placeholder.
no_end : (h bs : List ℕ) → Without 62 bs → starts_with nat_eq bs (h ++ 62 ∷ []) ≡ false
no_end [] [] w = refl
no_end [] (b ∷ bs) w = let first = Without-first w in grind (arith, nat_tests)
no_end (x ∷ h) [] w = refl
no_end (x ∷ h) (b ∷ bs) w = let ih = no_end h bs (Without-rest w) in grind (arith, nat_tests, ih)

-- The header whose placeholder begins a `<`, a piece and its `>`, is the piece, where it has a cell.
abbrev Finds : List ℕ → Option (List ℕ) → Option (List ℕ) → Type 0
Finds bs (Some h) (Some cell) = h ≡ bs
Finds bs None None = Unit {0}
Finds bs _ _ = ⊥

finds : (headers cells : List (List ℕ)) (bs after : List ℕ) → length cells ≡ length headers → Without 62 bs → Finds bs (header_at headers (60 ∷ (bs ++ 62 ∷ after))) (cell_of headers cells bs)
unfolding cell_of
finds [] cells bs after e w = tt
finds (h ∷ headers) [] bs after e w = absurd (omega arith)
finds (h ∷ headers) (cell ∷ cells) bs after e w = grind (arith, common_steps, finds headers cells bs after (omega arith) w, ends_piece, cases_Bool, bytes_eq-Decides, cond-true, cond-false)

-- A byte other than `<` begins no placeholder.
no_placeholder : (headers : List (List ℕ)) (b : ℕ) (bs : List ℕ) → b ≢ 60 → header_at headers (b ∷ bs) ≡ None
no_placeholder [] b bs n = refl
no_placeholder (h ∷ headers) b bs n = let ih = no_placeholder headers b bs n in grind (arith, nat_tests, ih)

none_left : (headers : List (List ℕ)) (bs : List ℕ) → Without 62 bs → header_at headers bs ≡ None
none_left [] bs w = refl
none_left (h ∷ headers) bs w = let no = no_end (60 ∷ h) bs w in let ih = none_left headers bs w in grind (arith, nat_tests, no, ih)

-- Bytes that a placeholder has taken.
skips : (headers cells : List (List ℕ)) (n : ℕ) (bs after : List ℕ) → n ≡ length bs + 1 → filled_from headers cells n (bs ++ 62 ∷ after) ≡ filled_from headers cells 0 after
unfolding filled_from
skips headers cells zero bs after e = absurd (omega arith)
skips headers cells (suc n) [] after e = let none : n ≡ 0 = omega arith in rw none refl
skips headers cells (suc n) (b ∷ bs) after e = skips headers cells n bs after (omega arith)

-- What a `<` before a piece gives.
begins : (headers cells : List (List ℕ)) (bs after : List ℕ) (h c : Option (List ℕ)) → Finds bs h c → cell_of headers cells bs ≡ c
    → filled_from headers cells 0 (bs ++ 62 ∷ after) ≡ filled_piece headers cells bs ++ filled_from headers cells 0 after
    → filled_at (cell_under headers cells) h (λ skip. filled_from headers cells skip (bs ++ 62 ∷ after)) 60 ≡ cell_or_byte c 60 (filled_piece headers cells bs) ++ filled_from headers cells 0 after
begins headers cells bs after (Some h) (Some c) e cell ih = rw (e, cell, skips headers cells (length bs + 1) bs after refl) refl
begins headers cells bs after None None f cell ih = ap (λ (bs : List ℕ). 60 ∷ bs) ih
begins headers cells bs after (Some h) None f cell ih = absurd f
begins headers cells bs after None (Some c) f cell ih = absurd f

-- A piece and its `>` are filled as the code does it.
pub fills_piece : (headers cells : List (List ℕ)) (bs after : List ℕ) → length cells ≡ length headers → Without 62 bs
    → filled headers cells (bs ++ 62 ∷ after) ≡ filled_piece headers cells bs ++ filled headers cells after
unfolding filled filled_from filled_piece
fills_piece headers cells [] after e w = rw (no_placeholder headers 62 after (omega arith)) refl
fills_piece headers cells (b ∷ bs) after e w =
    let ih = fills_piece headers cells bs after e (Without-rest w) in
    elim (cases_eq b 60) [
      | inl is ↦ rw is (begins headers cells bs after (header_at headers (60 ∷ (bs ++ 62 ∷ after))) (cell_of headers cells bs) (finds headers cells bs after e (Without-rest w)) refl ih)
      | inr differs ↦ rw (no_placeholder headers b (bs ++ 62 ∷ after) differs, ne_eqb b 60 differs) (ap (λ (bs : List ℕ). b ∷ bs) ih)
    ]

-- A text without `>` stays.
pub fills_end : (headers cells : List (List ℕ)) (bs : List ℕ) → Without 62 bs → filled headers cells bs ≡ bs
unfolding filled filled_from
fills_end headers cells [] w = refl
fills_end headers cells (b ∷ bs) w = rw (none_left headers (b ∷ bs) w) (ap (λ (bs : List ℕ). b ∷ bs) (fills_end headers cells bs (Without-rest w)))

-- A text without `<` goes into the filled piece as it is.
pub fills_plain : (headers cells : List (List ℕ)) (bs after : List ℕ) → Without 60 bs → filled_piece headers cells (bs ++ after) ≡ bs ++ filled_piece headers cells after
unfolding filled_piece
fills_plain headers cells [] after w = refl
fills_plain headers cells (b ∷ bs) after w = rw (ne_eqb b 60 (Without-first w)) (ap (λ (bs : List ℕ). b ∷ bs) (fills_plain headers cells bs after (Without-rest w)))
