-- Rows of the table, and steps through it.
use Rattle.gk_steps.proofs.Common.{◌≡◌, ℕ, zero, suc, cond, ◌==◌, ◌+◌, ◌-◌, ◌<◌, ◌≤◌, ◌⊎◌, inl, inr, Bool, true, false, List, [], ◌∷◌, ◌++◌, length, take, drop, get_or, Option, Some, None, is_some, refl, ap, sym, subst, ◌∙◌, arith, length-append, common_steps, IsUtf8, chars, IsCharBoundary, eq-or-lt_of_le, take-append_seam, drop-append_seam, drop-length, take-append-drop, drop-drop, IsUtf8-drop, IsCharBoundary-from_take, IsCharBoundary-from_rest, IsUtf8-from_ascii, IsCharBoundary-end, IsCharBoundary-start, chars-nil, AllDigits, IsNumeral, without_leading_sign, without_leading_plus, eqb-true, Plain, Decimal, PieceValue, Literal, FieldPiece, IsSpan, Matches, MatchesNot, IsPreferred, IsBestMatch, AreBoundaries, part, CanTake, IsAdvanceTo, IsNotAfter, IsAdvance, IsCell, IsRowTo, IsRow}
use Rattle.gk_steps.proofs.MatchingLemmas.{same_prefix, same_back, with_span, IsSplit, split, join}

-- a literal is text
abbrev pub IsTextPiece : PieceValue → Type 0
IsTextPiece (Literal literal) = IsUtf8 literal
IsTextPiece (FieldPiece name kind) = Unit {0}

digits_small : (ds : List ℕ) → AllDigits 10 ds → (i : ℕ) → get_or ds i 0 < 58
digits_small [] h i = omega arith
digits_small (c ∷ cs) h zero = grind (arith, common_steps)
digits_small (c ∷ cs) h (suc i) = digits_small cs h.1 i

drop_small : (x : List ℕ) → AllDigits 10 (drop 1 x) → get_or x 0 0 < 128 → (i : ℕ) → get_or x i 0 < 128
drop_small [] h low i = omega arith
drop_small (c ∷ cs) h low zero = low
drop_small (c ∷ cs) h low (suc i) = let small = digits_small cs h i in omega arith

plus_ascii : (x : List ℕ) (b : Bool) → (get_or x 0 0 == 43) ≡ b → AllDigits 10 (drop (cond b 1 0) x) → (i : ℕ) → get_or x i 0 < 128
plus_ascii x true e h i = drop_small x h (omega (arith, eqb-true (get_or x 0 0) 43 e)) i
plus_ascii x false e h i = let small = digits_small x h i in omega arith

minus_ascii : (x : List ℕ) (b : Bool) → (get_or x 0 0 == 45) ≡ b → AllDigits 10 (cond b (drop 1 x) (without_leading_plus x)) → (i : ℕ) → get_or x i 0 < 128
minus_ascii x true e h i = drop_small x h (omega (arith, eqb-true (get_or x 0 0) 45 e)) i
minus_ascii x false e h i = plus_ascii x (get_or x 0 0 == 43) refl h i

signed_ascii : (x : List ℕ) → IsNumeral 10 (without_leading_sign x) → (i : ℕ) → get_or x i 0 < 128
signed_ascii x h i = minus_ascii x (get_or x 0 0 == 45) refl h.1 i

pub decimal_utf8 : (x : List ℕ) → IsSpan Decimal x → IsUtf8 x
decimal_utf8 x h = IsUtf8-from_ascii x (signed_ascii x h.0)

taken_utf8 : (piece : PieceValue) (x : List ℕ) → IsTextPiece piece → CanTake piece x → IsUtf8 x
taken_utf8 (Literal literal) x t h = subst IsUtf8 (sym h) t
taken_utf8 (FieldPiece name Plain) x t h = h.0
taken_utf8 (FieldPiece name Decimal) x t h = decimal_utf8 x h

-- after what a piece takes stands a position
cut_after : (text x rest : List ℕ) (p : ℕ) → IsUtf8 text → IsCharBoundary text p → drop p text ≡ x ++ rest → IsUtf8 x → IsCharBoundary text (p + length x)
cut_after text x rest p u b e ux =
    let prefix : take (length x) (drop p text) ≡ x = ap (take (length x)) e ∙ take-append_seam x rest in
    let size : length (drop p text) ≡ length x + length rest = ap length e ∙ length-append x rest in
    IsCharBoundary-from_rest text p (length x) b.0 (IsCharBoundary-from_take (drop p text) (length x) (IsUtf8-drop text p u b) (omega arith) (subst IsUtf8 (sym prefix) ux))

-- the column after what a piece takes
pub record Lands (text boundaries : List ℕ) (c : ℕ) (x rest : List ℕ) : Type 0 where
  pub d : ℕ
  pub within : d ≤ c
  pub known : d < length boundaries
  pub position : get_or boundaries d 0 ≡ get_or boundaries c 0 + length x
  pub is_part : part text boundaries c d ≡ x
  pub is_rest : drop (get_or boundaries d 0) text ≡ rest

pub lands : (text boundaries : List ℕ) (c : ℕ) (x rest : List ℕ) → IsUtf8 text → AreBoundaries text boundaries → c < length boundaries → drop (get_or boundaries c 0) text ≡ x ++ rest → IsUtf8 x → Lands text boundaries c x rest
lands text boundaries c x rest u h l e ux =
    let p = get_or boundaries c 0 in
    let found = h.complete (p + length x) (omega arith) (cut_after text x rest p u (h.cuts c l) e ux) in
    by found.0 found.1 found.2 where
      by : (d : ℕ) → d < length boundaries → get_or boundaries d 0 ≡ get_or boundaries c 0 + length x → Lands text boundaries c x rest
      by d k at =
          let size : get_or boundaries d 0 - get_or boundaries c 0 ≡ length x = omega arith in
          let not_more : c < d → ⊥ = λ less. let lower = h.falling c d less k in absurd (omega arith) in
          record {
            d = d;
            within = omega (arith, not_more);
            known = k;
            position = at;
            is_part = ap (λ n. take n (drop (get_or boundaries c 0) text)) size ∙ ap (take (length x)) e ∙ take-append_seam x rest;
            is_rest = ap (λ n. drop n text) at ∙ sym (drop-drop (length x) (get_or boundaries c 0) text) ∙ ap (drop (length x)) e ∙ drop-append_seam x rest;
          }

-- what stands between two columns, and after it
pub cut_at : (text boundaries : List ℕ) (c d : ℕ) → AreBoundaries text boundaries → c < length boundaries → d ≤ c → drop (get_or boundaries c 0) text ≡ part text boundaries c d ++ drop (get_or boundaries d 0) text
cut_at text boundaries c d h l within =
    let n = get_or boundaries d 0 - get_or boundaries c 0 in
    let more : d < c → get_or boundaries c 0 < get_or boundaries d 0 = λ less. h.falling d c less l in
    let up : get_or boundaries c 0 ≤ get_or boundaries d 0 = elim (eq-or-lt_of_le within) [ inl e ↦ omega (arith, ap (λ k. get_or boundaries k 0) e) | inr less ↦ omega (arith, more less) ] in
    let at : get_or boundaries c 0 + (get_or boundaries d 0 - get_or boundaries c 0) ≡ get_or boundaries d 0 = omega arith in
    sym (take-append-drop n (drop (get_or boundaries c 0) text)) ∙ ap (λ r. part text boundaries c d ++ r) (drop-drop n (get_or boundaries c 0) text ∙ ap (λ k. drop k text) at)

-- a cell after a step
no_cell : (ps : List PieceValue) (text : List ℕ) (b : Bool) (spans : List (List ℕ)) → IsCell ps text b → Matches ps text spans → b ≡ true
no_cell ps text true spans h m = refl
no_cell ps text false spans h m = absurd (h spans m)

pub true_cell : (ps : List PieceValue) (text : List ℕ) (b : Bool) → IsCell ps text b → b ≡ true → (spans : List (List ℕ)) × Matches ps text spans
true_cell ps text true h e = h
true_cell ps text false h e = let bad : ⊥ = cc in absurd bad

-- each match steps so
pub stepped : (piece : PieceValue) (ps : List PieceValue) (text boundaries : List ℕ) (row : List Bool) (c : ℕ) (x rest : List ℕ) (xs : List (List ℕ)) → IsRow ps text boundaries row → (to : Lands text boundaries c x rest) → CanTake piece x → Matches ps rest xs → IsAdvanceTo piece text boundaries row c to.d
stepped piece ps text boundaries row c x rest xs r to takes m = grind (arith, common_steps)

-- a column's cell, from the step over the piece
pub step_cell : (piece : PieceValue) (ps : List PieceValue) (text boundaries : List ℕ) (row : List Bool) (c d : ℕ) → AreBoundaries text boundaries → IsRow ps text boundaries row → c < length boundaries → IsAdvanceTo piece text boundaries row c d → (spans : List (List ℕ)) × Matches (piece ∷ ps) (drop (get_or boundaries c 0) text) spans
step_cell piece ps text boundaries row c d h r l s =
    let known : d < length boundaries = omega (arith, s.within) in
    let m = true_cell ps (drop (get_or boundaries d 0) text) (get_or row d false) (r.cells d known) s.rest in
    (with_span piece (part text boundaries c d) m.0, join piece ps (drop (get_or boundaries c 0) text) (part text boundaries c d) (drop (get_or boundaries d 0) text) m.0 s.takes (cut_at text boundaries c d h l s.within) m.1)

pub no_step_cell : (piece : PieceValue) (ps : List PieceValue) (text boundaries : List ℕ) (row : List Bool) (c : ℕ) → IsUtf8 text → IsTextPiece piece → AreBoundaries text boundaries → IsRow ps text boundaries row → c < length boundaries → ((d : ℕ) → IsAdvanceTo piece text boundaries row c d → ⊥) → MatchesNot (piece ∷ ps) (drop (get_or boundaries c 0) text)
no_step_cell piece ps text boundaries row c u t h r l none = λ spans m. by (split piece ps (drop (get_or boundaries c 0) text) spans m) where
  by : {spans : List (List ℕ)} → IsSplit piece ps (drop (get_or boundaries c 0) text) spans → ⊥
  by s = let to = lands text boundaries c s.x s.rest u h l s.whole (taken_utf8 piece s.x t s.takes) in
      none to.d (stepped piece ps text boundaries row c s.x s.rest s.xs r to s.takes s.after)

pub cell_of_step : (piece : PieceValue) (ps : List PieceValue) (text boundaries : List ℕ) (row : List Bool) (c : ℕ) (o : Option ℕ) → IsUtf8 text → IsTextPiece piece → AreBoundaries text boundaries → IsRow ps text boundaries row → c < length boundaries → IsAdvance piece text boundaries row c o → IsCell (piece ∷ ps) (drop (get_or boundaries c 0) text) (is_some o)
cell_of_step piece ps text boundaries row c None u t h r l s = no_step_cell piece ps text boundaries row c u t h r l s
cell_of_step piece ps text boundaries row c (Some d) u t h r l s = step_cell piece ps text boundaries row c d h r l s.0

-- there is a step where there is a match
pub is_step : (piece : PieceValue) (ps : List PieceValue) (text boundaries : List ℕ) (row : List Bool) (c : ℕ) (o : Option ℕ) → IsUtf8 text → IsTextPiece piece → AreBoundaries text boundaries → IsRow ps text boundaries row → c < length boundaries → IsAdvance piece text boundaries row c o → (spans : List (List ℕ)) × Matches (piece ∷ ps) (drop (get_or boundaries c 0) text) spans → is_some o ≡ true
is_step piece ps text boundaries row c None u t h r l s m = absurd (no_step_cell piece ps text boundaries row c u t h r l s m.0 m.1)
is_step piece ps text boundaries row c (Some d) u t h r l s m = refl

-- the preferred match after the preferred step is the preferred one
same_step : (piece : PieceValue) (ps : List PieceValue) (text x rest x' rest' : List ℕ) (xs xs' : List (List ℕ)) → text ≡ x ++ rest → text ≡ x' ++ rest' → length x ≡ length x' → IsBestMatch ps rest xs → Matches ps rest' xs'
    → (with_span piece x' xs' ≡ with_span piece x xs) ⊎ IsPreferred (piece ∷ ps) (with_span piece x xs) (with_span piece x' xs')
same_step (Literal literal) ps text x rest x' rest' xs xs' e e' n h m = h.best xs' (subst (λ t. Matches ps t xs') (sym (same_back x x' rest rest' (sym e ∙ e') n)) m)
same_step (FieldPiece name kind) ps text x rest x' rest' xs xs' e e' n h m = grind (arith, common_steps, same_back, same_prefix)

other_step : (piece : PieceValue) (ps : List PieceValue) (text boundaries : List ℕ) (c d e : ℕ) (x rest x' rest' : List ℕ) (xs xs' : List (List ℕ)) → AreBoundaries text boundaries → d < length boundaries → e < length boundaries
    → get_or boundaries d 0 ≡ get_or boundaries c 0 + length x → get_or boundaries e 0 ≡ get_or boundaries c 0 + length x' → drop (get_or boundaries c 0) text ≡ x ++ rest → drop (get_or boundaries c 0) text ≡ x' ++ rest' → IsBestMatch ps rest xs → Matches ps rest' xs'
    → CanTake piece x → CanTake piece x' → IsNotAfter piece d e → (with_span piece x' xs' ≡ with_span piece x xs) ⊎ IsPreferred (piece ∷ ps) (with_span piece x xs) (with_span piece x' xs')
other_step (Literal literal) ps text boundaries c d e x rest x' rest' xs xs' h kd ke pd pe cut cut' b m t t' n = same_step (Literal literal) ps (drop (get_or boundaries c 0) text) x rest x' rest' xs xs' cut cut' (ap length t ∙ sym (ap length t')) b m
other_step (FieldPiece name Plain) ps text boundaries c d e x rest x' rest' xs xs' h kd ke pd pe cut cut' b m t t' n = elim (eq-or-lt_of_le n) [
  | inl same ↦ same_step (FieldPiece name Plain) ps (drop (get_or boundaries c 0) text) x rest x' rest' xs xs' cut cut' (let at : get_or boundaries e 0 ≡ get_or boundaries d 0 = ap (λ k. get_or boundaries k 0) same in omega arith) b m
  | inr less ↦ inr (inl (let more : get_or boundaries d 0 < get_or boundaries e 0 = h.falling e d less kd in omega arith))
]
other_step (FieldPiece name Decimal) ps text boundaries c d e x rest x' rest' xs xs' h kd ke pd pe cut cut' b m t t' n = elim (eq-or-lt_of_le n) [
  | inl same ↦ same_step (FieldPiece name Decimal) ps (drop (get_or boundaries c 0) text) x rest x' rest' xs xs' cut cut' (let at : get_or boundaries d 0 ≡ get_or boundaries e 0 = ap (λ k. get_or boundaries k 0) same in omega arith) b m
  | inr less ↦ inr (inl (let more : get_or boundaries e 0 < get_or boundaries d 0 = h.falling d e less ke in omega arith))
]

pub part_size : (text boundaries : List ℕ) (c d : ℕ) → AreBoundaries text boundaries → c < length boundaries → d ≤ c → get_or boundaries d 0 ≡ get_or boundaries c 0 + length (part text boundaries c d)
part_size text boundaries c d h l within = grind (arith, common_steps)

pub best_step : (piece : PieceValue) (ps : List PieceValue) (text boundaries : List ℕ) (row : List Bool) (c d : ℕ) (xs : List (List ℕ)) → IsUtf8 text → IsTextPiece piece → AreBoundaries text boundaries → IsRow ps text boundaries row → c < length boundaries → IsAdvance piece text boundaries row c (Some d)
    → IsBestMatch ps (drop (get_or boundaries d 0) text) xs → IsBestMatch (piece ∷ ps) (drop (get_or boundaries c 0) text) (with_span piece (part text boundaries c d) xs)
best_step piece ps text boundaries row c d xs u t h r l s b = record {
  matches = join piece ps (drop (get_or boundaries c 0) text) (part text boundaries c d) (drop (get_or boundaries d 0) text) xs s.0.takes (cut_at text boundaries c d h l s.0.within) b.matches;
  best = λ others m. by others (split piece ps (drop (get_or boundaries c 0) text) others m);
} where
  by : (others : List (List ℕ)) → IsSplit piece ps (drop (get_or boundaries c 0) text) others → (others ≡ with_span piece (part text boundaries c d) xs) ⊎ IsPreferred (piece ∷ ps) (with_span piece (part text boundaries c d) xs) others
  by others o =
      let to = lands text boundaries c o.x o.rest u h l o.whole (taken_utf8 piece o.x t o.takes) in
      let not_after = s.1 to.d (stepped piece ps text boundaries row c o.x o.rest o.xs r to o.takes o.after) in
      subst (λ y. (y ≡ with_span piece (part text boundaries c d) xs) ⊎ IsPreferred (piece ∷ ps) (with_span piece (part text boundaries c d) xs) y) (sym o.spans_are)
      (other_step piece ps text boundaries c d to.d (part text boundaries c d) (drop (get_or boundaries d 0) text) o.x o.rest xs o.xs h (omega (arith, s.0.within)) to.known (part_size text boundaries c d h l s.0.within) to.position (cut_at text boundaries c d h l s.0.within) o.whole b o.after s.0.takes o.takes not_after)

-- a row with one cell more
pub no_cells : (ps : List PieceValue) (text boundaries : List ℕ) → IsRowTo 0 ps text boundaries []
no_cells ps text boundaries = record { size_is = refl; cells = λ c l. absurd (omega arith) }

pub cell_more : (size : ℕ) (ps : List PieceValue) (text boundaries : List ℕ) (row : List Bool) (b : Bool) → IsRowTo size ps text boundaries row → IsCell ps (drop (get_or boundaries size 0) text) b → IsRowTo (size + 1) ps text boundaries (row ++ b ∷ [])
cell_more size ps text boundaries row b h cell = grind (arith, common_steps)

-- the row of no pieces
at_end : (text boundaries : List ℕ) → AreBoundaries text boundaries → get_or boundaries 0 0 ≡ length text
at_end text boundaries h = grind (arith, common_steps, IsCharBoundary-end)

pub end_cell : (text boundaries : List ℕ) (c : ℕ) (b : Bool) → AreBoundaries text boundaries → c < length boundaries → (b ≡ true → c ≡ 0) → (c ≡ 0 → b ≡ true) → IsCell [] (drop (get_or boundaries c 0) text) b
end_cell text boundaries c true h l only if = ([], record { spans_fit = tt; whole = ap (λ k. drop (get_or boundaries k 0) text) (only refl) ∙ ap (λ k. drop k text) (at_end text boundaries h) ∙ drop-length text })
end_cell text boundaries c false h l only if = grind (arith, common_steps, chars-nil)

pub last_cell : (text boundaries : List ℕ) → IsUtf8 text → AreBoundaries text boundaries → get_or boundaries (length boundaries - 1) 0 ≡ 0
last_cell text boundaries u h = by (h.complete 0 (omega arith) (IsCharBoundary-start text u)) where
  by : (c : ℕ) × (c < length boundaries) × (get_or boundaries c 0 ≡ 0) → get_or boundaries (length boundaries - 1) 0 ≡ 0
  by (c, l, e) = elim (let most : c ≤ length boundaries - 1 = omega arith in eq-or-lt_of_le most) [
    | inl same ↦ ap (λ k. get_or boundaries k 0) (sym same) ∙ e
    | inr less ↦ let under = h.falling c (length boundaries - 1) less (let some = h.some in omega arith) in absurd (omega arith)
  ]

-- the width of the table
pub width_is : (text boundaries : List ℕ) → IsUtf8 text → AreBoundaries text boundaries → length boundaries ≡ length (chars text) + 1
width_is text boundaries u h =
    let some = h.some in
    let last = h.counts (length boundaries - 1) (omega arith) in
    let prefix : length (chars (drop (get_or boundaries (length boundaries - 1) 0) text)) ≡ length (chars text) = ap (λ k. length (chars (drop k text))) (last_cell text boundaries u h) in
    omega arith
