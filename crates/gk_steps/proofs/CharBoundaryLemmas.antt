-- The boundaries of a text.
use Rattle.gk_steps.proofs.Common.{◌≡◌, ℕ, ◌+◌, ◌-◌, ◌<◌, ◌≤◌, ◌⊎◌, inl, inr, List, [], ◌∷◌, ◌++◌, length, take, drop, get_or, refl, ap, sym, subst, ◌∙◌, arith, append_assoc, length-append, length-drop, length-take, common_steps, IsUtf8, chars, IsCharBoundary, encodes, encode, len_utf8, eq-or-lt_of_le, drop-length, take-append-drop, get_or_append_left, get_or_push, IsUtf8-drop, IsUtf8-between, IsCharBoundary-past_char, IsCharBoundary-end, drop_past_char, chars_past_char, encode_same, length-encode, len_utf8_bounds, chars-nil, AreBoundariesFrom}

-- the first character of a text that isn't empty
record HasFirst (bs : List ℕ) : Type 0 where
  c : ℕ
  rest : List ℕ
  is : bs ≡ encode c ++ rest

first_of : (cs bs : List ℕ) → encodes cs ≡ bs → 0 < length bs → HasFirst bs
first_of [] bs e some = let n : length bs ≡ 0 = ap length (sym e) in absurd (omega arith)
first_of (c ∷ cs) bs e some = record { c = c; rest = encodes cs; is = sym e }

first_char : (bs : List ℕ) → IsUtf8 bs → 0 < length bs → HasFirst bs
first_char bs u some = first_of u.0 bs u.1.1 some

-- between two boundaries with none between them stands one character
same_end : (text rest rest' : List ℕ) (q f c c' : ℕ) → f ≤ length text → q < f → drop q text ≡ encode c ++ rest → take (f - q) (drop q text) ≡ encode c' ++ rest' → f ≤ q + len_utf8 c → f ≡ q + len_utf8 c
same_end text rest rest' q f c c' within less is is' most =
    let cut : encode c' ++ (rest' ++ drop (f - q) (drop q text)) ≡ encode c ++ rest = sym (append_assoc (encode c') rest' (drop (f - q) (drop q text))) ∙ ap (λ a. a ++ drop (f - q) (drop q text)) (sym is') ∙ take-append-drop (f - q) (drop q text) ∙ is in
    let same = encode_same c' c (rest' ++ drop (f - q) (drop q text)) rest cut in
    let size : length (take (f - q) (drop q text)) ≡ length (encode c') + length rest' = ap length is' ∙ length-append (encode c') rest' in
    let most_prefix : length (take (f - q) (drop q text)) ≤ f - q = omega (arith, length-take (f - q) (drop q text)) in
    let chars_prefix : length (encode c') ≡ len_utf8 c = length-encode c' ∙ ap len_utf8 same.0 in
    omega arith

step_past : (text rest : List ℕ) (q f c : ℕ) → IsUtf8 (drop q text) → drop q text ≡ encode c ++ rest → f ≡ q + len_utf8 c → length (chars (drop q text)) ≡ length (chars (drop f text)) + 1
step_past text rest q f c u is at = grind (arith, common_steps, drop_past_char, chars_past_char)

not_empty : (text : List ℕ) (q f : ℕ) → f ≤ length text → q < f → 0 < length (drop q text)
not_empty text q f within less = omega (arith, length-drop q text)

some_taken : (text : List ℕ) (q f : ℕ) → f ≤ length text → q < f → 0 < length (take (f - q) (drop q text))
some_taken text q f within less = omega (arith, length-drop q text, length-take (f - q) (drop q text))

pub one_char : (text : List ℕ) (q f : ℕ) → IsUtf8 text → IsCharBoundary text q → IsCharBoundary text f → q < f → ((p : ℕ) → q < p → IsCharBoundary text p → f ≤ p) → length (chars (drop q text)) ≡ length (chars (drop f text)) + 1
one_char text q f u bq bf less none =
    by (first_char (drop q text) (IsUtf8-drop text q u bq) (not_empty text q f bf.0 less)) (first_char (take (f - q) (drop q text)) (IsUtf8-between text q f u (omega arith) bq bf) (some_taken text q f bf.0 less))
  where
    by : HasFirst (drop q text) → HasFirst (take (f - q) (drop q text)) → length (chars (drop q text)) ≡ length (chars (drop f text)) + 1
    by a b =
        let next : IsCharBoundary text (q + len_utf8 a.c) = IsCharBoundary-past_char text a.rest q a.c (omega (arith, bq.0)) (IsUtf8-drop text q u bq) a.is in
        let some : 1 ≤ len_utf8 a.c = (len_utf8_bounds a.c).0 in
        let most : f ≤ q + len_utf8 a.c = none (q + len_utf8 a.c) (omega arith) next in
        step_past text a.rest q f a.c (IsUtf8-drop text q u bq) a.is (same_end text a.rest b.rest q f a.c b.c bf.0 less a.is b.is most)

-- a list of boundaries before and after one more
last_position : (low : ℕ) (text boundaries : List ℕ) → AreBoundariesFrom low text boundaries → (p : ℕ) → low ≤ p → IsCharBoundary text p → get_or boundaries (length boundaries - 1) 0 ≤ p
last_position low text boundaries h p least b = grind (arith, common_steps)

pub skipped : (low : ℕ) (text boundaries : List ℕ) (q : ℕ) → low ≡ q + 1 → AreBoundariesFrom low text boundaries → (IsCharBoundary text q → ⊥) → AreBoundariesFrom q text boundaries
skipped low text boundaries q e h not_here = grind (arith, common_steps)

below : (boundaries : List ℕ) (q c : ℕ) → c < length boundaries → get_or (boundaries ++ q ∷ []) c 0 ≡ get_or boundaries c 0
below boundaries q c l = get_or_append_left boundaries (q ∷ []) 0 c l

newest : (boundaries : List ℕ) (q c : ℕ) → length boundaries ≡ c → get_or (boundaries ++ q ∷ []) c 0 ≡ q
newest boundaries q c e = get_or_push boundaries q 0 c e

old_or_new : (boundaries : List ℕ) (q c : ℕ) → c < length (boundaries ++ q ∷ []) → (length boundaries ≡ c) ⊎ (c < length boundaries)
old_or_new boundaries q c l = grind (arith, common_steps)

pub pushed : (low : ℕ) (text boundaries : List ℕ) (q : ℕ) → IsUtf8 text → low ≡ q + 1 → AreBoundariesFrom low text boundaries → IsCharBoundary text q → AreBoundariesFrom q text (boundaries ++ q ∷ [])
pushed low text boundaries q u e h b = record {
  some = let size : length (boundaries ++ q ∷ []) ≡ length boundaries + 1 = length-append boundaries (q ∷ []) in omega arith;
  cuts = λ c l. elim (old_or_new boundaries q c l) [ inl same ↦ subst (IsCharBoundary text) (sym (newest boundaries q c same)) b | inr old ↦ subst (IsCharBoundary text) (sym (below boundaries q c old)) (h.cuts c old) ];
  above = λ c l. elim (old_or_new boundaries q c l) [ inl same ↦ omega (arith, newest boundaries q c same) | inr old ↦ let a = h.above c old in omega (arith, below boundaries q c old) ];
  falling = λ c d less l. elim (old_or_new boundaries q d l) [
    | inl same ↦ let old : c < length boundaries = omega arith in let a = h.above c old in omega (arith, newest boundaries q d same, below boundaries q c old)
    | inr old ↦ let a = h.falling c d less old in omega (arith, below boundaries q d old, below boundaries q c (omega arith))
  ];
  complete = λ p least at. complete p least at;
  counts = λ c l. elim (old_or_new boundaries q c l) [
    | inr old ↦ ap (λ k. length (chars (drop k text))) (below boundaries q c old) ∙ h.counts c old
    | inl same ↦
        let some = h.some in
        let last : length boundaries - 1 < length boundaries = omega arith in
        let a = h.above (length boundaries - 1) last in
        let one = one_char text q (get_or boundaries (length boundaries - 1) 0) u b (h.cuts (length boundaries - 1) last) (omega arith) (λ p more at. last_position low text boundaries h p (omega arith) at) in
        let before = h.counts (length boundaries - 1) last in
        ap (λ k. length (chars (drop k text))) (newest boundaries q c same) ∙ omega arith
  ];
} where
  complete : (p : ℕ) → q ≤ p → IsCharBoundary text p → (c : ℕ) × (c < length (boundaries ++ q ∷ [])) × (get_or (boundaries ++ q ∷ []) c 0 ≡ p)
  complete p least at = elim (eq-or-lt_of_le least) [
    | inl same ↦ (length boundaries, omega (arith, length-append boundaries (q ∷ [])), newest boundaries q (length boundaries) refl ∙ same)
    | inr more ↦ let old = h.complete p (omega arith) at in (old.0, omega (arith, length-append boundaries (q ∷ []), old.1), below boundaries q old.0 old.1 ∙ old.2)
  ]

-- the end alone
pub end_only : (text : List ℕ) → AreBoundariesFrom (length text) text (length text ∷ [])
end_only text = grind (arith, common_steps, IsCharBoundary-end, drop-length, chars-nil)
