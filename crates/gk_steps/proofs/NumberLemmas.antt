-- Numbers from their digits: a zero or a sign in prefix.
use Rattle.gk_steps.proofs.Common.{◌≡◌, ℕ, zero, suc, cond, ◌==◌, ◌+◌, ◌-◌, ◌<◌, ◌≤◌, inl, inr, Bool, true, false, List, [], ◌∷◌, length, take, drop, get_or, Option, Some, None, ap, sym, subst, ◌∙◌, arith, common_steps, IsUtf8, AllDigits, IsNumeral, digits_value, eq-or-lt_of_le, eqb_tells, drop_more, Decimal, FieldPiece, IsSpan, AreBoundaries, part, IsAdvanceTo, IsAdvance, IsDigitsTo, HasDigits, IsLongest, HasNumber}
use Rattle.gk_steps.proofs.TableLemmas.{part_size}
use Rattle.gk_steps.proofs.AdvanceLemmas.{before, decimal_some}
use Rattle.gk_steps.proofs.DigitLemmas.{part_none, next_position}

-- a part from its first byte
pub part_prefix : (text boundaries : List ℕ) (c d : ℕ) → AreBoundaries text boundaries → c + 1 < length boundaries → d ≤ c → get_or boundaries c 0 ≡ get_or boundaries (c + 1) 0 + 1 → part text boundaries (c + 1) d ≡ get_or text (get_or boundaries (c + 1) 0) 0 ∷ part text boundaries c d
part_prefix text boundaries c d h l within next =
    let q = get_or boundaries (c + 1) 0 in
    let size = part_size text boundaries c d h (omega arith) within in
    let end = (h.cuts c (omega arith)).0 in
    let count : get_or boundaries d 0 - q ≡ suc (get_or boundaries d 0 - get_or boundaries c 0) = omega arith in
    let whole : drop q text ≡ get_or text q 0 ∷ drop (q + 1) text = drop_more text q 0 (omega arith) in
    ap (λ n. take n (drop q text)) count ∙ ap (take (suc (get_or boundaries d 0 - get_or boundaries c 0))) whole ∙ ap (λ k. get_or text q 0 ∷ take (get_or boundaries d 0 - get_or boundaries c 0) (drop k text)) (sym next)

-- digits take something
digits_before : (most : ℕ) (text boundaries : List ℕ) (below : List Bool) (c d : ℕ) → IsDigitsTo most text boundaries below c d → d < c
digits_before most text boundaries below c d s = grind (arith, common_steps)

-- a leading zero
pub zero_below : (most : ℕ) (text boundaries : List ℕ) (below : List Bool) (c : ℕ) → AreBoundaries text boundaries → c + 1 < length boundaries → get_or boundaries c 0 ≡ get_or boundaries (c + 1) 0 + 1 → get_or text (get_or boundaries (c + 1) 0) 0 ≡ 48 → get_or below c false ≡ true → (d : ℕ) × IsDigitsTo most text boundaries below (c + 1) d
zero_below most text boundaries below c h l next is here = grind (arith, common_steps, part_prefix, part_none)

pub zero_after : (most : ℕ) (text boundaries : List ℕ) (below : List Bool) (c d : ℕ) → AreBoundaries text boundaries → c + 1 < length boundaries → get_or boundaries c 0 ≡ get_or boundaries (c + 1) 0 + 1 → get_or text (get_or boundaries (c + 1) 0) 0 ≡ 48 → IsDigitsTo most text boundaries below c d → IsDigitsTo most text boundaries below (c + 1) d
zero_after most text boundaries below c d h l next is s =
    let more : part text boundaries (c + 1) d ≡ 48 ∷ part text boundaries c d = part_prefix text boundaries c d h l s.within next ∙ ap (λ b. b ∷ part text boundaries c d) is in
    record {
      within = let w = s.within in omega arith;
      rest = s.rest;
      numeral = subst (IsNumeral 10) (sym more) (omega arith, (omega arith, s.numeral.1));
      value = let same : digits_value 10 (part text boundaries (c + 1) d) ≡ digits_value 10 (part text boundaries c d) = ap (digits_value 10) more in omega (arith, s.value);
    }

pub zero_only : (most : ℕ) (text boundaries : List ℕ) (below : List Bool) (c d : ℕ) → AreBoundaries text boundaries → c + 1 < length boundaries → get_or boundaries c 0 ≡ get_or boundaries (c + 1) 0 + 1 → get_or text (get_or boundaries (c + 1) 0) 0 ≡ 48 → get_or below c false ≡ false → ((e : ℕ) → IsDigitsTo most text boundaries below c e → ⊥) → IsDigitsTo most text boundaries below (c + 1) d → ⊥
zero_only most text boundaries below c d h l next is not_here none s =
    let less = digits_before most text boundaries below (c + 1) d s in
    elim (let most : d ≤ c = omega arith in eq-or-lt_of_le most) [
      | inl same ↦ let is_true = s.rest in let is_false : get_or below d false ≡ false = ap (λ k. get_or below k false) same ∙ not_here in let bad : ⊥ = cc in bad
      | inr under ↦
          let more : part text boundaries (c + 1) d ≡ 48 ∷ part text boundaries c d = part_prefix text boundaries c d h l (omega arith) next ∙ ap (λ b. b ∷ part text boundaries c d) is in
          let size = part_size text boundaries c d h (omega arith) (omega arith) in
          let up = h.falling d c under (omega arith) in
          let all : AllDigits 10 (48 ∷ part text boundaries c d) = subst (AllDigits 10) more s.numeral.1 in
          let same : digits_value 10 (part text boundaries (c + 1) d) ≡ digits_value 10 (part text boundaries c d) = ap (digits_value 10) more in
          none d (record { within = omega arith; rest = s.rest; numeral = (omega arith, all.1); value = omega (arith, s.value) })
    ]

-- a sign in prefix

-- no sign in prefix
abbrev bare : Bool → Bool → List ℕ → List ℕ
bare minus plus x = cond minus (drop 1 x) (drop (cond plus 1 0) x)

bare_digits : (x : List ℕ) → (get_or x 0 0 == 45) ≡ false → (get_or x 0 0 == 43) ≡ false → IsSpan Decimal x → IsNumeral 10 x × (digits_value 10 x ≤ 9223372036854775807)
bare_digits x m p h = grind (arith, common_steps)

-- what the code knows at a column, from the column after
pub zero_rest : (most : ℕ) (text boundaries : List ℕ) (below : List Bool) (c : ℕ) (b : Bool) → AreBoundaries text boundaries → c + 1 < length boundaries → get_or boundaries c 0 ≡ get_or boundaries (c + 1) 0 + 1 → get_or text (get_or boundaries (c + 1) 0) 0 ≡ 48 → get_or below c false ≡ false → HasDigits most text boundaries below c b → HasDigits most text boundaries below (c + 1) b
zero_rest most text boundaries below c true h l next is not_here has = (has.0, zero_after most text boundaries below c has.0 h l next is has.1)
zero_rest most text boundaries below c false h l next is not_here has = λ d s. zero_only most text boundaries below c d h l next is not_here has s

signed_part : (text boundaries : List ℕ) (below : List Bool) (c d sign : ℕ) → AreBoundaries text boundaries → c + 1 < length boundaries → get_or boundaries c 0 ≡ get_or boundaries (c + 1) 0 + 1 → get_or text (get_or boundaries (c + 1) 0) 0 ≡ sign → d ≤ c → part text boundaries (c + 1) d ≡ sign ∷ part text boundaries c d
signed_part text boundaries below c d sign h l next is within = part_prefix text boundaries c d h l within next ∙ ap (λ b. b ∷ part text boundaries c d) is

-- the longest step over a number, from the longest one over its digits
longest_step : (most : ℕ) (text boundaries : List ℕ) (below : List Bool) (c c' : ℕ) (o : Option ℕ) → ((d : ℕ) → IsDigitsTo most text boundaries below c d → IsAdvanceTo (FieldPiece [] Decimal) text boundaries below c' d) → ((d : ℕ) → IsAdvanceTo (FieldPiece [] Decimal) text boundaries below c' d → IsDigitsTo most text boundaries below c d) → IsLongest most text boundaries below c o → IsAdvance (FieldPiece [] Decimal) text boundaries below c' o
longest_step most text boundaries below c c' None to from best = λ d s. best d (omega arith) (from d s)
longest_step most text boundaries below c c' (Some b) to from best = (to b best.0, λ d s. best.1 d (omega arith) (from d s))

-- a sign before digits, with the largest value of these
pub record IsSign (sign : ℕ) (most : ℕ) : Type 0 where
  pub low : sign < 128
  pub digits : (x : List ℕ) → IsSpan Decimal (sign ∷ x) → IsNumeral 10 x × (digits_value 10 x ≤ most)
  pub span : (x : List ℕ) → IsNumeral 10 x → digits_value 10 x ≤ most → IsSpan Decimal (sign ∷ x)

pub is_plus : IsSign 43 9223372036854775807
is_plus = grind (arith, common_steps)

pub is_minus : IsSign 45 9223372036854775808
is_minus = grind (arith, common_steps)

-- a sign at the column after one
pub record IsSignAt (sign : ℕ) (text : List ℕ) (boundaries : List ℕ) (c : ℕ) : Type 0 where
  pub known : c + 1 < length boundaries
  pub next : get_or boundaries c 0 ≡ get_or boundaries (c + 1) 0 + 1
  pub is : get_or text (get_or boundaries (c + 1) 0) 0 ≡ sign

signed_to : (sign most : ℕ) (text boundaries : List ℕ) (below : List Bool) (c d : ℕ) → IsSign sign most → AreBoundaries text boundaries → IsSignAt sign text boundaries c → IsDigitsTo most text boundaries below c d → IsAdvanceTo (FieldPiece [] Decimal) text boundaries below (c + 1) d
signed_to sign most text boundaries below c d k h a s = grind (arith, common_steps, signed_part)

signed_from : (sign most : ℕ) (text boundaries : List ℕ) (below : List Bool) (c d : ℕ) → IsSign sign most → AreBoundaries text boundaries → IsSignAt sign text boundaries c → IsAdvanceTo (FieldPiece [] Decimal) text boundaries below (c + 1) d → IsDigitsTo most text boundaries below c d
signed_from sign most text boundaries below c d k h a s =
    let less = before (FieldPiece [] Decimal) text boundaries below (c + 1) d h a.known s (decimal_some (part text boundaries (c + 1) d) s.takes) in
    let digits = k.digits (part text boundaries c d) (subst (IsSpan Decimal) (signed_part text boundaries below c d sign h a.known a.next a.is (omega arith)) s.takes) in
    record { within = omega arith; rest = s.rest; numeral = digits.0; value = digits.1 }

signed_at : (sign most : ℕ) (text boundaries : List ℕ) (below : List Bool) (c : ℕ) (b : Bool) → IsSign sign most → AreBoundaries text boundaries → IsSignAt sign text boundaries c → HasDigits most text boundaries below c b → HasNumber text boundaries below (c + 1) b
signed_at sign most text boundaries below c true k h a has = (has.0, signed_to sign most text boundaries below c has.0 k h a has.1)
signed_at sign most text boundaries below c false k h a has = λ d s. has d (signed_from sign most text boundaries below c d k h a s)

sign_at : (sign most : ℕ) (text boundaries : List ℕ) (c : ℕ) → IsSign sign most → IsUtf8 text → AreBoundaries text boundaries → c + 1 < length boundaries → get_or text (get_or boundaries (c + 1) 0) 0 ≡ sign → IsSignAt sign text boundaries c
sign_at sign most text boundaries c k u h l is = record { known = l; next = next_position text boundaries c u h l (subst (λ b. b < 128) (sym is) k.low); is = is }

-- the digits are looked at from the column before
pub number_signed : (sign most : ℕ) (text boundaries : List ℕ) (below : List Bool) (c : ℕ) (b : Bool) → IsSign sign most → IsUtf8 text → AreBoundaries text boundaries → 0 < c → c < length boundaries → get_or text (get_or boundaries c 0) 0 ≡ sign → HasDigits most text boundaries below (c - 1) b → HasNumber text boundaries below c b
number_signed sign most text boundaries below zero b k u h some l is has = absurd (omega arith)
number_signed sign most text boundaries below (suc c) b k u h some l is has =
    let up : c + 1 ≡ suc c = omega arith in
    let here : suc c - 1 ≡ c = omega arith in
    let at = sign_at sign most text boundaries c k u h (omega arith) (ap (λ n. get_or text (get_or boundaries n 0) 0) up ∙ is) in
    subst (λ n. HasNumber text boundaries below n b) up (signed_at sign most text boundaries below c b k h at (subst (λ n. HasDigits most text boundaries below n b) here has))

pub step_signed : (sign most : ℕ) (text boundaries : List ℕ) (below : List Bool) (c : ℕ) (o : Option ℕ) → IsSign sign most → IsUtf8 text → AreBoundaries text boundaries → 0 < c → c < length boundaries → get_or text (get_or boundaries c 0) 0 ≡ sign → IsLongest most text boundaries below (c - 1) o → IsAdvance (FieldPiece [] Decimal) text boundaries below c o
step_signed sign most text boundaries below zero o k u h some l is best = absurd (omega arith)
step_signed sign most text boundaries below (suc c) o k u h some l is best =
    let up : c + 1 ≡ suc c = omega arith in
    let here : suc c - 1 ≡ c = omega arith in
    let at = sign_at sign most text boundaries c k u h (omega arith) (ap (λ n. get_or text (get_or boundaries n 0) 0) up ∙ is) in
    let from : IsLongest most text boundaries below c o = subst (λ n. IsLongest most text boundaries below n o) here best in
    subst (λ n. IsAdvance (FieldPiece [] Decimal) text boundaries below n o) up
    (longest_step most text boundaries below c (c + 1) o (λ d s. signed_to sign most text boundaries below c d k h at s) (λ d s. signed_from sign most text boundaries below c d k h at s) from)

first_byte : (text boundaries : List ℕ) (c d : ℕ) → AreBoundaries text boundaries → c < length boundaries → d < c → get_or (part text boundaries c d) 0 0 ≡ get_or text (get_or boundaries c 0) 0
first_byte text boundaries c d h l less = grind (arith, common_steps)

bare_to : (text boundaries : List ℕ) (below : List Bool) (c d : ℕ) → AreBoundaries text boundaries → c < length boundaries → (get_or text (get_or boundaries c 0) 0 == 45) ≡ false → (get_or text (get_or boundaries c 0) 0 == 43) ≡ false → IsDigitsTo 9223372036854775807 text boundaries below c d → IsAdvanceTo (FieldPiece [] Decimal) text boundaries below c d
bare_to text boundaries below c d h l m p s = grind (arith, common_steps)

bare_from : (text boundaries : List ℕ) (below : List Bool) (c d : ℕ) → AreBoundaries text boundaries → c < length boundaries → (get_or text (get_or boundaries c 0) 0 == 45) ≡ false → (get_or text (get_or boundaries c 0) 0 == 43) ≡ false → IsAdvanceTo (FieldPiece [] Decimal) text boundaries below c d → IsDigitsTo 9223372036854775807 text boundaries below c d
bare_from text boundaries below c d h l m p s =
    let less = before (FieldPiece [] Decimal) text boundaries below c d h l s (decimal_some (part text boundaries c d) s.takes) in
    let first = first_byte text boundaries c d h l less in
    let digits = bare_digits (part text boundaries c d) (ap (λ k. k == 45) first ∙ m) (ap (λ k. k == 43) first ∙ p) s.takes in
    record { within = s.within; rest = s.rest; numeral = digits.0; value = digits.1 }

pub bare_at : (text boundaries : List ℕ) (below : List Bool) (c : ℕ) (b : Bool) → AreBoundaries text boundaries → c < length boundaries → (get_or text (get_or boundaries c 0) 0 == 45) ≡ false → (get_or text (get_or boundaries c 0) 0 == 43) ≡ false → HasDigits 9223372036854775807 text boundaries below c b → HasNumber text boundaries below c b
bare_at text boundaries below c true h l m p has = (has.0, bare_to text boundaries below c has.0 h l m p has.1)
bare_at text boundaries below c false h l m p has = λ d s. has d (bare_from text boundaries below c d h l m p s)

pub bare_longest : (text boundaries : List ℕ) (below : List Bool) (c : ℕ) (o : Option ℕ) → AreBoundaries text boundaries → c < length boundaries → (get_or text (get_or boundaries c 0) 0 == 45) ≡ false → (get_or text (get_or boundaries c 0) 0 == 43) ≡ false → IsLongest 9223372036854775807 text boundaries below c o → IsAdvance (FieldPiece [] Decimal) text boundaries below c o
bare_longest text boundaries below c o h l m p best = longest_step 9223372036854775807 text boundaries below c c o (λ d s. bare_to text boundaries below c d h l m p s) (λ d s. bare_from text boundaries below c d h l m p s) best

pub not_byte : (a b : ℕ) → (a ≡ b → ⊥) → (a == b) ≡ false
not_byte a b differ = elim (eqb_tells a b) [ inl t ↦ absurd (differ t.1) | inr f ↦ f.0 ]
