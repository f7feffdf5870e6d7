-- Runs of digits between two columns.
use Rattle.gk_steps.proofs.Common.{◌≡◌, ℕ, ◌+◌, ◌-◌, ◌*◌, ◌<◌, ◌≤◌, inl, inr, Bool, true, false, List, [], ◌∷◌, ◌++◌, length, take, drop, get_or, Option, Some, None, ap, sym, subst, ◌∙◌, arith, length-drop, common_steps, IsUtf8, digit_value, AllDigits, digits_value, eq-or-lt_of_le, get_or-take, get_or-drop, take_more, take-take, IsCharBoundary-after_ascii, nat_tests, digits_value_push, digits_value-take-le, AreBoundaries, part, IsDigitsTo, IsRunTo, IsLongestTo, IsLongest}
use Rattle.gk_steps.proofs.TableLemmas.{part_size}
use Rattle.gk_steps.proofs.AdvanceLemmas.{digits_range}

-- after a byte of ASCII stands the next column
pub next_position : (text boundaries : List ℕ) (c : ℕ) → IsUtf8 text → AreBoundaries text boundaries → c + 1 < length boundaries → get_or text (get_or boundaries (c + 1) 0) 0 < 128 → get_or boundaries c 0 ≡ get_or boundaries (c + 1) 0 + 1
next_position text boundaries c u h l low =
    let up = h.falling c (c + 1) (omega arith) l in
    let end = (h.cuts c (omega arith)).0 in
    by (h.complete (get_or boundaries (c + 1) 0 + 1) (omega arith) (IsCharBoundary-after_ascii text (get_or boundaries (c + 1) 0) u (omega arith) low)) where
      by : (e : ℕ) × (e < length boundaries) × (get_or boundaries e 0 ≡ get_or boundaries (c + 1) 0 + 1) → get_or boundaries c 0 ≡ get_or boundaries (c + 1) 0 + 1
      by (e, k, at) =
          let not_less : e < c → ⊥ = λ less. let a = h.falling e c less (omega arith) in let b = h.falling c (c + 1) (omega arith) l in absurd (omega arith) in
          let not_more : c < e → ⊥ = λ more. elim (let least : c + 1 ≤ e = omega arith in eq-or-lt_of_le least) [
            | inl same ↦ let is : get_or boundaries e 0 ≡ get_or boundaries (c + 1) 0 = ap (λ k. get_or boundaries k 0) (sym same) in absurd (omega arith)
            | inr past ↦ let a = h.falling (c + 1) e past k in absurd (omega arith)
          ] in
          let same : c ≡ e = omega (arith, not_less, not_more) in
          ap (λ k. get_or boundaries k 0) same ∙ at

-- one byte more between two columns
pub part_more : (text boundaries : List ℕ) (c d : ℕ) → AreBoundaries text boundaries → c < length boundaries → d + 1 ≤ c → get_or boundaries d 0 ≡ get_or boundaries (d + 1) 0 + 1 → part text boundaries c d ≡ part text boundaries c (d + 1) ++ get_or text (get_or boundaries (d + 1) 0) 0 ∷ []
part_more text boundaries c d h l within next =
    let p = get_or boundaries c 0 in
    let q = get_or boundaries (d + 1) 0 in
    let size = part_size text boundaries c (d + 1) h l within in
    let size_d = part_size text boundaries c d h l (omega arith) in
    let end = (h.cuts d (omega arith)).0 in
    let one : get_or boundaries d 0 - p ≡ q - p + 1 = omega arith in
    let at : p + (q - p) ≡ q = omega arith in
    ap (λ n. take n (drop p text)) one ∙ take_more (drop p text) (q - p) 0 (omega (arith, length-drop p text)) ∙ ap (λ b. take (q - p) (drop p text) ++ b ∷ []) (get_or-drop p text (q - p) 0 ∙ ap (λ k. get_or text k 0) at)

all_more : (xs : List ℕ) (b : ℕ) → AllDigits 10 xs → digit_value b < 10 → AllDigits 10 (xs ++ b ∷ [])
all_more [] b h less = (less, tt)
all_more (x ∷ xs) b h less = (h.0, all_more xs b h.1 less)

digit_is : (b : ℕ) → 48 ≤ b → b < 58 → digit_value b ≡ b - 48
digit_is b low high = grind (arith, nat_tests)

-- a part is a prefix of a longer one
prefix_of : (text boundaries : List ℕ) (c d e : ℕ) → AreBoundaries text boundaries → c < length boundaries → d ≤ e → e ≤ c → part text boundaries c e ≡ take (get_or boundaries e 0 - get_or boundaries c 0) (part text boundaries c d)
prefix_of text boundaries c d e h l down within =
    let up : get_or boundaries e 0 ≤ get_or boundaries d 0 = elim (eq-or-lt_of_le down) [ inl same ↦ omega (arith, ap (λ k. get_or boundaries k 0) same) | inr under ↦ let more = h.falling d e under (omega arith) in omega arith ] in
    sym (take-take (get_or boundaries e 0 - get_or boundaries c 0) (get_or boundaries d 0 - get_or boundaries c 0) (drop (get_or boundaries c 0) text) (omega arith))

-- nothing read yet
pub part_none : (text boundaries : List ℕ) (c : ℕ) → part text boundaries c c ≡ []
part_none text boundaries c = let none : get_or boundaries c 0 - get_or boundaries c 0 ≡ 0 = omega arith in ap (λ n. take n (drop (get_or boundaries c 0) text)) none

-- one digit more
pub one_digit : (text boundaries : List ℕ) (c d b value value' : ℕ) → AreBoundaries text boundaries → c < length boundaries → d + 1 ≤ c → get_or boundaries d 0 ≡ get_or boundaries (d + 1) 0 + 1 → b ≡ get_or text (get_or boundaries (d + 1) 0) 0 → 48 ≤ b → b < 58 → value' ≡ value * 10 + (b - 48) → AllDigits 10 (part text boundaries c (d + 1)) → value ≡ digits_value 10 (part text boundaries c (d + 1))
    → AllDigits 10 (part text boundaries c d) × (value' ≡ digits_value 10 (part text boundaries c d))
one_digit text boundaries c d b value value' h l within next is low high sum digits before = grind (arith, common_steps, part_more, digit_is, digits_value_push, all_more)

pub run_more : (most : ℕ) (text boundaries : List ℕ) (below : List Bool) (c d value value' : ℕ) → AllDigits 10 (part text boundaries c d) × (value' ≡ digits_value 10 (part text boundaries c d)) → get_or below d false ≡ false → IsRunTo (d + 1) most text boundaries below c value → IsRunTo d most text boundaries below c value'
run_more most text boundaries below c d value value' now not_here r = record {
  digits = now.0;
  value_is = now.1;
  none = λ e least s. elim (eq-or-lt_of_le least) [
    | inr more ↦ r.none e (omega arith) s
    | inl same ↦ let is_true = s.rest in let is_false : get_or below e false ≡ false = ap (λ k. get_or below k false) (sym same) ∙ not_here in let bad : ⊥ = cc in bad
  ];
}

-- digits down to a column
pub digits_here : (most : ℕ) (text boundaries : List ℕ) (below : List Bool) (c d value : ℕ) → AreBoundaries text boundaries → c < length boundaries → d + 1 ≤ c → AllDigits 10 (part text boundaries c d) × (value ≡ digits_value 10 (part text boundaries c d)) → value ≤ most → get_or below d false ≡ true → IsDigitsTo most text boundaries below c d
digits_here most text boundaries below c d value h l within now small here = grind (arith, common_steps)

pub run_found : (most : ℕ) (text boundaries : List ℕ) (below : List Bool) (c d value : ℕ) → AreBoundaries text boundaries → c < length boundaries → d + 1 ≤ c → AllDigits 10 (part text boundaries c d) × (value ≡ digits_value 10 (part text boundaries c d)) → value ≤ most → get_or below d false ≡ true → (e : ℕ) × IsDigitsTo most text boundaries below c e
run_found most text boundaries below c d value h l within now small here = (d, digits_here most text boundaries below c d value h l within now small here)

-- past a value that is too large
pub none_over : (most : ℕ) (text boundaries : List ℕ) (below : List Bool) (c d e value : ℕ) → AreBoundaries text boundaries → c < length boundaries → d + 1 ≤ c → AllDigits 10 (part text boundaries c d) × (value ≡ digits_value 10 (part text boundaries c d)) → most < value → e < d + 1 → IsDigitsTo most text boundaries below c e → ⊥
none_over most text boundaries below c d e value h l within now large small s =
    let least : digits_value 10 (part text boundaries c d) ≤ digits_value 10 (part text boundaries c e) = subst (λ x. digits_value 10 x ≤ digits_value 10 (part text boundaries c e)) (sym (prefix_of text boundaries c e d h l (omega arith) (omega arith))) (digits_value-take-le 10 (part text boundaries c e) (get_or boundaries d 0 - get_or boundaries c 0) (omega arith)) in
    absurd (omega (arith, s.value, now.1))

pub run_over : (most : ℕ) (text boundaries : List ℕ) (below : List Bool) (c d value value' : ℕ) → AreBoundaries text boundaries → c < length boundaries → d + 1 ≤ c → AllDigits 10 (part text boundaries c d) × (value' ≡ digits_value 10 (part text boundaries c d)) → most < value' → IsRunTo (d + 1) most text boundaries below c value → (e : ℕ) → IsDigitsTo most text boundaries below c e → ⊥
run_over most text boundaries below c d value value' h l within now large r = λ e s.
    let small : e < d + 1 = let not_more : d + 1 ≤ e → ⊥ = λ more. r.none e more s in omega (arith, not_more) in
    none_over most text boundaries below c d e value' h l within now large small s

-- past a byte that is no digit
pub none_past : (most : ℕ) (text boundaries : List ℕ) (below : List Bool) (c d b e : ℕ) → AreBoundaries text boundaries → c < length boundaries → d + 1 ≤ c → b ≡ get_or text (get_or boundaries (d + 1) 0) 0 → (48 ≤ b → b < 58 → ⊥) → e < d + 1 → IsDigitsTo most text boundaries below c e → ⊥
none_past most text boundaries below c d b e h l within is not_digit small s =
    let p = get_or boundaries c 0 in
    let q = get_or boundaries (d + 1) 0 in
    let up = h.falling e (d + 1) small (omega arith) in
    let size = part_size text boundaries c e h l (omega arith) in
    let size_d = part_size text boundaries c (d + 1) h l within in
    let at : get_or (part text boundaries c e) (q - p) 0 ≡ get_or text q 0 = get_or-take (get_or boundaries e 0 - p) (drop p text) (q - p) 0 (omega arith) ∙ get_or-drop p text (q - p) 0 ∙ ap (λ k. get_or text k 0) (let sum : p + (q - p) ≡ q = omega arith in sum) in
    let digit = digits_range (part text boundaries c e) s.numeral.1 (q - p) (omega arith) in
    not_digit (omega (arith, digit.0)) (omega (arith, digit.1))

pub run_past : (most : ℕ) (text boundaries : List ℕ) (below : List Bool) (c d b value : ℕ) → AreBoundaries text boundaries → c < length boundaries → d + 1 ≤ c → b ≡ get_or text (get_or boundaries (d + 1) 0) 0 → (48 ≤ b → b < 58 → ⊥) → IsRunTo (d + 1) most text boundaries below c value → (e : ℕ) → IsDigitsTo most text boundaries below c e → ⊥
run_past most text boundaries below c d b value h l within is not_digit r = λ e s.
    let small : e < d + 1 = let not_more : d + 1 ≤ e → ⊥ = λ more. r.none e more s in omega (arith, not_more) in
    none_past most text boundaries below c d b e h l within is not_digit small s

-- the longest step so far
pub longest_stays : (most : ℕ) (text boundaries : List ℕ) (below : List Bool) (c d : ℕ) (o : Option ℕ) → get_or below d false ≡ false → IsLongestTo (d + 1) most text boundaries below c o → IsLongestTo d most text boundaries below c o
longest_stays most text boundaries below c d None not_here h = grind (arith, common_steps)
longest_stays most text boundaries below c d (Some b) not_here h = (
  h.0,
  λ e least s. elim (eq-or-lt_of_le least) [
    | inr more ↦ h.1 e (omega arith) s
    | inl same ↦ let is_true = s.rest in let is_false : get_or below e false ≡ false = ap (λ k. get_or below k false) (sym same) ∙ not_here in let bad : ⊥ = cc in absurd bad
  ],
)

pub longest_here : (most : ℕ) (text boundaries : List ℕ) (below : List Bool) (c d : ℕ) → IsDigitsTo most text boundaries below c d → IsLongestTo d most text boundaries below c (Some d)
longest_here most text boundaries below c d s = (s, λ e least t. least)

-- the column before which the loop stands, and the byte after it
pub column_up : (column back : ℕ) → back < column → column - back - 1 + 1 ≡ column - back
column_up column back less = omega arith

pub byte_at : (text bytes boundaries : List ℕ) (column back : ℕ) → bytes ≡ text → back < column → get_or bytes (get_or boundaries (column - back) 0) 0 ≡ get_or text (get_or boundaries (column - back - 1 + 1) 0) 0
byte_at text bytes boundaries column back same less = ap (λ bs. get_or bs (get_or boundaries (column - back) 0) 0) same ∙ ap (λ k. get_or text (get_or boundaries k 0) 0) (sym (column_up column back less))

-- a digit that was read there
pub digit_read : (text bytes boundaries : List ℕ) (column back value value' : ℕ) → IsUtf8 text → AreBoundaries text boundaries → column < length boundaries → bytes ≡ text → back < column → 48 ≤ get_or bytes (get_or boundaries (column - back) 0) 0 → get_or bytes (get_or boundaries (column - back) 0) 0 < 58
    → value' ≡ value * 10 + (get_or bytes (get_or boundaries (column - back) 0) 0 - 48) → AllDigits 10 (part text boundaries column (column - back)) → value ≡ digits_value 10 (part text boundaries column (column - back))
    → AllDigits 10 (part text boundaries column (column - back - 1)) × (value' ≡ digits_value 10 (part text boundaries column (column - back - 1)))
digit_read text bytes boundaries column back value value' u h within same less low high more digits value_is =
    let up = column_up column back less in
    let is = byte_at text bytes boundaries column back same less in
    let next = next_position text boundaries (column - back - 1) u h (omega arith) (omega (arith, is)) in
    one_digit text boundaries column (column - back - 1) (get_or bytes (get_or boundaries (column - back) 0) 0) value value' h within (omega arith) next is low high more (subst (λ k. AllDigits 10 (part text boundaries column k)) (sym up) digits) (value_is ∙ ap (λ k. digits_value 10 (part text boundaries column k)) (sym up))

-- the longest step, where no digits lead past a column of the loop
pub longest_at : (column back most : ℕ) (text boundaries : List ℕ) (below : List Bool) (o : Option ℕ) → back < column → ((e : ℕ) → e < column - back - 1 + 1 → IsDigitsTo most text boundaries below column e → ⊥) → IsLongestTo (column - back) most text boundaries below column o → IsLongest most text boundaries below column o
longest_at column back most text boundaries below o less none best = grind (arith, common_steps)
