-- What stands between the word of a hook's heading and the colon at its end.
use Rattle.gk_gherkin.proofs.Common.{◌≡◌, ℕ, ◌-◌, ◌<◌, Bool, true, false, not, ◌&&◌, nat_eq, List, [], ◌∷◌, length, take, drop, get_or, slice_index, refl, arith, length-drop, common_steps, get_or-drop, nat_tests, ends_with, before_last, is_blank, trim_front, begins, is_colon, tag_alone, tag_between}

no_colon : (b : ℕ) → b ≡ 58 → not (is_colon b) ≡ false
no_colon b e = grind (arith, nat_tests)

-- Where the last byte is a colon, what stands before the last colon is all but that byte.
pub but_last : (text : List ℕ) → 0 < length text → get_or text (length text - 1) 0 ≡ 58 → before_last is_colon text ≡ take (length text - 1) text
but_last text some at = grind (arith, common_steps)

both : (a b : Bool) → (a && b) ≡ true → (a ≡ true) × (b ≡ true)
both true true h = (refl, refl)
both true false h = (refl, h)
both false b h = let no : ⊥ = cc in absurd no

all_three : (a b c : Bool) → a ≡ true → b ≡ true → c ≡ true → (a && (b && c)) ≡ true
all_three true true true e f g = refl
all_three true true false e f g = g
all_three true false c e f g = f
all_three false b c e f g = e

-- What stands after some bytes of a text that ends in a colon, and before that colon.
pub cut_between : (text part : List ℕ) (n : ℕ) → is_blank (get_or text n 0) ≡ true → ends_with nat_eq text (58 ∷ []) ≡ true → part ≡ take (length text - 1 - n) (drop n text) → part ≡ before_last is_colon (drop n text)
cut_between text part n blank ends cut = grind (arith, common_steps, length-drop, get_or-drop, but_last)

pub between : (word text part : List ℕ) → (begins text word && is_blank (slice_index text (length word))) ≡ true → ends_with nat_eq text (58 ∷ []) ≡ true → part ≡ take (length text - 1 - length word) (drop (length word) text) → tag_alone (trim_front part) ≡ tag_between word text
between word text part begun ends cut = grind (arith, common_steps, both, slice_index, cut_between, nat_eq, all_three)
