-- Texts that spell numbers, as a property and as a test.
use Rattle.gk_steps.proofs.Common.{◌&&◌, nat_lt, FitsSigned, is_some, IsSome, Option, Some, None, Result, Ok, Err, if◌then◌else◌, is_digit, w64, list_all, result_ok, IsNumeral, AllDigits, ParsesSigned, without_leading_sign, signed_digits_value, ◌≡◌, ◌<◌, ℕ, ℤ, pos, negsuc, Bool, true, false, List, [], ◌∷◌, length, refl, sym, ap, ◌∙◌, arith, common_steps, nat_tests, is_i64, is_numeral, IsNumber, is_number, number_of}

-- tests
pub and_left : (a b : Bool) → (a && b) ≡ true → a ≡ true
and_left true b e = refl
and_left false b e = let bad : ⊥ = cc in absurd bad

pub and_right : (a b : Bool) → (a && b) ≡ true → b ≡ true
and_right true b e = e
and_right false b e = let bad : ⊥ = cc in absurd bad

pub both : (a b : Bool) → a ≡ true → b ≡ true → (a && b) ≡ true
both true b e f = f
both false b e f = let bad : ⊥ = cc in absurd bad

pub less_so : (a b : ℕ) → nat_lt a b ≡ true → a < b
less_so a b e = grind (arith, nat_tests)

pub less_test : (a b : ℕ) → a < b → nat_lt a b ≡ true
less_test a b e = grind (arith, nat_tests)

digits_so : (ds : List ℕ) → list_all (λ c. is_digit c 10) ds ≡ true → AllDigits 10 ds
digits_so [] e = tt
digits_so (c ∷ cs) e = (less_so _ 10 (and_left (is_digit c 10) (list_all (λ d. is_digit d 10) cs) e), digits_so cs (and_right (is_digit c 10) (list_all (λ d. is_digit d 10) cs) e))

digits_test : (ds : List ℕ) → AllDigits 10 ds → list_all (λ c. is_digit c 10) ds ≡ true
digits_test [] h = refl
digits_test (c ∷ cs) h = both (is_digit c 10) (list_all (λ d. is_digit d 10) cs) (less_test _ 10 h.0) (digits_test cs h.1)

numeral_so : (ds : List ℕ) → is_numeral ds ≡ true → IsNumeral 10 ds
numeral_so ds e = (less_so 0 (length ds) (and_left (nat_lt 0 (length ds)) (list_all (λ c. is_digit c 10) ds) e), digits_so ds (and_right (nat_lt 0 (length ds)) (list_all (λ c. is_digit c 10) ds) e))

numeral_test : (ds : List ℕ) → IsNumeral 10 ds → is_numeral ds ≡ true
numeral_test ds h = both (nat_lt 0 (length ds)) (list_all (λ c. is_digit c 10) ds) (less_test 0 (length ds) h.0) (digits_test ds h.1)

fits_so : (z : ℤ) → is_i64 z ≡ true → FitsSigned w64 z
fits_so (pos n) e = grind (arith, common_steps)
fits_so (negsuc n) e = grind (arith, common_steps)

fits_test : (z : ℤ) → FitsSigned w64 z → is_i64 z ≡ true
fits_test (pos n) h = grind (arith, common_steps)
fits_test (negsuc n) h = grind (arith, common_steps)

pub number_so : (x : List ℕ) → is_number x ≡ true → IsNumber x
number_so x e = grind (arith, common_steps, numeral_so, and_left, fits_so, and_right)

pub number_test : (x : List ℕ) → IsNumber x → is_number x ≡ true
number_test x h = both (is_numeral (without_leading_sign x)) (is_i64 (signed_digits_value 10 x)) (numeral_test (without_leading_sign x) h.0) (fits_test (signed_digits_value 10 x) h.1)

-- the number of a text that spells one, and of one that spells none
pub number_some : (x : List ℕ) → IsNumber x → number_of x ≡ Some (signed_digits_value 10 x)
number_some x h = ap (λ b. if b then Some (signed_digits_value 10 x) else None) (number_test x h)

number_none : (x : List ℕ) (b : Bool) → is_number x ≡ b → (IsNumber x → ⊥) → (if b then Some (signed_digits_value 10 x) else None) ≡ None
number_none x true e never = absurd (never (number_so x e))
number_none x false e never = refl

pub some_number : (o : Option ℤ) (x : List ℕ) → o ≡ Some (signed_digits_value 10 x) → IsSome o
some_number (Some n) x e = refl
some_number None x e = let bad : ⊥ = cc in absurd bad

some_is : (x : List ℕ) (b : Bool) → is_number x ≡ b → is_some (if b then Some (signed_digits_value 10 x) else None) ≡ true → IsNumber x
some_is x true e some = number_so x e
some_is x false e some = let bad : ⊥ = cc in absurd bad

pub is_number_some : (x : List ℕ) → is_some (number_of x) ≡ true → IsNumber x
is_number_some x some = some_is x (is_number x) refl some

pub is_number_none : (x : List ℕ) → is_some (number_of x) ≡ false → IsNumber x → ⊥
is_number_none x none h = let some : is_some (number_of x) ≡ true = ap is_some (number_some x h) in let bad : ⊥ = cc in bad

-- what `parse` reads
pub number_parsed : {E : Type 0} (x : List ℕ) (r : Result ℤ E) → ParsesSigned w64 10 x r → result_ok r ≡ number_of x
number_parsed x (Ok n) h = ap (λ m. Some m) h.1 ∙ sym (number_some x h.0)
number_parsed x (Err e) h = sym (number_none x (is_number x) refl h)
