-- Numbers in decimal digits, in the range of an `i64`.
use Rattle.std.specs.Prelude.{◌&&◌, nat_le, nat_lt, ℕ, ℤ, pos, negsuc, Bool, List, length, FitsSigned, Option, Some, None, if◌then◌else◌}
use Rattle.std.specs.List.{list_all}
use Rattle.std.specs.Char.{is_digit}
use Rattle.std.specs.Int.{w64}
use Rattle.std.specs.Str.Parse.{IsNumeral, without_leading_sign, signed_digits_value}

-- The largest number that an `i64` holds. The least is negative and one further from zero.
abbrev pub largest_i64 : ℕ
largest_i64 = 9223372036854775807

-- Whether an `i64` holds a number.
abbrev pub is_i64 : ℤ → Bool
is_i64 (pos n) = nat_le n largest_i64
is_i64 (negsuc n) = nat_le n largest_i64

-- A numeral: one or more ASCII digits, and no other character.
abbrev pub is_numeral : List ℕ → Bool
is_numeral digits = nat_lt 0 (length digits) && list_all (λ c. is_digit c 10) digits

-- A text that spells a number: an optional `+` or `-` and a numeral, with a value that an `i64` holds.
abbrev pub IsNumber : List ℕ → Type 0
IsNumber text = IsNumeral 10 (without_leading_sign text) × FitsSigned w64 (signed_digits_value 10 text)

-- The test for `IsNumber`.
abbrev pub is_number : List ℕ → Bool
is_number text = is_numeral (without_leading_sign text) && is_i64 (signed_digits_value 10 text)

-- The number that a text spells; none if it spells none.
abbrev pub number_of : List ℕ → Option ℤ
number_of text = if is_number text then Some (signed_digits_value 10 text) else None
