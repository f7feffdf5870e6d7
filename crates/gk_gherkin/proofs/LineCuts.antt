-- Where blanks end, a text may be cut.
use Rattle.gk_gherkin.proofs.Common.{◌≡◌, ℕ, zero, suc, ◌+◌, ◌<◌, ◌≤◌, true, List, length, get_or, subst, arith, common_steps, nat_tests, prefix_len_passes, prefix_len-le-length, passes_at_first, IsCharBoundary-start, IsCharBoundary-after_ascii, IsCharBoundary-before_ascii, IsUtf8, IsCharBoundary, prefix_len, position_or_len, is_blank}

pub blank_ascii : (b : ℕ) → is_blank b ≡ true → b < 128
blank_ascii b h = grind (arith, nat_tests)

pub boundary_at : (bs : List ℕ) (n : ℕ) → IsUtf8 bs → n ≤ prefix_len is_blank bs → IsCharBoundary bs n
boundary_at bs zero u le = IsCharBoundary-start bs u
boundary_at bs (suc k) u le =
    let within : k < length bs = omega (arith, prefix_len-le-length is_blank bs) in
    let at : get_or bs k 0 < 128 = blank_ascii (get_or bs k 0) (prefix_len_passes is_blank bs k 0 (omega arith)) in
    let e : k + 1 ≡ suc k = omega arith in
    subst (IsCharBoundary bs) e (IsCharBoundary-after_ascii bs k u within at)

pub before_first_blank : (bs : List ℕ) (n : ℕ) → n ≡ position_or_len is_blank bs → n < length bs → IsCharBoundary bs n
before_first_blank bs n e h = grind (arith, common_steps, blank_ascii, passes_at_first, IsCharBoundary-before_ascii)

pub after_first_blank : (bs : List ℕ) (n : ℕ) → IsUtf8 bs → n ≡ position_or_len is_blank bs → n < length bs → IsCharBoundary bs (n + 1)
after_first_blank bs n u e h = grind (arith, common_steps, blank_ascii, passes_at_first, IsCharBoundary-after_ascii)

pub after_bar : (bs : List ℕ) (n : ℕ) → IsUtf8 bs → n < length bs → get_or bs n 0 ≡ 124 → IsCharBoundary bs (n + 1)
after_bar bs n u h e = IsCharBoundary-after_ascii bs n u h (omega arith)
