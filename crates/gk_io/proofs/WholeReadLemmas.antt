-- What a reader has left after the bytes that it gave.
use Rattle.gk_io.proofs.Common.{◌≡◌, ◌≤◌, ℕ, ◌+◌, ◌++◌, List, length, take, Option, Some, None, arith, length-append, common_steps, Consumes, Consumes-trans, length-take, StopsAfter, GivesAtMost}

pub stops_after : (n : ℕ) (a b : Option (List ℕ)) (bytes : List ℕ) → Consumes a b bytes → length bytes ≡ n → StopsAfter n a b
stops_after n None b bytes taken size = tt
stops_after n (Some x) None bytes taken size = absurd taken
stops_after n (Some x) (Some y) bytes taken size = grind (arith, common_steps)

-- what was given, and the piece that was given last
pub given_within : (limit : ℕ) (a b c : Option (List ℕ)) (bytes piece : List ℕ) (n room : ℕ) → Consumes a b bytes → Consumes b c (take n piece) → n ≤ room → length bytes + room ≤ limit → GivesAtMost limit a c
given_within limit a b c bytes piece n room before here most fits =
    (bytes ++ take n piece, (let e = length-append bytes (take n piece) in let t = length-take n piece in omega arith), Consumes-trans a b c bytes (take n piece) before here)
