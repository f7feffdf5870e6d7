-- Proof machinery: numbers under keys, in buckets.
use Rattle.std.specs.Prelude.{◌≡◌, ◌%◌, ◌≤◌, ℕ, List, [], length, slice_get, Vec, Some}
use Rattle.std.specs.Option.{option_map_or}
use Rattle.std.specs.declared.alloc.Global.{Global}
use Rattle.gk_steps.specs.declared.keyed_numbers.Keyed.{Keyed}

-- The bucket of a key, which is its remainder by the number of buckets; empty if there are none.
abbrev pub bucket_of : List (Vec Keyed Global) → ℕ → List Keyed
bucket_of buckets key = option_map_or (λ (v : Vec Keyed Global). v.items) (slice_get buckets (key % length buckets)) []

-- A number is in a list of numbers with keys, under a key.
abbrev pub IsIn : List Keyed → ℕ → ℕ → Type 0
IsIn items key number = (k : ℕ) × (slice_get items k ≡ Some (record { key = key; number = number }))

-- A number is under a key.
abbrev pub IsUnder : List (Vec Keyed Global) → ℕ → ℕ → Type 0
IsUnder buckets key number = IsIn (bucket_of buckets key) key number

-- No number from `from` on under a key is less than one.
abbrev pub NoneIsLess : List (Vec Keyed Global) → ℕ → ℕ → ℕ → Type 0
NoneIsLess buckets key from least = (number : ℕ) → IsUnder buckets key number → from ≤ number → least ≤ number

-- The least number from `from` on under a key, or `most` if none is less.
pub record IsLeastUnder (buckets : List (Vec Keyed Global)) (key from most result : ℕ) : Type 0 where
  pub low : from ≤ most → from ≤ result
  pub high : result ≤ most
  pub least : NoneIsLess buckets key from result

-- A number is added under a key.
pub record PushesUnder (key number : ℕ) (old new : List (Vec Keyed Global)) : Type 0 where
  pub kept : (k n : ℕ) → IsUnder old k n → IsUnder new k n
  pub added : IsUnder new key number
  pub count : length new ≡ length old
