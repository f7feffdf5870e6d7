-- The order of a feature's cases by rule.
use Rattle.std.specs.Prelude.{ℕ, suc, List, [], ◌∷◌, Option, Some, None, ◌≤◌}

-- The rank of a case by its rule. A case without a rule comes before those of the first rule.
abbrev pub rank : Option ℕ → ℕ
rank None = 0
rank (Some index) = suc index

-- The ranks of the rules of cases are non-decreasing, at least `least` and at most `count`.
abbrev pub FallFrom : ℕ → ℕ → List (Option ℕ) → Type 0
FallFrom count least [] = Unit {0}
FallFrom count least (rule ∷ rules) = (least ≤ rank rule) × (rank rule ≤ count) × FallFrom count (rank rule) rules

-- The rules of cases are indexes among `count` rules and are non-decreasing from case to case. A case without a rule counts lowest. (this project's profile)
abbrev pub FallIntoRules : ℕ → List (Option ℕ) → Type 0
FallIntoRules count rules = FallFrom count 0 rules
