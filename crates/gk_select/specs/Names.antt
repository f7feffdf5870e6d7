-- Names in a list, for lookup.
use Rattle.std.specs.Prelude.{◌≡◌, ℕ, ◌+◌, suc, Bool, false, List, [], ◌∷◌, length, Option, Some, None, option_map, if◌then◌else◌}
use Rattle.std.specs.Cmp.Lexicographic.{slice_cmp}
use Rattle.std.specs.Ordering.{nat_cmp}
use Rattle.std.specs.Str.{bytes_eq}
use Rattle.std.specs.BTreeMap as tree
use Rattle.std.specs.BTreeSet as sorted
use Rattle.gk_select.specs.declared.names.NameIndex.{NameIndex}

-- The position of the first name in a list that equals a name, if any, counted from 0.
unfoldable pub position_of : List (List ℕ) → List ℕ → Option ℕ
position_of [] name = None
position_of (n ∷ names) name = if bytes_eq n name then Some 0 else option_map suc (position_of names name)

-- The position that an index has for a name, if any.
abbrev pub position_in : NameIndex → List ℕ → Option ℕ
position_in index name = tree.get_by (λ k. slice_cmp nat_cmp name k.now) index.positions

-- Whether an index has a name of this length.
abbrev pub has_length : NameIndex → ℕ → Bool
has_length index n = sorted.contains nat_cmp index.lengths n

-- An index has these names, at positions that are counted from a number.
pub record IsIndexFrom (first : ℕ) (names : List (List ℕ)) (index : NameIndex) : Type 0 where
  pub positions : (name : List ℕ) → position_in index name ≡ option_map (λ n. first + n) (position_of names name)
  pub lengths : (name : List ℕ) → has_length index (length name) ≡ false → position_of names name ≡ None
