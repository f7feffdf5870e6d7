-- A listing of texts by name.
use Rattle.std.specs.Prelude.{◌≡◌, ℕ, Bool, false, cond, Option, ◌||◌, List, [], ◌∷◌, map, String, string_bytes, bytes_eq}
use Rattle.std.specs.BTreeMap.{BTreeMap}
use Rattle.std.specs.Option.{option_or}
use Rattle.std.specs.List.Sorted.{IsStrictlySortedBy}
use Rattle.std.specs.Map.{keys_of}
use Rattle.std.specs.String.{string_cmp}
use Rattle.std.specs.FinMap as finite
use Rattle.gk_world.specs.declared.listing.Listing.{Listing}
use Rattle.gk_world.specs.Cells.{Slot}
use Rattle.gk_world.specs.State.{Texts, Map, State, see}

-- The map of the program's pairs, without their places in memory.
abbrev pub texts_of : {Y Z : Type 0} → List (String Y × String Z) → Texts
texts_of es = finite.from_entries (map (λ entry. (string_bytes entry.0, string_bytes entry.1)) es)

-- The pairs have exactly the names of the map, each with its text, sorted by name, each name once.
pub record Lists {Y Z : Type 0} (there : Map) (pairs : List (String Y × String Z)) : Type 0 where
  pub texts : (name : List ℕ) → finite.get (texts_of pairs) name ≡ there name
  pub ascending : IsStrictlySortedBy string_cmp (keys_of pairs)

-- The listing has the files, the variables and the visible values.
pub record IsListing (s : State) (l : Listing) : Type 0 where
  pub files : Lists s.files l.files.items
  pub env : Lists s.env l.env.items
  pub values : Lists (see s) l.values.items

-- Proof machinery: the pairs are the entries of a map, sorted by name.
pub record AreEntries {Y Z : Type 0} (m : BTreeMap (String Y) (String Z)) (pairs : List (String Y × String Z)) : Type 0 where
  pub same : pairs ≡ m.entries
  pub ascending : IsStrictlySortedBy string_cmp (keys_of pairs)

-- Proof machinery: a name gets this text, if there is one, and the rest stays.
abbrev pub Notes : {Y Z : Type 0} → List ℕ → Option (List ℕ) → BTreeMap (String Y) (String Z) → BTreeMap (String Y) (String Z) → Type 0
Notes name text old new = (other : List ℕ) → finite.get (texts_of new.entries) other ≡ cond (bytes_eq other name) (option_or text (finite.get (texts_of old.entries) other)) (finite.get (texts_of old.entries) other)

-- Proof machinery: whether a slot has this name.
abbrev pub is_named : List ℕ → List Slot → Bool
is_named name [] = false
is_named name (s ∷ ss) = bytes_eq name s.0 || is_named name ss
