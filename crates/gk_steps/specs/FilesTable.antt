-- Tables of files: a header and rows of a name and a text.
use Rattle.std.specs.Prelude.{codes, ℕ, Bool, false, ◌==◌, ◌&&◌, List, [], ◌∷◌, length, Option, Some, None, if◌then◌else◌}
use Rattle.std.specs.List.{list_all}
use Rattle.std.specs.Str.{bytes_eq}

-- Whether a row is the header of a table of files.
abbrev pub is_header : List (List ℕ) → Bool
is_header (name ∷ text ∷ []) = bytes_eq name (codes "name") && bytes_eq text (codes "text")
is_header _ = false

-- Whether a row has two cells: a name and a text.
abbrev pub is_pair : List (List ℕ) → Bool
is_pair row = length row == 2

-- Whether each of these rows has two cells.
abbrev pub are_pairs : List (List (List ℕ)) → Bool
are_pairs rows = list_all is_pair rows

-- The rows below the header of a table of files; none if the table is another.
abbrev pub files_below : List (List (List ℕ)) → Option (List (List (List ℕ)))
files_below [] = None
files_below (header ∷ rows) = if is_header header && are_pairs rows then Some rows else None
