-- The cells of a row.
use Rattle.std.specs.Prelude.{codes, ℕ, ◌==◌, ◌||◌, List, [], ◌∷◌, drop, map, Option, Some, None, option_map, if◌then◌else◌}
use Rattle.gk_gherkin.specs.Lines.{LineValue}
use Rattle.gk_gherkin.specs.Text.{trim}
use Rattle.gk_gherkin.specs.Text.{begins}

-- The given parts with an empty part before them; `None` stays `None`.
abbrev pub part_before : Option (List (List ℕ)) → Option (List (List ℕ))
part_before None = None
part_before (Some parts) = Some ([] ∷ parts)

-- The given parts with a byte added at the beginning of the first; `None` if there is no first part.
abbrev pub into_first : ℕ → Option (List (List ℕ)) → Option (List (List ℕ))
into_first b (Some (part ∷ parts)) = Some ((b ∷ part) ∷ parts)
into_first b _ = None

-- The parts of a text, each ended by a bar, without these bars; `None` if any text is left after the last of these bars. A backslash and the character after it are read together. (Cucumber's Gherkin reference: data tables)
unfoldable pub parts_of : List ℕ → Option (List (List ℕ))
parts_of [] = Some []
parts_of (b ∷ []) = if b == 124 then Some ([] ∷ []) else None
parts_of (b ∷ c ∷ rest) =
    if b == 124 then part_before (parts_of (c ∷ rest)) else
    (if b == 92 then into_first b (into_first c (parts_of rest)) else into_first b (parts_of (c ∷ rest)))

-- The meaning of a cell's text: `\n` is a newline, `\|` a bar, `\\` a backslash. Any other backslash stays. (Cucumber's Gherkin reference: data tables)
unfoldable pub unescaped : List ℕ → List ℕ
unescaped [] = []
unescaped (b ∷ []) = b ∷ []
unescaped (b ∷ c ∷ rest) =
    if b == 92 then (if c == 110 then 10 ∷ unescaped rest else
    (if (c == 124) || (c == 92) then c ∷ unescaped rest else b ∷ c ∷ unescaped rest))
    else b ∷ unescaped (c ∷ rest)

-- The cell of a part: trimmed, then unescaped.
abbrev pub cell_of : List ℕ → List ℕ
cell_of part = unescaped (trim part)

-- The cells of the parts; `None` if there are no parts, as in a row of one bar.
abbrev pub cells_of_parts : Option (List (List ℕ)) → Option (List (List ℕ))
cells_of_parts None = None
cells_of_parts (Some []) = None
cells_of_parts (Some (part ∷ parts)) = Some (map cell_of (part ∷ parts))

-- The cells of a row, between the bar at its beginning and an unescaped bar at its end; `None` if one of these is missing, or if both are the same bar. (Cucumber's Gherkin reference: data tables; `None` is this project's profile)
unfoldable pub cells_of : LineValue → Option (List (List ℕ))
cells_of line = if begins (trim line.text) (codes "|") then cells_of_parts (parts_of (drop 1 (trim line.text))) else None

-- The parts of a text without an unescaped bar. Proof machinery.
abbrev pub no_bar : List ℕ → Option (List (List ℕ))
no_bar [] = Some []
no_bar (b ∷ part) = None

-- The parts of a text, given its first part and what follows that part. Proof machinery.
abbrev pub parts_after : List ℕ → List ℕ → Option (List (List ℕ))
parts_after part [] = no_bar part
parts_after part (bar ∷ rest) = option_map (λ parts. part ∷ parts) (parts_of rest)
