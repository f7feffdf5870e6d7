-- Notes below faults and findings.
use Rattle.std.specs.Prelude.{ℕ, List, [], ◌++◌, codes, Option, Some, None}
use Rattle.gk_explain.specs.Shown.{unquoted}

-- A text below a fault or a finding, on a separate line after four spaces.
unfoldable pub note : List ℕ → List ℕ
note text = codes "    " ++ (text ++ codes "\n")

-- A quotation below a fault or a finding, on a separate line after four spaces and a bar. Without the bar, a CI's log would read a text that begins with `::` as a command.
unfoldable pub quoted : List ℕ → List ℕ
quoted text = codes "    | " ++ (text ++ codes "\n")

-- A line of a file as it is quoted, with invisible characters as escapes.
abbrev pub quote : Option (List ℕ) → List ℕ
quote None = []
quote (Some text) = quoted (unquoted text)
