-- The law that the lines in which two texts first differ are shown.
use Rattle.std.specs.Prelude.{◌≡◌, ℕ, ◌+◌, List, ◌∷◌, ◌++◌, length, chars, codes, IsUtf8}
use Rattle.gk_explain.specs.Shown.{text_lines, cut_line}
use Rattle.gk_explain.specs.Differences.{first_difference}
use Rattle.gk_explain.specs.Details.{compared}

-- The line of a text with this number, counted from 1.
abbrev pub IsLine : List ℕ → ℕ → List ℕ → Type 0
IsLine text number line = (before : List (List ℕ)) × (after : List (List ℕ)) × (text_lines text ≡ before ++ (line ∷ after)) × (length before + 1 ≡ number)

-- If two UTF-8 texts are compared, each of them has a line with the number of the line in which they first differ. What is shown has this line of the expected text and, after it, this line of the found text, however long the texts are. Both are cut around the column of the first difference, if they are long.
abbrev pub DifferingLinesAreShown : Type 0
DifferingLinesAreShown = (expected found : List ℕ) → IsUtf8 expected → IsUtf8 found → (let p = first_difference expected found in
    (line : List ℕ) × (other : List ℕ) × IsLine expected p.line line × IsLine found p.line other
    × (before : List ℕ) × (between : List ℕ) × (after : List ℕ)
    × (compared expected found ≡ before ++ (cut_line (codes "expected") p.column (chars line) ++ (between ++ (cut_line (codes "found   ") p.column (chars other) ++ after)))))
