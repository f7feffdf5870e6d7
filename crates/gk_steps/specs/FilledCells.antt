-- The number of cells in the tables of matches.
use Rattle.std.specs.Prelude.{◌≡◌, ◌≤◌, ◌+◌, ◌-◌, ◌*◌, ◌^◌, ℕ, List, [], ◌∷◌, length, Option, Some, None, if◌then◌else◌}
use Rattle.std.specs.Str.{chars}
use Rattle.gk_gherkin.specs.declared.feature.StepType.{StepType}
use Rattle.gk_steps.specs.Pattern.{PieceValue}
use Rattle.gk_steps.specs.Finding.{LibraryValue, is_of_type}

-- The number of cells in the table of a pattern and a text. There is a row for each number of the pattern's last pieces, from 0. Each row has a cell for each number of the text's last characters, from 0.
abbrev pub table_cells : List PieceValue → List ℕ → ℕ
table_cells ps text = (length ps + 1) * (length (chars text) + 1)

-- The number of cells in the tables of all entries of a type. `None` is the type of entries for steps of every type.
abbrev pub cells_of_type : LibraryValue → Option StepType → List ℕ → ℕ
cells_of_type [] step_type text = 0
cells_of_type (e ∷ es) step_type text = (if is_of_type e.step_type step_type then table_cells e.pattern text else 0) + cells_of_type es step_type text

-- The number of cells in the tables of all entries of a step's type and of type `step`.
abbrev pub cells_of_step : LibraryValue → StepType → List ℕ → ℕ
cells_of_step entries step_type text = cells_of_type entries (Some step_type) text + cells_of_type entries None text

-- A 64-bit count grew by exactly this number, if the sum fits in 64 bits.
abbrev pub GoesOnBy : ℕ → ℕ → ℕ → Type 0
GoesOnBy more old new = old + more ≤ 2 ^ 64 - 1 → new ≡ old + more
