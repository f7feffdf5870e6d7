-- The first difference of two texts.
use Rattle.std.specs.Prelude.{ℕ, suc, cond, ◌==◌, List, [], ◌∷◌, chars}
use Rattle.gk_explain.specs.declared.differences.Position.{Position}

-- The start that two texts have in common.
abbrev pub common_start : List ℕ → List ℕ → List ℕ
common_start (x ∷ xs) (y ∷ ys) = cond (x == y) (x ∷ common_start xs ys) []
common_start _ _ = []

-- The position of the first character of a text.
abbrev pub first_position : Position
first_position = record { line = 1; column = 1 }

-- The position after one more character: a line feed ends its line.
abbrev pub position_after : Position → ℕ → Position
position_after p c = cond (c == 10) (record { line = suc p.line; column = 1 }) (record { line = p.line; column = suc p.column })

-- The position after some more characters.
abbrev pub position_past : Position → List ℕ → Position
position_past p [] = p
position_past p (c ∷ cs) = position_past (position_after p c) cs

-- The position at which two texts first differ: the one after all characters that they have in common at the start. It may be at the end of one of them.
abbrev pub first_difference : List ℕ → List ℕ → Position
first_difference expected found = position_past first_position (common_start (chars expected) (chars found))
