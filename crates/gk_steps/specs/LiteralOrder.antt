-- Proof machinery: texts that a pattern can't match because its literals don't stand there in order.
use Rattle.std.specs.Prelude.{◌≡◌, ℕ, List, [], ◌∷◌, ◌++◌}
use Rattle.gk_steps.specs.Pattern.{PieceValue, Literal, FieldPiece}

-- The literals of a pattern stand in a text in order, each after the end of the one before it. Other bytes may stand around them.
abbrev pub HasLiterals : List PieceValue → List ℕ → Type 0
HasLiterals [] text = Unit {0}
HasLiterals (Literal literal ∷ ps) text = (before : List ℕ) × (rest : List ℕ) × (text ≡ before ++ (literal ++ rest)) × HasLiterals ps rest
HasLiterals (FieldPiece name kind ∷ ps) text = HasLiterals ps text

-- They don't stand there in order.
abbrev pub LacksLiterals : List PieceValue → List ℕ → Type 0
LacksLiterals ps text = HasLiterals ps text → ⊥
