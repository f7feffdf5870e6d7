-- Texts that a pattern can't match because of the literals at its ends.
use Rattle.std.specs.Prelude.{◌≡◌, ℕ, List, [], ◌∷◌, ◌++◌}
use Rattle.gk_steps.specs.Pattern.{PieceValue, Literal, FieldPiece}

-- A text begins with another.
abbrev pub BeginsWith : List ℕ → List ℕ → Type 0
BeginsWith text prefix = (rest : List ℕ) × (text ≡ prefix ++ rest)

-- A text doesn't begin with another.
abbrev pub BeginsNotWith : List ℕ → List ℕ → Type 0
BeginsNotWith text prefix = (rest : List ℕ) → text ≡ prefix ++ rest → ⊥

-- A text ends with another.
abbrev pub EndsWith : List ℕ → List ℕ → Type 0
EndsWith text suffix = (prefix : List ℕ) × (text ≡ prefix ++ suffix)

-- A text doesn't end with another.
abbrev pub EndsNotWith : List ℕ → List ℕ → Type 0
EndsNotWith text suffix = (prefix : List ℕ) → text ≡ prefix ++ suffix → ⊥

-- If a pattern begins with a literal, the text begins with it.
abbrev pub FitsStart : List PieceValue → List ℕ → Type 0
FitsStart (Literal literal ∷ ps) text = BeginsWith text literal
FitsStart _ text = Unit {0}

-- Proof machinery: these pieces and this rest are left after the literal that a pattern begins with; if it begins with none, they are all pieces and the whole text.
abbrev pub IsAfterStart : List PieceValue → List ℕ → List PieceValue → List ℕ → Type 0
IsAfterStart (Literal literal ∷ ps) text left rest = (left ≡ ps) × (text ≡ literal ++ rest)
IsAfterStart ps text left rest = (left ≡ ps) × (rest ≡ text)

-- What the last piece of a pattern requires of the text's end: a literal ends the text, a field requires nothing.
abbrev pub EndsWithPiece : PieceValue → List ℕ → Type 0
EndsWithPiece (Literal literal) text = EndsWith text literal
EndsWithPiece (FieldPiece name kind) text = Unit {0}

-- If a pattern ends with a literal, the text ends with it.
abbrev pub FitsEnd : List PieceValue → List ℕ → Type 0
FitsEnd [] text = Unit {0}
FitsEnd (p ∷ []) text = EndsWithPiece p text
FitsEnd (p ∷ q ∷ ps) text = FitsEnd (q ∷ ps) text
