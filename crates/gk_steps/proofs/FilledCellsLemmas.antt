-- How many cells were filled.
use Rattle.gk_steps.proofs.Common.{◌≡◌, inl, inr, ℕ, zero, suc, ◌+◌, ◌-◌, ◌*◌, ◌^◌, ◌<◌, ◌≤◌, List, [], ◌∷◌, length, take, drop, map, get_or, Option, ap, sym, subst, ◌∙◌, arith, length-append, common_steps, chars, IsCharBoundary, mul-le-mul, take-append-drop, length-map, take-map, IsUtf8-take, chars-append, StepType, Entry, Piece, PieceValue, piece_value, AreBoundaries, LibraryValue, entry_value, table_cells, cells_of_type, GoesOnBy}
use Rattle.std.specs.Str.{IsUtf8}
use Rattle.gk_steps.proofs.LeftmostLemmas.{IsCutOrWhole}
use Rattle.gk_steps.proofs.TableLemmas.{width_is}

pub one_more : (start old new n : ℕ) → GoesOnBy n start old → GoesOnBy 1 old new → GoesOnBy (n + 1) start new
one_more start old new n h more fits = grind (arith, common_steps)

pub row_more : (start old new rows width : ℕ) → GoesOnBy ((rows + 1) * width) start old → GoesOnBy width old new → GoesOnBy ((rows + 1 + 1) * width) start new
row_more start old new rows width h more fits = grind (arith, common_steps)

-- the rest of a match asks for no larger a table
all_chars : (text : List ℕ) (position : ℕ) → IsUtf8 text → IsCharBoundary text position → length (chars text) ≡ length (chars (take position text)) + length (chars (drop position text))
all_chars text position u b =
    ap (λ t. length (chars t)) (sym (take-append-drop position text)) ∙ ap length (chars-append (take position text) (drop position text) (IsUtf8-take text position u b)) ∙ length-append (chars (take position text)) (chars (drop position text))

pub fewer_chars : (text : List ℕ) (position : ℕ) → IsUtf8 text → IsCharBoundary text position → length (chars (drop position text)) ≤ length (chars text)
fewer_chars text position u b = omega (arith, all_chars text position u b)

pub fewer_before : (text : List ℕ) (position : ℕ) → IsUtf8 text → IsCharBoundary text position → length (chars (take position text)) ≤ length (chars text)
fewer_before text position u b = omega (arith, all_chars text position u b)

pub fewer_pieces : (ps : List PieceValue) (text : List ℕ) (left : List PieceValue) (rest : List ℕ) → IsCutOrWhole ps text left rest → length left ≤ length ps
fewer_pieces ps text left rest (inl same) = omega (arith, ap length same.0)
fewer_pieces ps text left rest (inr cut) = omega (arith, ap length cut.1)

pub fewer_cells : (left ps : List PieceValue) (rest text : List ℕ) → length left ≤ length ps → length (chars rest) ≤ length (chars text) → table_cells left rest ≤ table_cells ps text
fewer_cells left ps rest text l c = mul-le-mul {n₁ = length left + 1} {m₁ = length (chars rest) + 1} {n₂ = length ps + 1} {m₂ = length (chars text) + 1} (omega arith) (omega arith)

-- the entries of a type
pub first_cells : (entries : LibraryValue) (n : ℕ) (step_type : Option StepType) (text : List ℕ) → cells_of_type (take n entries) step_type text ≤ cells_of_type entries step_type text
first_cells entries zero step_type text = omega arith
first_cells [] (suc n) step_type text = omega arith
first_cells (e ∷ es) (suc n) step_type text = omega (arith, first_cells es n step_type text)

-- what a match of the last pieces filled
rest_cells : (pieces : List Piece) (rest boundaries slice : List ℕ) → IsUtf8 rest → AreBoundaries rest boundaries → slice ≡ boundaries → (length pieces + 1) * length slice ≡ table_cells (map piece_value pieces) rest
rest_cells pieces rest boundaries slice u h same = grind (arith, common_steps, width_is, length-map)

pub rest_most : (pieces : List Piece) (rest boundaries slice : List ℕ) (old new : ℕ) → IsUtf8 rest → AreBoundaries rest boundaries → slice ≡ boundaries → new ≤ old + (length pieces + 1) * length slice → new ≤ old + table_cells (map piece_value pieces) rest
rest_most pieces rest boundaries slice old new u h same most = subst (λ n. new ≤ old + n) (rest_cells pieces rest boundaries slice u h same) most

pub rest_filled : (pieces : List Piece) (rest boundaries slice : List ℕ) (old new : ℕ) → IsUtf8 rest → AreBoundaries rest boundaries → slice ≡ boundaries → GoesOnBy ((length pieces + 1) * length slice) old new → GoesOnBy (table_cells (map piece_value pieces) rest) old new
rest_filled pieces rest boundaries slice old new u h same goes = subst (λ n. GoesOnBy n old new) (rest_cells pieces rest boundaries slice u h same) goes

-- what a look-up filled after an entry that was asked, and after one that was passed over
pub asked : (entries : List Entry) (position : ℕ) (x : Entry) (step_type : Option StepType) (text : List ℕ) (pieces : List Piece) (start old new : ℕ) → position < length entries → x ≡ get_or entries position x → x.step_type ≡ step_type → pieces ≡ x.pattern.pieces.items
    → new ≤ old + table_cells (map piece_value pieces) text → old + cells_of_type (map entry_value (drop position entries)) step_type text ≤ start + cells_of_type (map entry_value entries) step_type text
    → new + cells_of_type (map entry_value (drop (position + 1) entries)) step_type text ≤ start + cells_of_type (map entry_value entries) step_type text
asked entries position x step_type text pieces start old new l e is same most h = grind (arith, common_steps)

pub passed_over : (entries : List Entry) (position : ℕ) (x : Entry) (step_type : Option StepType) (text : List ℕ) (start old : ℕ) → position < length entries → x ≡ get_or entries position x → old + cells_of_type (map entry_value (drop position entries)) step_type text ≤ start + cells_of_type (map entry_value entries) step_type text
    → old + cells_of_type (map entry_value (drop (position + 1) entries)) step_type text ≤ start + cells_of_type (map entry_value entries) step_type text
passed_over entries position x step_type text start old l e h = grind (arith, common_steps)

pub within_all : (a b c d : ℕ) → a + b ≤ c + d → a ≤ c + d
within_all a b c d h = omega (arith, h)

pub typed_cells : (entries slice : List Entry) (typed : ℕ) (step_type : Option StepType) (text : List ℕ) → slice ≡ take typed entries → cells_of_type (map entry_value slice) step_type text ≤ cells_of_type (map entry_value entries) step_type text
typed_cells entries slice typed step_type text same =
    let cut : cells_of_type (map entry_value slice) step_type text ≡ cells_of_type (take typed (map entry_value entries)) step_type text = ap (λ es. cells_of_type (map entry_value es) step_type text) same ∙ ap (λ es. cells_of_type es step_type text) (sym (take-map entry_value typed entries)) in
    omega (arith, cut, first_cells (map entry_value entries) typed step_type text)

-- a whole table, counted from 0
pub whole_table : (n m a b rows width old new : ℕ) → a ≡ n → b ≡ m → rows ≡ n → width ≡ m → old ≡ 0 → (a + 1) * b ≤ 2 ^ 64 - 1 → GoesOnBy ((rows + 1) * width) old new → new ≡ (n + 1) * m
whole_table n m a b rows width old new ea eb er ew start fits goes = grind (arith, common_steps)
