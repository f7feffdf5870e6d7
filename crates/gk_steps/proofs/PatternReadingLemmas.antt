-- The computed pieces of a text are those that it spells.
use Rattle.gk_steps.proofs.Common.{◌≡◌, ℕ, Bool, true, false, cond, ◌&&◌, List, [], ◌∷◌, ◌++◌, flat_map, IsTrue, Some, None, refl, ap, sym, ◌∙◌, arith, append_assoc, common_steps, nat_eq, AllByRecursion, list_all, bytes_eq, bytes_eq-Decides, nat_tests, FieldKind, Plain, Decimal, PieceValue, Literal, FieldPiece, spelled_literal, spelled_piece, is_name_letter, is_name_byte, is_field_name, field_names, AreLongestRuns, SpellsPattern, is_brace, is_pattern, field_tail, IsSpelled, Outside, AfterBrace, InName, AfterColon, after_byte, pieces_from, are_longest_runs, spells_pattern, pieces_of}
use Rattle.gk_steps.proofs.SpellingLemmas.{field_text, spells, spells_test}

and_both : (a b : Bool) → a ≡ true → b ≡ true → (a && b) ≡ true
and_both true b e h = h
and_both false b e h = let bad : ⊥ = cc in absurd bad

and_so : (a b : Bool) → (a && b) ≡ true → (a ≡ true) × (b ≡ true)
and_so true b e = (refl, e)
and_so false b e = let bad : ⊥ = cc in absurd bad

-- the pieces behind a literal
abbrev after_bytes : List ℕ → List PieceValue → List PieceValue
after_bytes [] ps = ps
after_bytes (b ∷ bs) ps = after_byte b (after_bytes bs ps)

one_byte : (v : Bool) (b : ℕ) (rest : List ℕ) → is_brace b ≡ v → pieces_from Outside (cond v (b ∷ b ∷ []) (b ∷ []) ++ rest) ≡ after_byte b (pieces_from Outside rest)
one_byte true b rest e = grind (arith, common_steps)
one_byte false b rest e = ap (λ v. cond v (pieces_from (AfterBrace b) rest) (after_byte b (pieces_from Outside rest))) e

literal : (text rest : List ℕ) → pieces_from Outside (flat_map spelled_literal text ++ rest) ≡ after_bytes text (pieces_from Outside rest)
literal [] rest = refl
literal (b ∷ bs) rest = grind (arith, common_steps, literal bs rest)

-- a literal before pieces that begin with none is one piece
one_piece : (b : ℕ) (bs : List ℕ) (ps : List PieceValue) → AreLongestRuns (Literal (b ∷ bs) ∷ ps) → after_bytes (b ∷ bs) ps ≡ Literal (b ∷ bs) ∷ ps
one_piece b [] [] runs = refl
one_piece b [] (Literal text ∷ ps) runs = absurd runs
one_piece b [] (FieldPiece name kind ∷ ps) runs = refl
one_piece b (c ∷ bs) [] runs = ap (after_byte b) (one_piece c bs [] (omega arith, tt))
one_piece b (c ∷ bs) (Literal text ∷ ps) runs = absurd runs
one_piece b (c ∷ bs) (FieldPiece name kind ∷ ps) runs = ap (after_byte b) (one_piece c bs (FieldPiece name kind ∷ ps) (omega arith, runs.1))

-- the pieces behind a name
name_more : (name before rest : List ℕ) → list_all is_name_byte name ≡ true → pieces_from (InName before) (name ++ rest) ≡ pieces_from (InName (before ++ name)) rest
name_more [] before rest h = grind (arith, common_steps)
name_more (b ∷ name) before rest h =
    let parts = and_so (is_name_byte b) (list_all is_name_byte name) h in
    ap (λ v. cond v (pieces_from (InName (before ++ b ∷ [])) (name ++ rest)) (cond (nat_eq b 125) (FieldPiece before Plain ∷ pieces_from Outside (name ++ rest)) (pieces_from (AfterColon before) (name ++ rest)))) parts.0
    ∙ name_more name (before ++ b ∷ []) rest parts.1
    ∙ ap (λ n. pieces_from (InName n) rest) (append_assoc before (b ∷ []) name)

tail : (name : List ℕ) (kind : FieldKind) (rest : List ℕ) → pieces_from (InName name) (field_tail kind ++ rest) ≡ FieldPiece name kind ∷ pieces_from Outside rest
tail name Plain rest = refl
tail name Decimal rest = refl

not_open : (b : ℕ) → is_name_letter b ≡ true → nat_eq b 123 ≡ false
not_open b h = grind (arith, nat_tests)

field : (name : List ℕ) (kind : FieldKind) (rest : List ℕ) → is_field_name name ≡ true → pieces_from Outside (spelled_piece (FieldPiece name kind) ++ rest) ≡ FieldPiece name kind ∷ pieces_from Outside rest
field [] kind rest h = let bad : ⊥ = cc in absurd bad
field (b ∷ name) kind rest h = grind (arith, common_steps, and_so, field_text, not_open, name_more, tail)

-- the pieces of their own spellings
pub all_pieces : (ps : List PieceValue) → AllByRecursion (λ name. IsTrue (is_field_name name)) (field_names ps) → AreLongestRuns ps → pieces_from Outside (flat_map spelled_piece ps) ≡ ps
all_pieces [] names runs = refl
all_pieces (Literal [] ∷ []) names runs = absurd (omega (arith, runs.0))
all_pieces (Literal [] ∷ Literal text ∷ ps) names runs = absurd runs
all_pieces (Literal [] ∷ FieldPiece name kind ∷ ps) names runs = absurd (omega (arith, runs.0))
all_pieces (Literal (b ∷ bs) ∷ []) names runs = grind (arith, common_steps, literal, one_piece)
all_pieces (Literal (b ∷ bs) ∷ Literal text ∷ ps) names runs = absurd runs
all_pieces (Literal (b ∷ bs) ∷ FieldPiece name kind ∷ ps) names runs = grind (arith, common_steps, literal, flat_map, all_pieces (FieldPiece name kind ∷ ps) names runs.1, one_piece)
all_pieces (FieldPiece name kind ∷ ps) names runs = grind (arith, common_steps, field, flat_map, all_pieces ps names.1 runs)

-- the tests say what they test
names_test : (names : List (List ℕ)) → AllByRecursion (λ name. IsTrue (is_field_name name)) names → list_all is_field_name names ≡ true
names_test [] h = refl
names_test (name ∷ names) h = and_both (is_field_name name) (list_all is_field_name names) h.0 (names_test names h.1)

names_so : (names : List (List ℕ)) → list_all is_field_name names ≡ true → AllByRecursion (λ name. IsTrue (is_field_name name)) names
names_so [] e = tt
names_so (name ∷ names) e = let parts = and_so (is_field_name name) (list_all is_field_name names) e in (parts.0, names_so names parts.1)

runs_test : (ps : List PieceValue) → AreLongestRuns ps → are_longest_runs ps ≡ true
runs_test [] h = refl
runs_test (Literal [] ∷ []) h = absurd (omega (arith, h.0))
runs_test (Literal [] ∷ Literal text ∷ ps) h = absurd h
runs_test (Literal [] ∷ FieldPiece name kind ∷ ps) h = absurd (omega (arith, h.0))
runs_test (Literal (b ∷ bs) ∷ []) h = refl
runs_test (Literal (b ∷ bs) ∷ Literal text ∷ ps) h = absurd h
runs_test (Literal (b ∷ bs) ∷ FieldPiece name kind ∷ ps) h = runs_test (FieldPiece name kind ∷ ps) h.1
runs_test (FieldPiece name kind ∷ ps) h = runs_test ps h

runs_so : (ps : List PieceValue) → are_longest_runs ps ≡ true → AreLongestRuns ps
runs_so [] e = tt
runs_so (Literal [] ∷ []) e = let bad : ⊥ = cc in absurd bad
runs_so (Literal [] ∷ Literal text ∷ ps) e = let bad : ⊥ = cc in absurd bad
runs_so (Literal [] ∷ FieldPiece name kind ∷ ps) e = let bad : ⊥ = cc in absurd bad
runs_so (Literal (b ∷ bs) ∷ []) e = (omega arith, tt)
runs_so (Literal (b ∷ bs) ∷ Literal text ∷ ps) e = let bad : ⊥ = cc in absurd bad
runs_so (Literal (b ∷ bs) ∷ FieldPiece name kind ∷ ps) e = (omega arith, runs_so (FieldPiece name kind ∷ ps) e)
runs_so (FieldPiece name kind ∷ ps) e = runs_so ps e

pub pattern_test : (text : List ℕ) (ps : List PieceValue) → SpellsPattern text ps → spells_pattern text ps ≡ true
pattern_test text ps s = grind (arith, common_steps, and_both, flat_map, bytes_eq-Decides, names_test, runs_test, spells_test)

pub pattern_so : (text : List ℕ) (ps : List PieceValue) → spells_pattern text ps ≡ true → SpellsPattern text ps
pattern_so text ps e =
    let one = and_so (bytes_eq (flat_map spelled_piece ps) text) _ e in
    let two = and_so (list_all is_field_name (field_names ps)) _ one.1 in
    let three = and_so (are_longest_runs ps) (is_pattern ps) two.1 in
    let spelled : IsSpelled text ps = record { spelled = sym ((bytes_eq-Decides (flat_map spelled_piece ps) text).0 one.0); names = names_so (field_names ps) two.0; runs = runs_so ps three.0 } in
    spells text ps spelled three.1

pub computed : (text : List ℕ) (ps : List PieceValue) → SpellsPattern text ps → pieces_of text ≡ Some ps
unfolding pieces_of
computed text ps s = grind (arith, common_steps, all_pieces, pattern_test)

some_so : (v : Bool) (qs ps : List PieceValue) → cond v (Some qs) None ≡ Some ps → (v ≡ true) × (qs ≡ ps)
some_so true qs ps e = (refl, cc)
some_so false qs ps e = let bad : ⊥ = cc in absurd bad

pub spelled : (text : List ℕ) (ps : List PieceValue) → pieces_of text ≡ Some ps → SpellsPattern text ps
unfolding pieces_of
spelled text ps e = grind (arith, common_steps, some_so, pattern_so)
