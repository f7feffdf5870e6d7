-- The whole table, and what is read from it.
use Rattle.gk_steps.proofs.Common.{◌≡◌, ℕ, ◌+◌, ◌-◌, ◌<◌, ◌≤◌, inl, inr, Bool, true, false, List, [], ◌∷◌, ◌++◌, length, drop, map, get_or, Some, refl, ap, sym, subst, ◌∙◌, arith, length-append, append_assoc, common_steps, IsUtf8, Vec, Global, eq-or-lt_of_le, get_or_append_left, get_or_push, get_or_read, get_or-map, drop_more, length-map, Piece, PieceValue, Literal, FieldPiece, piece_value, Matches, MatchesNot, IsBestMatch, FieldValue, span_values, AreBoundaries, IsAdvance, IsMatchedTo, part, values_of, IsCell, IsRow, IsTable}
use Rattle.gk_steps.proofs.MatchingLemmas.{with_span}
use Rattle.gk_steps.proofs.TableLemmas.{IsTextPiece, best_step, true_cell, last_cell}

-- the last pieces, with one more
one_more : (ps : List PieceValue) (k : ℕ) (d : PieceValue) → k < length ps → drop (length ps - (k + 1)) ps ≡ get_or ps (length ps - 1 - k) d ∷ drop (length ps - k) ps
one_more ps k d l = grind (arith, common_steps)

pub read_piece : (pieces : List Piece) (i : ℕ) (piece : Piece) → i < length pieces → piece ≡ get_or pieces i piece → (d : PieceValue) → get_or (map piece_value pieces) i d ≡ piece_value piece
read_piece pieces i piece l e d = get_or-map piece_value pieces i piece d l ∙ ap piece_value (sym e)

-- the table with its first row, and with one row more
pub table_first : (ps : List PieceValue) (text boundaries : List ℕ) (rows : List (Vec Bool Global)) (row : Vec Bool Global) → rows ≡ row ∷ [] → IsRow [] text boundaries row.items → IsTable 1 ps text boundaries rows
table_first ps text boundaries rows row e r = grind (arith, common_steps)

pub table_more : (pieces : List Piece) (text boundaries : List ℕ) (rows rows' : List (Vec Bool Global)) (row : Vec Bool Global) (k : ℕ) (piece : Piece) → k < length pieces → piece ≡ get_or pieces (length pieces - 1 - k) piece → rows' ≡ rows ++ row ∷ []
    → IsTable (k + 1) (map piece_value pieces) text boundaries rows → IsRow (piece_value piece ∷ drop (length (map piece_value pieces) - k) (map piece_value pieces)) text boundaries row.items → IsTable (k + 1 + 1) (map piece_value pieces) text boundaries rows'
table_more pieces text boundaries rows rows' row k piece l is e h r = subst (IsTable (k + 1 + 1) ps text boundaries) (sym e) (record {
  size_is = length-append rows (row ∷ []) ∙ ap (λ n. n + 1) h.size_is;
  each = λ j d less. elim (let most : j ≤ k + 1 = omega arith in eq-or-lt_of_le most) [
    | inl same ↦ subst (λ (n : ℕ). IsRow (drop (length ps - n) ps) text boundaries (get_or (rows ++ row ∷ []) n d).items) (sym same)
        (subst (λ (v : Vec Bool Global). IsRow (drop (length ps - (k + 1)) ps) text boundaries v.items) (sym (get_or_push rows row d (k + 1) h.size_is)) (subst (λ qs. IsRow qs text boundaries row.items) (sym newest) r))
    | inr old ↦ subst (λ (v : Vec Bool Global). IsRow (drop (length ps - j) ps) text boundaries v.items) (sym (get_or_append_left rows (row ∷ []) d j (omega (arith, h.size_is)))) (h.each j d old)
  ];
}) where
  ps : List PieceValue
  ps = map piece_value pieces

  newest : drop (length (map piece_value pieces) - (k + 1)) (map piece_value pieces) ≡ piece_value piece ∷ drop (length (map piece_value pieces) - k) (map piece_value pieces)
  newest =
      let size : length (map piece_value pieces) ≡ length pieces = length-map pieces piece_value in
      let at : length (map piece_value pieces) - 1 - k ≡ length pieces - 1 - k = omega arith in
      one_more (map piece_value pieces) k (piece_value piece) (omega arith)
      ∙ ap (λ p. p ∷ drop (length (map piece_value pieces) - k) (map piece_value pieces)) (ap (λ n. get_or (map piece_value pieces) n (piece_value piece)) at ∙ read_piece pieces (length pieces - 1 - k) piece (omega arith) is (piece_value piece))

-- a row of the table as the code reads it
pub row_at : (ps : List PieceValue) (text boundaries : List ℕ) (rows : List (Vec Bool Global)) (size k : ℕ) (row : Vec Bool Global) → IsTable size ps text boundaries rows → k < size → row ≡ get_or rows k row → IsRow (drop (length ps - k) ps) text boundaries row.items
row_at ps text boundaries rows size k row h l e = subst (λ (v : Vec Bool Global). IsRow (drop (length ps - k) ps) text boundaries v.items) (sym e) (h.each k row l)

-- nothing read yet
pub read_start : (ps : List PieceValue) (text boundaries : List ℕ) → IsUtf8 text → AreBoundaries text boundaries → (spans : List (List ℕ)) × Matches ps text spans → IsMatchedTo 0 (length boundaries - 1) ps text boundaries []
read_start ps text boundaries u h m =
    let whole : drop (get_or boundaries (length boundaries - 1) 0) text ≡ text = ap (λ n. drop n text) (last_cell text boundaries u h) in
    record {
      spans = [];
      known = let some = h.some in omega arith;
      matched = (m.0, subst (λ t. Matches ps t m.0) (sym whole) m.1);
      best = λ rest b. subst (λ t. IsBestMatch ps t rest) whole b;
      values = λ rest. refl;
    }

-- one piece more
values_after : (piece : PieceValue) (ps : List PieceValue) (x : List ℕ) (rest : List (List ℕ)) → span_values (piece ∷ ps) (with_span piece x rest) ≡ values_of piece x ++ span_values ps rest
values_after (Literal literal) ps x rest = refl
values_after (FieldPiece name kind) ps x rest = refl

span_more : (piece : PieceValue) (x : List ℕ) (rest : List (List ℕ)) → with_span piece x [] ++ rest ≡ with_span piece x rest
span_more (Literal literal) x rest = refl
span_more (FieldPiece name kind) x rest = refl

pub read_more : (ps qs : List PieceValue) (piece : PieceValue) (text boundaries : List ℕ) (row : List Bool) (taken c d : ℕ) (fields fields' : List FieldValue) → IsUtf8 text → IsTextPiece piece → AreBoundaries text boundaries → drop taken ps ≡ piece ∷ qs → drop (taken + 1) ps ≡ qs → IsRow qs text boundaries row
    → IsAdvance piece text boundaries row c (Some d) → fields' ≡ fields ++ values_of piece (part text boundaries c d) → IsMatchedTo taken c ps text boundaries fields → IsMatchedTo (taken + 1) d ps text boundaries fields'
read_more ps qs piece text boundaries row taken c d fields fields' u t h here next r s e so_far = record {
  spans = so_far.spans ++ with_span piece x [];
  known = known;
  matched = let m = true_cell qs (drop (get_or boundaries d 0) text) (get_or row d false) (r.cells d known) s.0.rest in (m.0, subst (λ ws. Matches ws (drop (get_or boundaries d 0) text) m.0) (sym next) m.1);
  best = λ rest b. subst (IsBestMatch ps text) (sym (joined rest))
      (so_far.best (with_span piece x rest) (subst (λ ws. IsBestMatch ws (drop (get_or boundaries c 0) text) (with_span piece x rest)) (sym here)
      (best_step piece qs text boundaries row c d rest u t h r so_far.known s (subst (λ ws. IsBestMatch ws (drop (get_or boundaries d 0) text) rest) next b))));
  values = λ rest. ap (span_values ps) (joined rest) ∙ so_far.values (with_span piece x rest) ∙ ap (λ ws. fields ++ span_values ws (with_span piece x rest)) here ∙ ap (λ vs. fields ++ vs) (values_after piece qs x rest)
      ∙ sym (append_assoc fields (values_of piece x) (span_values qs rest)) ∙ ap (λ fs. fs ++ span_values qs rest) (sym e) ∙ ap (λ ws. fields' ++ span_values ws rest) (sym next);
} where
  x : List ℕ
  x = part text boundaries c d

  known : d < length boundaries
  known = let least = so_far.known in omega (arith, s.0.within)

  joined : (rest : List (List ℕ)) → (so_far.spans ++ with_span piece (part text boundaries c d) []) ++ rest ≡ so_far.spans ++ with_span piece (part text boundaries c d) rest
  joined rest = append_assoc so_far.spans (with_span piece (part text boundaries c d) []) rest ∙ ap (λ s. so_far.spans ++ s) (span_more piece (part text boundaries c d) rest)

-- all read
pub read_end : (ps : List PieceValue) (text boundaries : List ℕ) (c : ℕ) (fields : List FieldValue) → IsMatchedTo (length ps) c ps text boundaries fields → (spans : List (List ℕ)) × IsBestMatch ps text spans × (fields ≡ span_values ps spans)
read_end ps text boundaries c fields so_far = grind (arith, common_steps)

-- the pieces and the row at a position of the loop that reads
pub here_at : (pieces : List Piece) (i : ℕ) (piece : Piece) → i < length pieces → piece ≡ get_or pieces i piece → drop i (map piece_value pieces) ≡ piece_value piece ∷ drop (i + 1) (map piece_value pieces)
here_at pieces i piece l e =
    let size : length (map piece_value pieces) ≡ length pieces = length-map pieces piece_value in
    drop_more (map piece_value pieces) i (piece_value piece) (omega arith) ∙ ap (λ p. p ∷ drop (i + 1) (map piece_value pieces)) (read_piece pieces i piece l e (piece_value piece))

pub row_under : (pieces : List Piece) (text boundaries : List ℕ) (rows : List (Vec Bool Global)) (i : ℕ) (row : Vec Bool Global) (cells : List Bool) → IsTable (length pieces + 1) (map piece_value pieces) text boundaries rows → i < length pieces → row ≡ get_or rows (length pieces - 1 - i) row → cells ≡ row.items → IsRow (drop (i + 1) (map piece_value pieces)) text boundaries cells
row_under pieces text boundaries rows i row cells h l e is =
    let size : length (map piece_value pieces) ≡ length pieces = length-map pieces piece_value in
    let at : length (map piece_value pieces) - (length pieces - 1 - i) ≡ i + 1 = omega arith in
    subst (IsRow (drop (i + 1) (map piece_value pieces)) text boundaries) (sym is)
    (subst (λ n. IsRow (drop n (map piece_value pieces)) text boundaries row.items) at (row_at (map piece_value pieces) text boundaries rows (length pieces + 1) (length pieces - 1 - i) row h (omega arith) e))

-- the cell of the whole pattern and the whole text
pub top_cell : (pieces : List Piece) (text boundaries : List ℕ) (rows : List (Vec Bool Global)) (row : Vec Bool Global) (b : Bool) → IsUtf8 text → AreBoundaries text boundaries → IsTable (length pieces + 1) (map piece_value pieces) text boundaries rows → row ≡ get_or rows (length pieces) row → b ≡ get_or row.items (length boundaries - 1) b
    → IsCell (map piece_value pieces) text b
top_cell pieces text boundaries rows row b u h t e cell =
    let size : length (map piece_value pieces) ≡ length pieces = length-map pieces piece_value in
    let none : length (map piece_value pieces) - length pieces ≡ 0 = omega arith in
    let r : IsRow (map piece_value pieces) text boundaries row.items = subst (λ n. IsRow (drop n (map piece_value pieces)) text boundaries row.items) none (row_at (map piece_value pieces) text boundaries rows (length pieces + 1) (length pieces) row t (omega arith) e) in
    let some = h.some in
    let is : b ≡ get_or row.items (length boundaries - 1) false = get_or_read row.items (length boundaries - 1) b (omega (arith, r.size_is)) cell false in
    let whole : drop (get_or boundaries (length boundaries - 1) 0) text ≡ text = ap (λ n. drop n text) (last_cell text boundaries u h) in
    subst (IsCell (map piece_value pieces) text) (sym is) (subst (λ t. IsCell (map piece_value pieces) t (get_or row.items (length boundaries - 1) false)) whole (r.cells (length boundaries - 1) (omega arith)))

pub cell_holds : (ps : List PieceValue) (text : List ℕ) (b : Bool) → IsCell ps text b → b ≡ true → (spans : List (List ℕ)) × Matches ps text spans
cell_holds ps text b h e = true_cell ps text b h e

pub cell_fails : (ps : List PieceValue) (text : List ℕ) (b : Bool) → IsCell ps text b → b ≡ false → MatchesNot ps text
cell_fails ps text b h e = subst (IsCell ps text) e h
