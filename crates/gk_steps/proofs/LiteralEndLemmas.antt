-- The ends of a text that a pattern matches.
use Rattle.gk_steps.proofs.Common.{◌≡◌, ℕ, zero, suc, ◌-◌, ◌<◌, ◌≤◌, refl, get_or, Bool, true, false, List, [], ◌∷◌, ◌++◌, length, take, drop, map, nat_eq, Some, ap, sym, subst, ◌∙◌, arith, length-append, append_assoc, common_steps, slice_get, MatchBool, starts_with, ends_with, drop-append_seam, take-append-drop, append-nil, get_or-take, get_or-drop, bytes_eq-Decides, Piece, PieceValue, Literal, FieldPiece, piece_value, Matches, MatchesNot, EndsWithPiece, FitsEnd}
use Rattle.std.proofs.lemmas.List.{length-drop}
use Rattle.gk_steps.proofs.MatchingLemmas.{split}
use Rattle.gk_steps.proofs.BestMatchLemmas.{begins_so, begins_with_itself}

ends_so : (text back : List ℕ) → ends_with nat_eq text back ≡ true → (prefix : List ℕ) × (text ≡ prefix ++ back)
ends_so text back h =
    let k = length text - length back in
    (take k text, sym (take-append-drop k text) ∙ ap (λ b. take k text ++ b) (sym ((bytes_eq-Decides back (drop k text)).0 h)))

ends_itself : (prefix back : List ℕ) → ends_with nat_eq (prefix ++ back) back ≡ true
ends_itself prefix back = grind (arith, common_steps, length-append, bytes_eq-Decides, drop-append_seam)

pub ends_match : (b : Bool) (text back : List ℕ) → b ≡ ends_with nat_eq text back → MatchBool b ((prefix : List ℕ) × (text ≡ prefix ++ back)) ((prefix : List ℕ) → text ≡ prefix ++ back → ⊥)
ends_match true text back e = ends_so text back (sym e)
ends_match false text back e = λ prefix is. let other : false ≡ true = e ∙ ap (λ t. ends_with nat_eq t back) is ∙ ends_itself prefix back in let bad : ⊥ = cc in bad

pub begins_match : (b : Bool) (text front : List ℕ) → b ≡ starts_with nat_eq text front → MatchBool b ((rest : List ℕ) × (text ≡ front ++ rest)) ((rest : List ℕ) → text ≡ front ++ rest → ⊥)
begins_match true text front e = (drop (length front) text, begins_so text front (sym e))
begins_match false text front e = λ rest is. let other : false ≡ true = e ∙ ap (λ t. starts_with nat_eq t front) is ∙ begins_with_itself front rest in let bad : ⊥ = cc in bad

pub match_true : (b : Bool) (A B : Type 0) → MatchBool b A B → b ≡ true → A
match_true true A B h e = h
match_true false A B h e = let bad : ⊥ = cc in absurd bad

pub match_false : (b : Bool) (A B : Type 0) → MatchBool b A B → b ≡ false → B
match_false true A B h e = let bad : ⊥ = cc in absurd bad
match_false false A B h e = h

-- the last piece says it
last_says : (pieces : List Piece) (n : ℕ) (p : Piece) (text : List ℕ) → length pieces ≡ suc n → slice_get pieces n ≡ Some p → (EndsWithPiece (piece_value p) text → FitsEnd (map piece_value pieces) text) × (FitsEnd (map piece_value pieces) text → EndsWithPiece (piece_value p) text)
last_says [] n p text size e = absurd (omega arith)
last_says (q ∷ []) zero p text size e = grind (arith, common_steps)
last_says (q ∷ []) (suc n) p text size e = absurd (omega arith)
last_says (q ∷ r ∷ rest) zero p text size e = absurd (omega arith)
last_says (q ∷ r ∷ rest) (suc n) p text size e = last_says (r ∷ rest) n p text (omega arith) e

not_empty : (pieces : List Piece) (p : Piece) → slice_get pieces (length pieces - 1) ≡ Some p → length pieces ≡ suc (length pieces - 1)
not_empty [] p e = let bad : ⊥ = cc in absurd bad
not_empty (q ∷ pieces) p e = omega arith

pub last_fits : (pieces : List Piece) (p : Piece) (text : List ℕ) → slice_get pieces (length pieces - 1) ≡ Some p → EndsWithPiece (piece_value p) text → FitsEnd (map piece_value pieces) text
last_fits pieces p text e = (last_says pieces (length pieces - 1) p text (not_empty pieces p e) e).0

-- what stands before makes no difference
back_more : (ps : List PieceValue) (x text : List ℕ) → FitsEnd ps text → FitsEnd ps (x ++ text)
back_more [] x text h = tt
back_more (Literal literal ∷ []) x text h = (x ++ h.0, ap (λ t. x ++ t) h.1 ∙ sym (append_assoc x h.0 literal))
back_more (FieldPiece name kind ∷ []) x text h = tt
back_more (p ∷ q ∷ ps) x text h = back_more (q ∷ ps) x text h

pub match_fits : (ps : List PieceValue) (text : List ℕ) (spans : List (List ℕ)) → Matches ps text spans → FitsEnd ps text
match_fits [] text spans m = tt
match_fits (Literal literal ∷ []) text spans m = ([], m.whole ∙ append-nil literal)
match_fits (FieldPiece name kind ∷ []) text spans m = tt
match_fits (p ∷ q ∷ ps) text spans m = let s = split p (q ∷ ps) text spans m in subst (FitsEnd (q ∷ ps)) (sym s.whole) (back_more (q ∷ ps) s.x s.rest (match_fits (q ∷ ps) s.rest s.xs s.after))

pub last_refuses : (pieces : List Piece) (p : Piece) (text : List ℕ) → slice_get pieces (length pieces - 1) ≡ Some p → (EndsWithPiece (piece_value p) text → ⊥) → MatchesNot (map piece_value pieces) text
last_refuses pieces p text e no_end = λ spans m. no_end ((last_says pieces (length pieces - 1) p text (not_empty pieces p e) e).1 (match_fits (map piece_value pieces) text spans m))

-- bytes that begin or end with others have their last byte
no_test : (b : Bool) → (b ≡ true → ⊥) → b ≡ false
no_test true h = absurd (h refl)
no_test false h = refl

pub last_of_first_differs : (bytes first : List ℕ) → 0 < length first → length first ≤ length bytes → (get_or bytes (length first - 1) 0 ≡ get_or first (length first - 1) 0 → ⊥) → starts_with nat_eq bytes first ≡ false
last_of_first_differs bytes first some fits differs = grind (arith, common_steps, no_test, nat_eq, bytes_eq-Decides, get_or-take)

pub last_differs : (bytes last : List ℕ) → 0 < length bytes → 0 < length last → (get_or bytes (length bytes - 1) 0 ≡ get_or last (length last - 1) 0 → ⊥) → ends_with nat_eq bytes last ≡ false
last_differs bytes last some any differs = grind (arith, common_steps, no_test, nat_eq, bytes_eq-Decides, length-drop, get_or-drop)
