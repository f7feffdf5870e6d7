-- Matches of a pattern, taken apart at its first piece; and that the preferred one is unique.
use Rattle.gk_steps.proofs.Common.{◌≡◌, ℕ, inl, inr, List, [], ◌∷◌, ◌++◌, length, take, drop, Option, Some, None, refl, ap, sym, ◌∙◌, arith, common_steps, take-append_seam, drop-append_seam, Plain, Decimal, PieceValue, Literal, FieldPiece, woven, Matches, IsPreferred, IsBestMatch, IsMatchResult, FieldValue, span_values, CanTake}

-- two ways to cut a list after as many elements are one
pub same_prefix : (a b x y : List ℕ) → a ++ x ≡ b ++ y → length a ≡ length b → a ≡ b
same_prefix a b x y e n = sym (take-append_seam a x) ∙ ap (λ k. take k (a ++ x)) n ∙ ap (take (length b)) e ∙ take-append_seam b y

pub same_back : (a b x y : List ℕ) → a ++ x ≡ b ++ y → length a ≡ length b → x ≡ y
same_back a b x y e n = sym (drop-append_seam a x) ∙ ap (λ k. drop k (a ++ x)) n ∙ ap (drop (length b)) e ∙ drop-append_seam b y

-- the spans of a pattern with one piece more in prefix, which took x
abbrev pub with_span : PieceValue → List ℕ → List (List ℕ) → List (List ℕ)
with_span (Literal literal) x xs = xs
with_span (FieldPiece name kind) x xs = x ∷ xs

-- a match of a pattern, taken apart at its first piece
pub record IsSplit (piece : PieceValue) (ps : List PieceValue) (text : List ℕ) (spans : List (List ℕ)) : Type 0 where
  pub x : List ℕ
  pub rest : List ℕ
  pub xs : List (List ℕ)
  pub takes : CanTake piece x
  pub whole : text ≡ x ++ rest
  pub after : Matches ps rest xs
  pub spans_are : spans ≡ with_span piece x xs

pub split : (piece : PieceValue) (ps : List PieceValue) (text : List ℕ) (spans : List (List ℕ)) → Matches (piece ∷ ps) text spans → IsSplit piece ps text spans
split (Literal literal) ps text spans m = record { x = literal; rest = woven ps spans; xs = spans; takes = refl; whole = m.whole; after = record { spans_fit = m.spans_fit; whole = refl }; spans_are = refl }
split (FieldPiece name kind) ps text [] m = absurd m.spans_fit
split (FieldPiece name kind) ps text (x ∷ xs) m = record { x = x; rest = woven ps xs; xs = xs; takes = m.spans_fit.0; whole = m.whole; after = record { spans_fit = m.spans_fit.1; whole = refl }; spans_are = refl }

pub join : (piece : PieceValue) (ps : List PieceValue) (text x rest : List ℕ) (xs : List (List ℕ)) → CanTake piece x → text ≡ x ++ rest → Matches ps rest xs → Matches (piece ∷ ps) text (with_span piece x xs)
join (Literal literal) ps text x rest xs takes whole m = record { spans_fit = m.spans_fit; whole = whole ∙ ap (λ f. f ++ rest) takes ∙ ap (λ r. literal ++ r) m.whole }
join (FieldPiece name kind) ps text x rest xs takes whole m = record { spans_fit = (takes, m.spans_fit); whole = whole ∙ ap (λ r. x ++ r) m.whole }

-- of two matches not each is preferred to the other
not_both : (ps : List PieceValue) (xs ys : List (List ℕ)) → IsPreferred ps xs ys → IsPreferred ps ys xs → ⊥
not_both [] xs ys h k = h
not_both (Literal text ∷ ps) xs ys h k = not_both ps xs ys h k
not_both (FieldPiece name kind ∷ ps) [] ys h k = h
not_both (FieldPiece name kind ∷ ps) (x ∷ xs) [] h k = h
not_both (FieldPiece name Plain ∷ ps) (x ∷ xs) (y ∷ ys) (inl h) (inl k) = omega arith
not_both (FieldPiece name Decimal ∷ ps) (x ∷ xs) (y ∷ ys) (inl h) (inl k) = omega arith
not_both (FieldPiece name Plain ∷ ps) (x ∷ xs) (y ∷ ys) (inl h) (inr k) = omega arith
not_both (FieldPiece name Decimal ∷ ps) (x ∷ xs) (y ∷ ys) (inl h) (inr k) = omega arith
not_both (FieldPiece name Plain ∷ ps) (x ∷ xs) (y ∷ ys) (inr h) (inl k) = omega arith
not_both (FieldPiece name Decimal ∷ ps) (x ∷ xs) (y ∷ ys) (inr h) (inl k) = omega arith
not_both (FieldPiece name kind ∷ ps) (x ∷ xs) (y ∷ ys) (inr h) (inr k) = not_both ps xs ys h.1 k.1

pub one_best : (ps : List PieceValue) (text : List ℕ) (a b : List (List ℕ)) → IsBestMatch ps text a → IsBestMatch ps text b → a ≡ b
one_best ps text a b h k = grind (arith, common_steps, not_both)

-- what a pattern finds in a text is determined
pub one_result : (ps : List PieceValue) (text : List ℕ) (a b : Option (List FieldValue)) → IsMatchResult ps text a → IsMatchResult ps text b → a ≡ b
one_result ps text None None h k = refl
one_result ps text None (Some b) h k = absurd (h k.0 k.1.matches)
one_result ps text (Some a) None h k = absurd (k h.0 h.1.matches)
one_result ps text (Some a) (Some b) h k = ap Some (h.2 ∙ ap (span_values ps) (one_best ps text h.0 k.0 h.1 k.1) ∙ sym k.2)

-- the pattern of no pieces
pub nothing_left : (text : List ℕ) (spans : List (List ℕ)) → Matches [] text spans → text ≡ []
nothing_left text spans m = m.whole

pub best_nothing : (text : List ℕ) → text ≡ [] → IsBestMatch [] text []
best_nothing text e = grind (arith, common_steps)
