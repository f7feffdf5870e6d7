-- The literals of a pattern in the order in which a text has them; a match has them so.
use Rattle.gk_steps.proofs.Common.{◌≡◌, ℕ, ◌+◌, ◌≤◌, inl, inr, Bor, List, [], ◌∷◌, ◌++◌, length, take, drop, Option, Some, None, ap, sym, subst, ◌∙◌, arith, length-append, append_assoc, cases_lt, take-append-drop, drop-append_seam, PieceValue, Literal, FieldPiece, Matches, MatchesNot, HasLiterals, LacksLiterals}
use Rattle.std.specs.Prelude.{MatchOption}
use Rattle.std.specs.Str.Pattern.{FindsText}
use Rattle.gk_steps.proofs.MatchingLemmas.{split}
use Rattle.gk_steps.proofs.LeftmostLemmas.{longer}

-- what stands before makes no difference
more_before : (ps : List PieceValue) (x text : List ℕ) → HasLiterals ps text → HasLiterals ps (x ++ text)
more_before [] x text h = tt
more_before (Literal literal ∷ ps) x text h = (x ++ h.0, h.1, ap (λ t. x ++ t) h.2 ∙ sym (append_assoc x h.0 (literal ++ h.1)), h.3)
more_before (FieldPiece name kind ∷ ps) x text h = more_before ps x text h

-- a match has the literals in order
pub match_has : (ps : List PieceValue) (text : List ℕ) (spans : List (List ℕ)) → Matches ps text spans → HasLiterals ps text
match_has [] text spans m = tt
match_has (Literal literal ∷ ps) text spans m = let s = split (Literal literal) ps text spans m in ([], s.rest, s.whole ∙ ap (λ x. x ++ s.rest) s.takes, match_has ps s.rest s.xs s.after)
match_has (FieldPiece name kind ∷ ps) text spans m = let s = split (FieldPiece name kind) ps text spans m in subst (HasLiterals ps) (sym s.whole) (more_before ps s.x s.rest (match_has ps s.rest s.xs s.after))

pub lacks : (ps : List PieceValue) (text : List ℕ) → LacksLiterals ps text → MatchesNot ps text
lacks ps text none = λ spans m. none (match_has ps text spans m)

-- a literal where it stands, and the first place where it does
stands_there : (literal text before rest : List ℕ) → text ≡ before ++ (literal ++ rest) → (length before ≤ length text) × (drop (length before) text ≡ literal ++ rest)
stands_there literal text before rest e = (omega (arith, ap length e, length-append before (literal ++ rest)), ap (drop (length before)) e ∙ drop-append_seam before (literal ++ rest))

abbrev pub Cuts : List ℕ → List ℕ → List ℕ → List ℕ → Type 0
Cuts literal text before rest = (i : ℕ) × (j : ℕ) × FindsText literal text (Some (i, j)) × (before ≡ take i text) × (rest ≡ drop j text) × (i ≤ j) × (length before ≡ i) × (length rest + j ≡ length text)

-- what a search for a literal gives
abbrev pub CutsOrNot : List ℕ → List ℕ → Option (Bor (List ℕ) × Bor (List ℕ)) → Type 0
CutsOrNot literal text r = MatchOption r (FindsText literal text None) (λ x. Cuts literal text x.0.now x.1.now)

pub cut_of : (literal text : List ℕ) (r : Option (Bor (List ℕ) × Bor (List ℕ))) (x : Bor (List ℕ) × Bor (List ℕ)) → CutsOrNot literal text r → r ≡ Some x → Cuts literal text x.0.now x.1.now
cut_of literal text r x cases is = rw is at cases

pub not_cut : (literal text : List ℕ) (r : Option (Bor (List ℕ) × Bor (List ℕ))) → CutsOrNot literal text r → r ≡ None → FindsText literal text None
not_cut literal text r cases is = rw is at cases

pub nowhere : (literal : List ℕ) (ps : List PieceValue) (text : List ℕ) → FindsText literal text None → LacksLiterals (Literal literal ∷ ps) text
nowhere literal ps text none h = let there = stands_there literal text h.0 h.1 h.2 in none (length h.0) there.0 h.1 there.1

pub cut_has : (literal : List ℕ) (ps : List PieceValue) (text before rest : List ℕ) → Cuts literal text before rest → HasLiterals ps rest → HasLiterals (Literal literal ∷ ps) text
cut_has literal ps text before rest cut h =
    (take cut.0 text, rest, sym (take-append-drop cut.0 text) ∙ ap (λ t. take cut.0 text ++ t) (cut.2.1.split ∙ ap (λ t. literal ++ t) (sym cut.4)), h)

pub cut_first : (literal : List ℕ) (ps : List PieceValue) (text before rest : List ℕ) → Cuts literal text before rest → HasLiterals (Literal literal ∷ ps) text → HasLiterals ps rest
cut_first literal ps text before rest cut h =
    let there = stands_there literal text h.0 h.1 h.2 in
    elim (cases_lt (length h.0) cut.0) [
      | inl less ↦ absurd (cut.2.0 (length h.0) less h.1 there.1)
      | inr le ↦
          let front = take cut.0 text in
          let here : text ≡ (front ++ literal) ++ rest = sym (take-append-drop cut.0 text) ∙ ap (λ t. front ++ t) (cut.2.1.split ∙ ap (λ t. literal ++ t) (sym cut.4)) ∙ sym (append_assoc front literal rest) in
          let other : text ≡ (h.0 ++ literal) ++ h.1 = h.2 ∙ sym (append_assoc h.0 literal h.1) in
          let size : length front ≡ cut.0 = ap length (sym cut.3) ∙ cut.6 in
          let shorter : length (front ++ literal) ≤ length (h.0 ++ literal) = omega (arith, length-append front literal, length-append h.0 literal, size, le) in
          let gap = longer (front ++ literal) rest (h.0 ++ literal) h.1 (sym here ∙ other) shorter in
          subst (HasLiterals ps) (sym gap.1) (more_before ps gap.0 h.1 h.3)
    ]
