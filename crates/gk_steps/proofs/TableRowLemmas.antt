-- A row with one cell more, as the code fills it.
use Rattle.gk_steps.proofs.Common.{◌≡◌, ℕ, ◌==◌, ◌+◌, ◌<◌, ◌≤◌, inl, inr, Bool, true, false, List, [], ◌∷◌, ◌++◌, length, drop, get_or, Option, is_some, ap, sym, subst, ◌∙◌, arith, length-append, common_steps, IsUtf8, Result, Ok, Err, IfOk, eq-or-lt_of_le, eqb-true, get_or_append_left, get_or_push, Plain, Decimal, PieceValue, FieldPiece, AreBoundaries, IsAdvance, IsCell, IsRow, IsRowTo, IsAnyBefore, IsPlainRow, HasNumber, IsNumberRow}
use Rattle.std.proofs.lemmas.Bool.{eq-eqb}
use Rattle.gk_steps.proofs.TableLemmas.{IsTextPiece, cell_more, end_cell, step_cell, no_step_cell, cell_of_step}
use Rattle.gk_steps.proofs.AdvanceLemmas.{plain_takes, before, rename, rename_back}

pub end_more : (text boundaries : List ℕ) (c : ℕ) (row row' : List Bool) → AreBoundaries text boundaries → c < length boundaries → row' ≡ row ++ (c == 0) ∷ [] → IsRowTo c [] text boundaries row → IsRowTo (c + 1) [] text boundaries row'
end_more text boundaries c row row' h l e r = subst (IsRowTo (c + 1) [] text boundaries) (sym e) (cell_more c [] text boundaries row (c == 0) r (end_cell text boundaries c (c == 0) h l (eqb-true c 0) (eq-eqb c 0)))

pub step_more : (piece : PieceValue) (ps : List PieceValue) (text boundaries : List ℕ) (below : List Bool) (c : ℕ) (o : Option ℕ) (b : Bool) (row row' : List Bool) → IsUtf8 text → IsTextPiece piece → AreBoundaries text boundaries → IsRow ps text boundaries below → c < length boundaries → IsAdvance piece text boundaries below c o → b ≡ is_some o
    → row' ≡ row ++ b ∷ [] → IsRowTo c (piece ∷ ps) text boundaries row → IsRowTo (c + 1) (piece ∷ ps) text boundaries row'
step_more piece ps text boundaries below c o b row row' u t h r l s is e done = subst (IsRowTo (c + 1) (piece ∷ ps) text boundaries) (sym e)
    (cell_more c (piece ∷ ps) text boundaries row b done (subst (IsCell (piece ∷ ps) (drop (get_or boundaries c 0) text)) (sym is) (cell_of_step piece ps text boundaries below c o u t h r l s)))

-- whether a cell before is true
pub any_new : (row : List Bool) (c : ℕ) (x : Bool) → get_or row c false ≡ x → IsAnyBefore row c false → IsAnyBefore row (c + 1) x
any_new row c true e h = (c, omega arith, e)
any_new row c false e h = λ d l. elim (let most : d ≤ c = omega arith in eq-or-lt_of_le most) [ inl same ↦ ap (λ k. get_or row k false) same ∙ e | inr less ↦ h d less ]

pub any_kept : (row : List Bool) (c : ℕ) → IsAnyBefore row c true → IsAnyBefore row (c + 1) true
any_kept row c h = (h.0, omega (arith, h.1), h.2)

pub plain_more : (size : ℕ) (below row row' : List Bool) (b : Bool) → row' ≡ row ++ b ∷ [] → IsPlainRow size below row → IsAnyBefore below size b → IsPlainRow (size + 1) below row'
plain_more size below row row' b e h any = grind (arith, common_steps)

plain_cell : (name : List ℕ) (ps : List PieceValue) (text boundaries : List ℕ) (below : List Bool) (c : ℕ) (b : Bool) → IsUtf8 text → AreBoundaries text boundaries → IsRow ps text boundaries below → c < length boundaries → IsAnyBefore below c b → IsCell (FieldPiece name Plain ∷ ps) (drop (get_or boundaries c 0) text) b
plain_cell name ps text boundaries below c true u h r l any = step_cell (FieldPiece name Plain) ps text boundaries below c any.0 h r l (plain_takes name text boundaries below c any.0 u h l any.1 any.2)
plain_cell name ps text boundaries below c false u h r l any = no_step_cell (FieldPiece name Plain) ps text boundaries below c u tt h r l (λ d s.
    let is_false = any d (before (FieldPiece name Plain) text boundaries below c d h l s s.takes.1) in let is_true = s.rest in let bad : ⊥ = cc in bad)

pub plain_field_row : (name : List ℕ) (ps : List PieceValue) (text boundaries : List ℕ) (below row : List Bool) → IsUtf8 text → AreBoundaries text boundaries → IsRow ps text boundaries below → IsPlainRow (length below) below row → IsRow (FieldPiece name Plain ∷ ps) text boundaries row
plain_field_row name ps text boundaries below row u h r p = grind (arith, common_steps, plain_cell)

pub if_ok : {T E : Type 0} (r : Result T E) (P Q : T → Type 0) → ((x : T) → P x → Q x) → IfOk r P → IfOk r Q
if_ok (Ok x) P Q f h = f x h
if_ok (Err e) P Q f h = tt

pub number_more : (size : ℕ) (text boundaries : List ℕ) (below row row' : List Bool) (b : Bool) → row' ≡ row ++ b ∷ [] → IsNumberRow size text boundaries below row → HasNumber text boundaries below size b → IsNumberRow (size + 1) text boundaries below row'
number_more size text boundaries below row row' b e h has = subst (IsNumberRow (size + 1) text boundaries below) (sym e) (record {
  size_is = length-append row (b ∷ []) ∙ ap (λ n. n + 1) h.size_is;
  cells = λ c l. elim (let most : c ≤ size = omega arith in eq-or-lt_of_le most) [
    | inl same ↦ subst (λ (k : ℕ). HasNumber text boundaries below k (get_or (row ++ b ∷ []) k false)) (sym same) (subst (HasNumber text boundaries below size) (sym (get_or_push row b false size h.size_is)) has)
    | inr old ↦ subst (HasNumber text boundaries below c) (sym (get_or_append_left row (b ∷ []) false c (omega (arith, h.size_is)))) (h.cells c old)
  ];
})

number_cell : (name : List ℕ) (ps : List PieceValue) (text boundaries : List ℕ) (below : List Bool) (c : ℕ) (b : Bool) → IsUtf8 text → AreBoundaries text boundaries → IsRow ps text boundaries below → c < length boundaries → HasNumber text boundaries below c b → IsCell (FieldPiece name Decimal ∷ ps) (drop (get_or boundaries c 0) text) b
number_cell name ps text boundaries below c true u h r l has = step_cell (FieldPiece name Decimal) ps text boundaries below c has.0 h r l (rename name text boundaries below c has.0 has.1)
number_cell name ps text boundaries below c false u h r l has = no_step_cell (FieldPiece name Decimal) ps text boundaries below c u tt h r l (λ d s. has d (rename_back name text boundaries below c d s))

pub number_row : (name : List ℕ) (ps : List PieceValue) (text boundaries : List ℕ) (below row : List Bool) → IsUtf8 text → AreBoundaries text boundaries → IsRow ps text boundaries below → IsNumberRow (length boundaries) text boundaries below row → IsRow (FieldPiece name Decimal ∷ ps) text boundaries row
number_row name ps text boundaries below row u h r n = record { size_is = n.size_is; cells = λ c l. number_cell name ps text boundaries below c (get_or row c false) u h r l (n.cells c l) }
