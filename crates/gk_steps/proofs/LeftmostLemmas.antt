-- What the first piece of a pattern takes, and how a match goes on after it.
use Rattle.gk_steps.proofs.Common.{◌≡◌, ℕ, ◌+◌, ◌-◌, ◌<◌, ◌≤◌, ◌⊎◌, inl, inr, Bool, true, false, List, [], ◌∷◌, ◌++◌, length, take, drop, map, get_or, nat_eq, Option, Some, None, option_map, refl, ap, sym, subst, ◌∙◌, arith, append_assoc, length-append, common_steps, IsCharBoundary, MatchBool, IsTrue, ◌↔◌, starts_with, IsUtf8-append, IsUtf8-drop, IsUtf8-take, IsCharBoundary-from_take, IsCharBoundary-from_drop, append-nil, take-append-drop, length-take-le, cases_lt, eq-or-lt_of_le, take-append_seam, drop-append_seam, drop-drop, get_or-drop, get_or_append_left, AllDigits, is_some, number_of, without_leading_sign, Plain, Decimal, FieldKind, IsDigit, BeginWithoutDigit, HasNumberTo, IsDigitsEnd, Piece, PieceValue, Literal, FieldPiece, piece_value, AreSpans, IsSpan, Matches, MatchesNot, IsPreferred, IsBestMatch, IsMatchResult, FieldValue, TextField, span_value, span_values, woven, values_of, MayNeedTable, CanStandAt, StandsNowhereBefore, IsFirst, TakesUpTo, IsLeft, FindsRest, EndsWith, FitsEnd, IsAfterStart}
use Rattle.std.specs.Str.{IsUtf8}
use Rattle.std.proofs.lemmas.List.{length-drop}
use Rattle.gk_steps.proofs.MatchingLemmas.{same_prefix, same_back, split, join, nothing_left, best_nothing}
use Rattle.gk_steps.proofs.BestMatchLemmas.{after_literal, begins_so, begins_with_itself}
use Rattle.gk_steps.proofs.DecimalLemmas.{is_number_some, is_number_none}
use Rattle.gk_steps.proofs.TableLemmas.{decimal_utf8}
use Rattle.gk_steps.proofs.AdvanceLemmas.{digits_range, decimal_some}

-- a text is cut where one part of it is a text
utf8_back : (front back : List ℕ) → IsUtf8 (front ++ back) → IsUtf8 front → IsUtf8 back
utf8_back front back whole part =
    let le : length front ≤ length (front ++ back) = omega (arith, length-append front back) in
    subst IsUtf8 (drop-append_seam front back)
    (IsUtf8-drop (front ++ back) (length front) whole (IsCharBoundary-from_take (front ++ back) (length front) whole le (subst IsUtf8 (sym (take-append_seam front back)) part)))

utf8_front : (front back : List ℕ) → IsUtf8 (front ++ back) → IsUtf8 back → IsUtf8 front
utf8_front front back whole part =
    let le : length front ≤ length (front ++ back) = omega (arith, length-append front back) in
    subst IsUtf8 (take-append_seam front back)
    (IsUtf8-take (front ++ back) (length front) whole (IsCharBoundary-from_drop (front ++ back) (length front) le (subst IsUtf8 (sym (drop-append_seam front back)) part)))

pub boundary_after : (text x rest : List ℕ) → IsUtf8 text → text ≡ x ++ rest → IsUtf8 x → IsCharBoundary text (length x)
boundary_after text x rest whole e part = grind (arith, common_steps, length-append, IsCharBoundary-from_take, take-append_seam)

taken : (text x rest : List ℕ) → text ≡ x ++ rest → take (length x) text ≡ x
taken text x rest e = ap (take (length x)) e ∙ take-append_seam x rest

left : (text x rest : List ℕ) → text ≡ x ++ rest → drop (length x) text ≡ rest
left text x rest e = ap (drop (length x)) e ∙ drop-append_seam x rest

-- of two ways to cut a list, what stands after the longer prefix ends what stands after the other
pub longer : (a r b t : List ℕ) → a ++ r ≡ b ++ t → length a ≤ length b → (w : List ℕ) × (r ≡ w ++ t)
longer [] r b t e h = (b, e)
longer (c ∷ a) r [] t e h = absurd (omega arith)
longer (c ∷ a) r (d ∷ b) t e h = longer a r b t (ap (drop 1) e) (omega arith)

-- a literal
literal_goes_on : (literal : List ℕ) (ps : List PieceValue) (text rest : List ℕ) → text ≡ literal ++ rest → (found : Option (List FieldValue)) → IsMatchResult ps rest found → IsMatchResult (Literal literal ∷ ps) text (option_map (λ (fields : List FieldValue). values_of (Literal literal) literal ++ fields) found)
literal_goes_on literal ps text rest e None h = after_literal literal ps text rest None e h
literal_goes_on literal ps text rest e (Some fields) h = (h.0, after_literal literal ps text rest (Some h.0) e h.1, h.2)

pub literal_end : (literal : List ℕ) (ps : List PieceValue) (text rest : List ℕ) → IsUtf8 text → IsUtf8 literal → text ≡ literal ++ rest → TakesUpTo (Literal literal) ps text (length literal)
literal_end literal ps text rest whole part e = grind (arith, common_steps, boundary_after, taken, literal_goes_on, left)

-- a plain field that takes x: with whatever else it can take, x is no longer, and the rest of the pattern matches after x, too
abbrev IsLeast : List PieceValue → List ℕ → List ℕ → List ℕ → Type 0
IsLeast ps text x rest = (y other : List ℕ) (ys : List (List ℕ)) → IsSpan Plain y → text ≡ y ++ other → Matches ps other ys → (length x ≤ length y) × ((zs : List (List ℕ)) × Matches ps rest zs)

least_is_best : (name : List ℕ) (ps : List PieceValue) (text x rest : List ℕ) (xs : List (List ℕ)) → text ≡ x ++ rest → IsSpan Plain x → IsLeast ps text x rest → IsBestMatch ps rest xs
    → (others : List (List ℕ)) → Matches (FieldPiece name Plain ∷ ps) text others → (others ≡ x ∷ xs) ⊎ IsPreferred (FieldPiece name Plain ∷ ps) (x ∷ xs) others
least_is_best name ps text x rest xs e fit least best others m =
    let s = split (FieldPiece name Plain) ps text others m in
    let known = least s.x s.rest s.xs s.takes s.whole s.after in
    let cut : x ++ rest ≡ s.x ++ s.rest = sym e ∙ s.whole in
    elim (eq-or-lt_of_le known.0) [
      | inl same ↦
          let first : s.x ≡ x = sym (same_prefix x s.x rest s.rest cut same) in
          elim (best.best s.xs (subst (λ r. Matches ps r s.xs) (sym (same_back x s.x rest s.rest cut same)) s.after)) [
            | inl equal ↦ inl (s.spans_are ∙ ap (λ (y : List ℕ). y ∷ s.xs) first ∙ ap (λ (ys : List (List ℕ)). x ∷ ys) equal)
            | inr p ↦ inr (subst (IsPreferred (FieldPiece name Plain ∷ ps) (x ∷ xs)) (sym s.spans_are) (inr (same, p)))
          ]
      | inr less ↦ inr (subst (IsPreferred (FieldPiece name Plain ∷ ps) (x ∷ xs)) (sym s.spans_are) (inl less))
    ]

plain_goes_on : (name : List ℕ) (ps : List PieceValue) (text x rest : List ℕ) → text ≡ x ++ rest → IsSpan Plain x → IsLeast ps text x rest → (found : Option (List FieldValue)) → IsMatchResult ps rest found
    → IsMatchResult (FieldPiece name Plain ∷ ps) text (option_map (λ (fields : List FieldValue). values_of (FieldPiece name Plain) x ++ fields) found)
plain_goes_on name ps text x rest e fit least None h = grind (arith, common_steps)
plain_goes_on name ps text x rest e fit least (Some fields) h =
    let both : IsBestMatch (FieldPiece name Plain ∷ ps) text (x ∷ h.0) = record {
      matches = join (FieldPiece name Plain) ps text x rest h.0 fit e h.1.matches;
      best = least_is_best name ps text x rest h.0 e fit least h.1;
    } in
    (x ∷ h.0, both, ap (λ (v : List FieldValue). TextField x ∷ v) h.2)

plain_end : (name : List ℕ) (ps : List PieceValue) (text x rest : List ℕ) → IsUtf8 text → text ≡ x ++ rest → IsSpan Plain x → IsLeast ps text x rest → TakesUpTo (FieldPiece name Plain) ps text (length x)
plain_end name ps text x rest whole e fit least = record {
  boundary = boundary_after text x rest whole e fit.0;
  takes = subst (IsSpan Plain) (sym (taken text x rest e)) fit;
  goes_on = λ found h. subst (λ t. IsMatchResult (FieldPiece name Plain ∷ ps) text (option_map (λ (fields : List FieldValue). values_of (FieldPiece name Plain) t ++ fields) found)) (sym (taken text x rest e))
      (plain_goes_on name ps text x rest e fit least found (subst (λ r. IsMatchResult ps r found) (left text x rest e) h));
}

-- a plain field alone
pub all_end : (name : List ℕ) (text : List ℕ) → IsUtf8 text → 0 < length text → TakesUpTo (FieldPiece name Plain) [] text (length text)
all_end name text whole some = plain_end name [] text text [] whole (sym (append-nil text)) (whole, some) (λ y other ys fit e m.
    let none : other ≡ [] = nothing_left other ys m in
    let same : length text ≡ length y = ap length (e ∙ ap (λ o. y ++ o) none ∙ append-nil y) in
    (omega arith, ([], (best_nothing [] refl).matches)))

-- before the last literal
only_literal : (literal other : List ℕ) (ys : List (List ℕ)) → Matches (Literal literal ∷ []) other ys → other ≡ literal
only_literal literal other ys m = m.whole ∙ append-nil literal

pub last_end : (name literal text x : List ℕ) → IsUtf8 text → IsUtf8 literal → length literal < length text → text ≡ x ++ literal → TakesUpTo (FieldPiece name Plain) (Literal literal ∷ []) text (length x)
last_end name literal text x whole part less e =
    let some : 0 < length x = omega (arith, ap length e, length-append x literal) in
    plain_end name (Literal literal ∷ []) text x literal whole e (utf8_front x literal (subst IsUtf8 e whole) part, some) (λ y other ys fit cut m.
    let same : length x + length literal ≡ length y + length literal = sym (length-append x literal) ∙ ap length (sym e ∙ cut ∙ ap (λ o. y ++ o) (only_literal literal other ys m)) ∙ length-append y literal in
    (omega arith, ([], record { spans_fit = tt; whole = sym (append-nil literal) })))

-- before a literal that a plain field comes after
stands_after : (literal text y other : List ℕ) (ps : List PieceValue) (ys : List (List ℕ)) → IsUtf8 text → text ≡ y ++ other → IsUtf8 y → Matches (Literal literal ∷ ps) other ys → CanStandAt literal text (length y)
stands_after literal text y other ps ys whole e part m =
    let s = split (Literal literal) ps other ys m in
    record { boundary = boundary_after text y other whole e part; rest = s.rest; stands = left text y other e ∙ s.whole ∙ ap (λ x. x ++ s.rest) s.takes }

field_match : (literal name : List ℕ) (after : List PieceValue) (text x more : List ℕ) → IsUtf8 text → IsUtf8 literal → IsUtf8 x → text ≡ x ++ (literal ++ more)
    → (y other : List ℕ) (ys : List (List ℕ)) → IsSpan Plain y → text ≡ y ++ other → Matches (Literal literal ∷ FieldPiece name Plain ∷ after) other ys → length x ≤ length y
    → (zs : List (List ℕ)) × Matches (Literal literal ∷ FieldPiece name Plain ∷ after) (literal ++ more) zs
field_match literal name after text x more whole part front e y other ys fit cut m le =
    let s = split (Literal literal) (FieldPiece name Plain ∷ after) other ys m in
    let t = split (FieldPiece name Plain) after s.rest s.xs s.after in
    let one : text ≡ (x ++ literal) ++ more = e ∙ sym (append_assoc x literal more) in
    let two : text ≡ (y ++ literal) ++ s.rest = cut ∙ ap (λ o. y ++ o) (s.whole ∙ ap (λ l. l ++ s.rest) s.takes) ∙ sym (append_assoc y literal s.rest) in
    let sizes : length (x ++ literal) ≤ length (y ++ literal) = omega (arith, length-append x literal, length-append y literal) in
    let gap = longer (x ++ literal) more (y ++ literal) s.rest (sym one ∙ two) sizes in
    let more_utf8 : IsUtf8 more = utf8_back (x ++ literal) more (subst IsUtf8 one whole) (IsUtf8-append x literal front part) in
    let rest_utf8 : IsUtf8 s.rest = utf8_back (y ++ literal) s.rest (subst IsUtf8 two whole) (IsUtf8-append y literal fit.0 part) in
    let gap_utf8 : IsUtf8 gap.0 = utf8_front gap.0 s.rest (subst IsUtf8 gap.1 more_utf8) rest_utf8 in
    let some : 0 < length (gap.0 ++ t.x) = omega (arith, length-append gap.0 t.x, t.takes.1) in
    let whole_more : more ≡ (gap.0 ++ t.x) ++ t.rest = gap.1 ∙ ap (λ r. gap.0 ++ r) t.whole ∙ sym (append_assoc gap.0 t.x t.rest) in (
      (gap.0 ++ t.x) ∷ t.xs,
      join (Literal literal) (FieldPiece name Plain ∷ after) (literal ++ more) literal more ((gap.0 ++ t.x) ∷ t.xs) refl refl
          (join (FieldPiece name Plain) after more (gap.0 ++ t.x) t.rest t.xs (IsUtf8-append gap.0 t.x gap_utf8 t.takes.0, some) whole_more t.after),
    )

field_least : (literal name : List ℕ) (after : List PieceValue) (text x more : List ℕ) → IsUtf8 text → IsUtf8 literal → IsUtf8 x → text ≡ x ++ (literal ++ more) → StandsNowhereBefore literal text (length x) → IsLeast (Literal literal ∷ FieldPiece name Plain ∷ after) text x (literal ++ more)
field_least literal name after text x more whole part front e first y other ys fit cut m =
    elim (cases_lt (length y) (length x)) [
      | inl less ↦ absurd (first (length y) fit.1 less (stands_after literal text y other (FieldPiece name Plain ∷ after) ys whole cut fit.0 m))
      | inr le ↦ (le, field_match literal name after text x more whole part front e y other ys fit cut m le)
    ]

pub field_end : (name literal other : List ℕ) (after : List PieceValue) (text : List ℕ) (position : ℕ) → IsUtf8 text → IsUtf8 literal → IsFirst literal text position → TakesUpTo (FieldPiece name Plain) (Literal literal ∷ FieldPiece other Plain ∷ after) text position
field_end name literal other after text position whole part h =
    let x = take position text in
    let within : position ≤ length text = h.here.boundary.0 in
    let size : length x ≡ position = length-take-le position text within in
    let front : IsUtf8 x = IsUtf8-take text position whole h.here.boundary in
    let e : text ≡ x ++ (literal ++ h.here.rest) = sym (take-append-drop position text) ∙ ap (λ r. x ++ r) h.here.stands in
    let first : StandsNowhereBefore literal text (length x) = subst (StandsNowhereBefore literal text) (sym size) h.first in
    let some : 0 < length x = subst (λ n. 0 < n) (sym size) h.after in
    subst (TakesUpTo (FieldPiece name Plain) (Literal literal ∷ FieldPiece other Plain ∷ after) text) size
    (plain_end name (Literal literal ∷ FieldPiece other Plain ∷ after) text x (literal ++ h.here.rest) whole e (front, some) (field_least literal other after text x h.here.rest whole part front e first))

pub field_nowhere : (name literal : List ℕ) (ps : List PieceValue) (text : List ℕ) → IsUtf8 text → StandsNowhereBefore literal text (length text + 1) → MatchesNot (FieldPiece name Plain ∷ Literal literal ∷ ps) text
field_nowhere name literal ps text whole none = λ spans m.
    let s = split (FieldPiece name Plain) (Literal literal ∷ ps) text spans m in
    let within : length s.x < length text + 1 = omega (arith, ap length s.whole, length-append s.x s.rest) in
    none (length s.x) s.takes.1 within (stands_after literal text s.x s.rest ps s.xs whole s.whole s.takes.0 s.after)

-- a field that can take nothing else
abbrev IsOnly : FieldKind → List PieceValue → List ℕ → List ℕ → Type 0
IsOnly kind ps text x = (y other : List ℕ) (ys : List (List ℕ)) → IsSpan kind y → text ≡ y ++ other → Matches ps other ys → length y ≡ length x

only_is_best : (name : List ℕ) (kind : FieldKind) (ps : List PieceValue) (text x rest : List ℕ) (xs : List (List ℕ)) → text ≡ x ++ rest → IsOnly kind ps text x → IsBestMatch ps rest xs
    → (others : List (List ℕ)) → Matches (FieldPiece name kind ∷ ps) text others → (others ≡ x ∷ xs) ⊎ IsPreferred (FieldPiece name kind ∷ ps) (x ∷ xs) others
only_is_best name kind ps text x rest xs e only best others m =
    let s = split (FieldPiece name kind) ps text others m in
    let same : length x ≡ length s.x = sym (only s.x s.rest s.xs s.takes s.whole s.after) in
    let cut : x ++ rest ≡ s.x ++ s.rest = sym e ∙ s.whole in
    let first : s.x ≡ x = sym (same_prefix x s.x rest s.rest cut same) in
    elim (best.best s.xs (subst (λ r. Matches ps r s.xs) (sym (same_back x s.x rest s.rest cut same)) s.after)) [
      | inl equal ↦ inl (s.spans_are ∙ ap (λ (y : List ℕ). y ∷ s.xs) first ∙ ap (λ (ys : List (List ℕ)). x ∷ ys) equal)
      | inr p ↦ inr (subst (IsPreferred (FieldPiece name kind ∷ ps) (x ∷ xs)) (sym s.spans_are) (inr (same, p)))
    ]

only_goes_on : (name : List ℕ) (kind : FieldKind) (ps : List PieceValue) (text x rest : List ℕ) → text ≡ x ++ rest → IsSpan kind x → IsOnly kind ps text x → (found : Option (List FieldValue)) → IsMatchResult ps rest found
    → IsMatchResult (FieldPiece name kind ∷ ps) text (option_map (λ (fields : List FieldValue). values_of (FieldPiece name kind) x ++ fields) found)
only_goes_on name kind ps text x rest e fit only None h = λ spans m.
    let s = split (FieldPiece name kind) ps text spans m in
    let same : length x ≡ length s.x = sym (only s.x s.rest s.xs s.takes s.whole s.after) in
    h s.xs (subst (λ r. Matches ps r s.xs) (sym (same_back x s.x rest s.rest (sym e ∙ s.whole) same)) s.after)
only_goes_on name kind ps text x rest e fit only (Some fields) h =
    let both : IsBestMatch (FieldPiece name kind ∷ ps) text (x ∷ h.0) = record {
      matches = join (FieldPiece name kind) ps text x rest h.0 fit e h.1.matches;
      best = only_is_best name kind ps text x rest h.0 e only h.1;
    } in
    (x ∷ h.0, both, ap (λ (v : List FieldValue). span_value kind x ∷ v) h.2)

only_end : (name : List ℕ) (kind : FieldKind) (ps : List PieceValue) (text : List ℕ) (position : ℕ) → IsCharBoundary text position → IsSpan kind (take position text) → IsOnly kind ps text (take position text) → TakesUpTo (FieldPiece name kind) ps text position
only_end name kind ps text position boundary fit only = record {
  boundary = boundary;
  takes = fit;
  goes_on = only_goes_on name kind ps text (take position text) (drop position text) (sym (take-append-drop position text)) fit only;
}

-- before a literal that occurs once
occurs_later : (literal text : List ℕ) (position later : ℕ) → IsUtf8 text → position ≤ later → CanStandAt literal text later → CanStandAt literal (drop position text) (later - position)
occurs_later literal text position later whole le here =
    let there : drop (later - position) (drop position text) ≡ drop later text = drop-drop (later - position) position text ∙ ap (λ n. drop n text) (let sum : position + (later - position) ≡ later = omega arith in sum) in
    let within : later ≤ length text = here.boundary.0 in
    record {
      boundary = IsCharBoundary-from_drop (drop position text) (later - position) (omega (arith, length-drop position text, within)) (subst IsUtf8 (sym there) (IsUtf8-drop text later whole here.boundary));
      rest = here.rest;
      stands = there ∙ here.stands;
    }

once_only : (literal : List ℕ) (ps : List PieceValue) (text : List ℕ) (position : ℕ) → IsUtf8 text → IsFirst literal text position → StandsNowhereBefore literal (drop position text) (length (drop position text) + 1) → IsOnly Plain (Literal literal ∷ ps) text (take position text)
once_only literal ps text position whole h once y other ys fit e m =
    let here = stands_after literal text y other ps ys whole e fit.0 m in
    let within : position ≤ length text = h.here.boundary.0 in
    let size : length (take position text) ≡ position = length-take-le position text within in
    elim (cases_lt (length y) position) [
      | inl less ↦ absurd (h.first (length y) fit.1 less here)
      | inr le ↦ elim (eq-or-lt_of_le le) [
        | inl same ↦ sym same ∙ sym size
        | inr past ↦
            let most : length y ≤ length text = here.boundary.0 in
            absurd (once (length y - position) (omega (arith, past)) (omega (arith, most, past, length-drop position text)) (occurs_later literal text position (length y) whole le here))
      ]
    ]

pub once_end : (name literal : List ℕ) (ps : List PieceValue) (text : List ℕ) (position : ℕ) → IsUtf8 text → IsFirst literal text position → StandsNowhereBefore literal (drop position text) (length (drop position text) + 1) → TakesUpTo (FieldPiece name Plain) (Literal literal ∷ ps) text position
once_end name literal ps text position whole h once =
    let size : length (take position text) ≡ position = length-take-le position text h.here.boundary.0 in
    only_end name Plain (Literal literal ∷ ps) text position h.here.boundary (IsUtf8-take text position whole h.here.boundary, subst (λ n. 0 < n) (sym size) h.after) (once_only literal ps text position whole h once)

-- a number
pub literal_digit : (byte : ℕ) (bytes : List ℕ) (ps : List PieceValue) → (IsDigit byte → ⊥) → BeginWithoutDigit (Literal (byte ∷ bytes) ∷ ps)
literal_digit byte bytes ps never text spans m digit = never (subst IsDigit (ap (λ t. get_or t 0 0) m.whole) digit)

pub nothing_digit : BeginWithoutDigit []
nothing_digit text spans m digit = let none : get_or text 0 0 ≡ 0 = ap (λ t. get_or t 0 0) (nothing_left text spans m) in absurd (omega (arith, digit.0, none))

sign_dropped : (x : List ℕ) → (without_leading_sign x ≡ x) ⊎ (without_leading_sign x ≡ drop 1 x)
sign_dropped x = grind (arith, common_steps)

number_digits : (y : List ℕ) → IsSpan Decimal y → (position : ℕ) → 0 < position → position < length y → IsDigit (get_or y position 0)
number_digits y fit position some less = elim (sign_dropped y) [
  | inl same ↦ digits_range y (subst (AllDigits 10) same fit.0.1) position less
  | inr rest ↦
      let digit = digits_range (drop 1 y) (subst (AllDigits 10) rest fit.0.1) (position - 1) (omega (arith, some, less, length-drop 1 y)) in
      subst IsDigit (get_or-drop 1 y (position - 1) 0 ∙ ap (λ k. get_or y k 0) (let sum : 1 + (position - 1) ≡ position = omega (arith, some) in sum)) digit
]

pub number_tested : (b : Bool) (text : List ℕ) (end : ℕ) → IsCharBoundary text end → b ≡ is_some (number_of (take end text)) → MatchBool b (HasNumberTo text end) (HasNumberTo text end → ⊥)
number_tested true text end boundary e = (boundary, is_number_some (take end text) (sym e))
number_tested false text end boundary e = λ has. is_number_none (take end text) (sym e) has.1

get_after : (y other : List ℕ) → get_or (y ++ other) (length y) 0 ≡ get_or other 0 0
get_after [] other = refl
get_after (b ∷ y) other = get_after y other

number_size : (ps : List PieceValue) (text : List ℕ) (end : ℕ) → BeginWithoutDigit ps → IsDigitsEnd text end → (y other : List ℕ) (ys : List (List ℕ)) → IsSpan Decimal y → text ≡ y ++ other → Matches ps other ys → length y ≡ end
number_size ps text end none h y other ys fit e m =
    elim (cases_lt (length y) end) [
      | inl less ↦ absurd (none other ys m (subst IsDigit (ap (λ t. get_or t (length y) 0) e ∙ get_after y other) (h.digits (length y) (decimal_some y fit) less)))
      | inr le ↦ elim (eq-or-lt_of_le le) [
        | inl same ↦ sym same
        | inr past ↦ absurd (h.other (subst IsDigit (sym (get_or_append_left y other 0 end past) ∙ ap (λ t. get_or t end 0) (sym e)) (number_digits y fit end h.after past)))
      ]
    ]

pub number_end : (name : List ℕ) (ps : List PieceValue) (text : List ℕ) (end : ℕ) → HasNumberTo text end → BeginWithoutDigit ps → IsDigitsEnd text end → TakesUpTo (FieldPiece name Decimal) ps text end
number_end name ps text end has none h = only_end name Decimal ps text end has.0 has.1 (λ y other ys takes e m. number_size ps text end none h y other ys takes e m ∙ sym (length-take-le end text has.0.0))

pub number_nowhere : (name : List ℕ) (ps : List PieceValue) (text : List ℕ) (end : ℕ) → IsUtf8 text → (HasNumberTo text end → ⊥) → BeginWithoutDigit ps → IsDigitsEnd text end → MatchesNot (FieldPiece name Decimal ∷ ps) text
number_nowhere name ps text end whole never none h = λ spans m.
    let s = split (FieldPiece name Decimal) ps text spans m in
    let size : length s.x ≡ end = number_size ps text end none h s.x s.rest s.xs s.takes s.whole s.after in
    never (
      subst (IsCharBoundary text) size (boundary_after text s.x s.rest whole s.whole (decimal_utf8 s.x s.takes)),
      subst (IsSpan Decimal) (sym (taken text s.x s.rest s.whole) ∙ ap (λ n. take n text) size) s.takes,
    )

pub first_more : (literal text : List ℕ) (position : ℕ) → StandsNowhereBefore literal text position → (CanStandAt literal text position → ⊥) → StandsNowhereBefore literal text (position + 1)
first_more literal text position before never = λ other some less here. elim (cases_lt other position) [
  | inl smaller ↦ before other some smaller here
  | inr le ↦ let same : other ≡ position = omega arith in never (subst (CanStandAt literal text) same here)
]

-- a literal that begins with a byte
pub other_byte : (first : ℕ) (others literal text : List ℕ) (position : ℕ) → literal ≡ first ∷ others → position < length text → (get_or text position 0 ≡ first → ⊥) → CanStandAt literal text position → ⊥
other_byte first others literal text position begins within other here = grind (arith, common_steps)

-- a literal that is longer than what is left of a text
pub no_room : (literal text : List ℕ) (end : ℕ) → length text < end + length literal → StandsNowhereBefore literal text end → StandsNowhereBefore literal text (length text + 1)
no_room literal text end short before = λ other some less here. elim (cases_lt other end) [
  | inl smaller ↦ before other some smaller here
  | inr le ↦
      let size : length text - other ≡ length literal + length here.rest = sym (length-drop other text) ∙ ap length here.stands ∙ length-append literal here.rest in
      absurd (omega (arith, size, le, less, short))
]

-- the pieces that are left

pub finds_more : (fields fields' : List FieldValue) (piece : PieceValue) (others : List PieceValue) (rest : List ℕ) (position : ℕ) → TakesUpTo piece others rest position → fields' ≡ fields ++ values_of piece (take position rest)
    → (found : Option (List FieldValue)) → FindsRest fields' others (drop position rest) found → FindsRest fields (piece ∷ others) rest found
finds_more fields fields' piece others rest position cut e found h = grind (arith, common_steps)

-- what is left after the literal that a pattern begins with, or from the beginning
abbrev pub IsCutOrWhole : List PieceValue → List ℕ → List PieceValue → List ℕ → Type 0
IsCutOrWhole ps text left rest = ((left ≡ ps) × (rest ≡ text)) ⊎ ((literal : List ℕ) × (ps ≡ Literal literal ∷ left) × (text ≡ literal ++ rest))

pub cut_or_whole : (ps : List PieceValue) (text : List ℕ) (left : List PieceValue) (rest : List ℕ) → IsAfterStart ps text left rest → IsCutOrWhole ps text left rest
cut_or_whole [] text left rest same = inl same
cut_or_whole (Literal literal ∷ ps) text left rest cut = inr (literal, ap (λ (ls : List PieceValue). Literal literal ∷ ls) (sym cut.0), cut.1)
cut_or_whole (FieldPiece name kind ∷ ps) text left rest same = inl same

pub left_after_start : (ps : List PieceValue) (text : List ℕ) (left : List PieceValue) (rest : List ℕ) → IsCutOrWhole ps text left rest → IsLeft ps text [] left rest
left_after_start ps text left rest (inl same) = grind (arith, common_steps)
left_after_start ps text left rest (inr cut) = λ found h. subst (λ qs. IsMatchResult qs text (option_map (λ (fields : List FieldValue). fields) found)) (sym cut.1) (literal_goes_on cut.0 left text rest cut.2 found h)

pub left_nothing : (ps : List PieceValue) (text : List ℕ) (fields : List FieldValue) (rest : List ℕ) → IsLeft ps text fields [] rest → length rest ≡ 0 → IsMatchResult ps text (Some fields)
left_nothing ps text fields [] known e = subst (λ (v : List FieldValue). IsMatchResult ps text (Some v)) (append-nil fields) (known (Some []) ([], best_nothing [] refl, refl))
left_nothing ps text fields (b ∷ rest) known e = absurd (omega arith)

pub left_over : (ps : List PieceValue) (text : List ℕ) (fields : List FieldValue) (rest : List ℕ) → IsLeft ps text fields [] rest → 0 < length rest → IsMatchResult ps text None
left_over ps text fields rest known some = known None (λ spans m. let none : length rest ≡ 0 = ap length (nothing_left rest spans m) in omega arith)

pub stands : (b : Bool) (literal text : List ℕ) (position : ℕ) → starts_with nat_eq (drop position text) literal ≡ true → (IsTrue b ↔ IsCharBoundary text position) → MatchBool b (CanStandAt literal text position) (CanStandAt literal text position → ⊥)
stands true literal text position e test = record { boundary = test.0 refl; rest = drop (length literal) (drop position text); stands = begins_so (drop position text) literal e }
stands false literal text position e test = λ here. let bad : false ≡ true = test.1 here.boundary in let none : ⊥ = cc in none

pub stands_not : (literal text : List ℕ) (position : ℕ) → starts_with nat_eq (drop position text) literal ≡ false → CanStandAt literal text position → ⊥
stands_not literal text position e here = grind (arith, common_steps, begins_with_itself, nat_eq)

pub match_not : (b : Bool) (literal text : List ℕ) (position : ℕ) → b ≡ false → starts_with nat_eq (drop position text) literal ≡ false → MatchBool b (CanStandAt literal text position) (CanStandAt literal text position → ⊥)
match_not true literal text position is e = let bad : ⊥ = cc in absurd bad
match_not false literal text position is e = stands_not literal text position e

pub compared : (b : Bool) (bytes word text literal : List ℕ) (position : ℕ) → b ≡ starts_with nat_eq (take (length bytes - position) (drop position bytes)) word → bytes ≡ text → word ≡ literal → starts_with nat_eq (drop position text) literal ≡ b
compared b bytes word text literal position e same equal = grind (arith, common_steps)

-- pieces, taken apart
pub none_left : {A : Type 0} (xs : List A) → length xs ≡ 0 → xs ≡ []
none_left [] e = refl
none_left (x ∷ xs) e = absurd (omega arith)

pub first_and_rest : (pieces : List Piece) (first : Piece) (rest : List Piece) (value : PieceValue) → pieces ≡ first ∷ rest → piece_value first ≡ value → map piece_value pieces ≡ value ∷ map piece_value rest
first_and_rest pieces first rest value e is = ap (map piece_value) e ∙ ap (λ (v : PieceValue). v ∷ map piece_value rest) is

-- a piece that may need a table
pub table_after : (done left ps : List PieceValue) → done ++ left ≡ ps → MayNeedTable left → MayNeedTable ps
table_after [] left ps e t = subst MayNeedTable e t
table_after (p ∷ done) left [] e t = let bad : ⊥ = cc in absurd bad
table_after (p ∷ done) left (q ∷ ps) e t = inr (table_after done left ps (ap (λ xs. drop 1 xs) e) t)

-- a literal after all pieces
spans_more : (ps : List PieceValue) (literal : List ℕ) (spans : List (List ℕ)) → AreSpans ps spans → AreSpans (ps ++ Literal literal ∷ []) spans
spans_more [] literal spans h = h
spans_more (Literal text ∷ ps) literal spans h = spans_more ps literal spans h
spans_more (FieldPiece name kind ∷ ps) literal [] h = h
spans_more (FieldPiece name kind ∷ ps) literal (span ∷ spans) h = (h.0, spans_more ps literal spans h.1)

spans_less : (ps : List PieceValue) (literal : List ℕ) (spans : List (List ℕ)) → AreSpans (ps ++ Literal literal ∷ []) spans → AreSpans ps spans
spans_less [] literal spans h = h
spans_less (Literal text ∷ ps) literal spans h = spans_less ps literal spans h
spans_less (FieldPiece name kind ∷ ps) literal [] h = h
spans_less (FieldPiece name kind ∷ ps) literal (span ∷ spans) h = (h.0, spans_less ps literal spans h.1)

woven_more : (ps : List PieceValue) (literal : List ℕ) (spans : List (List ℕ)) → AreSpans ps spans → woven (ps ++ Literal literal ∷ []) spans ≡ woven ps spans ++ literal
woven_more [] literal [] h = append-nil literal
woven_more [] literal (span ∷ spans) h = absurd h
woven_more (Literal text ∷ ps) literal spans h = ap (λ (l : List ℕ). text ++ l) (woven_more ps literal spans h) ∙ sym (append_assoc text (woven ps spans) literal)
woven_more (FieldPiece name kind ∷ ps) literal [] h = absurd h
woven_more (FieldPiece name kind ∷ ps) literal (span ∷ spans) h = ap (λ (l : List ℕ). span ++ l) (woven_more ps literal spans h.1) ∙ sym (append_assoc span (woven ps spans) literal)

preferred_more : (ps : List PieceValue) (literal : List ℕ) (xs ys : List (List ℕ)) → IsPreferred ps xs ys → IsPreferred (ps ++ Literal literal ∷ []) xs ys
preferred_more [] literal xs ys h = absurd h
preferred_more (Literal text ∷ ps) literal xs ys h = preferred_more ps literal xs ys h
preferred_more (FieldPiece name kind ∷ ps) literal [] ys h = h
preferred_more (FieldPiece name kind ∷ ps) literal (x ∷ xs) [] h = h
preferred_more (FieldPiece name kind ∷ ps) literal (x ∷ xs) (y ∷ ys) (inl h) = inl h
preferred_more (FieldPiece name kind ∷ ps) literal (x ∷ xs) (y ∷ ys) (inr h) = inr (h.0, preferred_more ps literal xs ys h.1)

values_more : (ps : List PieceValue) (literal : List ℕ) (spans : List (List ℕ)) → span_values (ps ++ Literal literal ∷ []) spans ≡ span_values ps spans
values_more [] literal spans = refl
values_more (Literal text ∷ ps) literal spans = values_more ps literal spans
values_more (FieldPiece name kind ∷ ps) literal [] = refl
values_more (FieldPiece name kind ∷ ps) literal (span ∷ spans) = ap (λ (vs : List FieldValue). span_value kind span ∷ vs) (values_more ps literal spans)

match_less : (ps : List PieceValue) (literal text : List ℕ) (spans : List (List ℕ)) → Matches (ps ++ Literal literal ∷ []) (text ++ literal) spans → Matches ps text spans
match_less ps literal text spans m =
    let fit = spans_less ps literal spans m.spans_fit in
    let whole : text ++ literal ≡ woven ps spans ++ literal = m.whole ∙ woven_more ps literal spans fit in
    let size : length text ≡ length (woven ps spans) = omega (arith, ap length whole, length-append text literal, length-append (woven ps spans) literal) in
    record { spans_fit = fit; whole = same_prefix text (woven ps spans) literal literal whole size }

with_last : (ps : List PieceValue) (literal text : List ℕ) (found : Option (List FieldValue)) → IsMatchResult ps text found → IsMatchResult (ps ++ Literal literal ∷ []) (text ++ literal) found
with_last ps literal text None h = λ spans m. h spans (match_less ps literal text spans m)
with_last ps literal text (Some found) h = grind (arith, common_steps, spans_more, woven_more, match_less, preferred_more, values_more)

pub finds_last : (fields : List FieldValue) (ps : List PieceValue) (literal text whole : List ℕ) → whole ≡ text ++ literal → (found : Option (List FieldValue)) → FindsRest fields ps text found → FindsRest fields (ps ++ Literal literal ∷ []) whole found
finds_last fields ps literal text whole e found h = λ qs t known. h qs t (λ o r. known o (subst (λ w. IsMatchResult (ps ++ Literal literal ∷ []) w o) (sym e) (with_last ps literal text o r)))

pub last_too_long : (ps : List PieceValue) (literal text : List ℕ) → length text < length literal → MatchesNot (ps ++ Literal literal ∷ []) text
last_too_long ps literal text less = grind (arith, common_steps, woven_more, spans_less, length-append)

pub table_more : (ps : List PieceValue) (literal : List ℕ) → MayNeedTable ps → MayNeedTable (ps ++ Literal literal ∷ [])
table_more [] literal h = absurd h
table_more (p ∷ ps) literal (inl h) = grind (arith, common_steps)
table_more (p ∷ ps) literal (inr h) = inr (table_more ps literal h)

pub table_of_left : (ps : List PieceValue) (text : List ℕ) (left : List PieceValue) (rest : List ℕ) → IsCutOrWhole ps text left rest → MayNeedTable left → MayNeedTable ps
table_of_left ps text left rest (inl same) t = subst MayNeedTable same.0 t
table_of_left ps text left rest (inr cut) t = subst MayNeedTable (sym cut.1) (inr t)

-- what is left of a text after its start ends with the last literal, if it isn't shorter
fits_last : (front : List PieceValue) (literal text : List ℕ) → FitsEnd (front ++ Literal literal ∷ []) text → EndsWith text literal
fits_last [] literal text h = h
fits_last (p ∷ []) literal text h = h
fits_last (p ∷ q ∷ front) literal text h = fits_last (q ∷ front) literal text h

pub ends_after : (ps : List PieceValue) (text : List ℕ) (left : List PieceValue) (rest : List ℕ) (middle : List PieceValue) (literal : List ℕ) → IsCutOrWhole ps text left rest → left ≡ middle ++ Literal literal ∷ [] → FitsEnd ps text → length literal ≤ length rest → EndsWith rest literal
ends_after ps text left rest middle literal (inl same) e h le = subst (λ t. EndsWith t literal) (sym same.1) (fits_last middle literal text (subst (λ qs. FitsEnd qs text) (sym same.0 ∙ e) h))
ends_after ps text left rest middle literal (inr cut) e h le =
    let ends = fits_last (Literal cut.0 ∷ middle) literal text (subst (λ qs. FitsEnd qs text) (cut.1 ∙ ap (λ (ls : List PieceValue). Literal cut.0 ∷ ls) e) h) in
    let size : length cut.0 ≤ length ends.0 = omega (arith, ap length (sym cut.2 ∙ ends.1), length-append cut.0 rest, length-append ends.0 literal, le) in
    longer cut.0 rest ends.0 literal (sym cut.2 ∙ ends.1) size

-- a text that ends with a literal may be cut before it
pub cut_before : (text literal : List ℕ) → IsUtf8 literal → EndsWith text literal → IsCharBoundary text (length text - length literal) × (drop (length text - length literal) text ≡ literal)
cut_before text literal part ends = grind (arith, common_steps, length-append, left, IsCharBoundary-from_drop)
