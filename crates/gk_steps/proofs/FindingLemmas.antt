-- The search over a library.
use Rattle.gk_steps.proofs.Common.{◌≡◌, ℕ, zero, suc, ◌+◌, ◌<◌, ◌≤◌, ◌⊎◌, inl, inr, Bool, true, false, List, [], ◌∷◌, length, map, get_or, Option, Some, None, refl, ap, sym, subst, ◌∙◌, arith, common_steps, slice_get, Result, Ok, Err, IfErr, option_or, eq-or-lt_of_le, length-map, StepType, Plain, Decimal, Entry, PieceValue, Literal, FieldPiece, FitsStart, FitsEnd, AreSpans, MatchesNot, IsMatchResult, FieldValue, span_values, EntryValue, LibraryValue, FoundValue, entry_value, HasCandidate, HasTableCandidate, MayNeedTable, NoneFound, NoneBefore, IsFirstFound, IsFoundOf, IsFound, IsFoundAny, is_of_type, match_where, found_at, found_from, found, found_any, HaveKindsOf, FitsLibrary, FindsWhatIsFound}
use Rattle.gk_steps.proofs.MatchingLemmas.{one_result}
use Rattle.gk_steps.proofs.BestMatchLemmas.{match_of_is}

pub same_option : {A : Type 0} (x y : A) → ◌≡◌ {A = Option A} (Some x) (Some y) → x ≡ y
same_option x y e = cc

pub entry_at : (entries : List Entry) (i : ℕ) (x : Entry) → i < length entries → x ≡ get_or entries i x → slice_get (map entry_value entries) i ≡ Some (entry_value x)
entry_at [] i x l e = absurd (omega arith)
entry_at (y ∷ ys) zero x l e = ap (λ z. Some (entry_value z)) (sym e)
entry_at (y ∷ ys) (suc i) x l e = entry_at ys i x (omega arith) e

within : (entries : List EntryValue) (k : ℕ) (e : EntryValue) → slice_get entries k ≡ Some e → k < length entries
within [] k e is = let bad : ⊥ = cc in absurd bad
within (x ∷ xs) zero e is = omega arith
within (x ∷ xs) (suc k) e is = let less = within xs k e is in omega arith

-- one entry more without a match
pub none_more : (entries : List Entry) (step_type : Option StepType) (text : List ℕ) (position : ℕ) (x : Entry) → position < length entries → x ≡ get_or entries position x → (x.step_type ≡ step_type → MatchesNot (entry_value x).pattern text) → NoneBefore position (map entry_value entries) step_type text → NoneBefore (position + 1) (map entry_value entries) step_type text
none_more entries step_type text position x l e not_here h = λ earlier other less is same. elim (let most : earlier ≤ position = omega arith in eq-or-lt_of_le most) [
  | inr old ↦ h earlier other old is same
  | inl here ↦
      let other_is : entry_value x ≡ other = same_option (entry_value x) other (sym (entry_at entries position x l e) ∙ ap (slice_get (map entry_value entries)) (sym here) ∙ is) in
      subst (λ (v : EntryValue). MatchesNot v.pattern text) other_is (not_here (ap (λ (v : EntryValue). v.step_type) other_is ∙ same))
]

pub none_all : (entries : List Entry) (step_type : Option StepType) (text : List ℕ) (position : ℕ) → length entries ≤ position → NoneBefore position (map entry_value entries) step_type text → NoneFound (map entry_value entries) step_type text
none_all entries step_type text position past h = λ k e is same. h k e (omega (arith, within (map entry_value entries) k e is, length-map entries entry_value)) is same

pub first_at : (entries : List Entry) (step_type : Option StepType) (text : List ℕ) (position : ℕ) (x : Entry) (fields : List FieldValue) → position < length entries → x ≡ get_or entries position x → x.step_type ≡ step_type → IsMatchResult (entry_value x).pattern text (Some fields) → NoneBefore position (map entry_value entries) step_type text
    → IsFirstFound (map entry_value entries) step_type text (record { entry = position; fields = fields })
first_at entries step_type text position x fields l e is found h = record { entry = entry_value x; position = entry_at entries position x l e; is_type = is; fields = found; first = h }

-- what holds holds of a fault
pub of_fault : {T E P : Type 0} (r : Result T E) → P → IfErr r (λ e. P)
of_fault (Ok x) p = tt
of_fault (Err e) p = p

-- the entry at a position whose ends a text has
pub candidate : (entries : List Entry) (step_type : Option StepType) (text : List ℕ) (position : ℕ) (x : Entry) → position < length entries → x ≡ get_or entries position x → x.step_type ≡ step_type → FitsStart (entry_value x).pattern text × FitsEnd (entry_value x).pattern text
    → HasCandidate (map entry_value entries) step_type text
candidate entries step_type text position x l e is fits = record { position = position; entry = entry_value x; stands = entry_at entries position x l e; is_type = is; prefix = fits.0; back = fits.1 }

pub table_candidate : (entries : List Entry) (step_type : Option StepType) (text : List ℕ) (position : ℕ) (x : Entry) → position < length entries → x ≡ get_or entries position x → x.step_type ≡ step_type → FitsStart (entry_value x).pattern text × FitsEnd (entry_value x).pattern text
    → MayNeedTable (entry_value x).pattern → HasTableCandidate (map entry_value entries) step_type text
table_candidate entries step_type text position x l e is fits table = record { position = position; entry = entry_value x; stands = entry_at entries position x l e; is_type = is; prefix = fits.0; back = fits.1; table = table }

pub none_refused : {P : Type 0} → ⊥ ⊎ P → P
none_refused (inl never) = absurd never
none_refused (inr p) = p

pub either_more : {T E : Type 0} (r : Result T E) (A P Q : Type 0) → (P → Q) → IfErr r (λ e. A ⊎ P) → IfErr r (λ e. A ⊎ Q)
either_more (Ok x) A P Q f h = tt
either_more (Err e) A P Q f (inl a) = inl a
either_more (Err e) A P Q f (inr p) = inr (f p)

-- the computed test of types

-- what is found among entries of which the first has the position base
abbrev IsFoundFrom : ℕ → LibraryValue → Option StepType → List ℕ → Option FoundValue → Type 0
IsFoundFrom base es step_type text None = NoneFound es step_type text
IsFoundFrom base es step_type text (Some f) = (k : ℕ) × (f.entry ≡ base + k) × IsFirstFound es step_type text (record { entry = k; fields = f.fields })

earlier_not : (e : EntryValue) (es : LibraryValue) (step_type : Option StepType) (text : List ℕ) (k : ℕ) → (e.step_type ≡ step_type → MatchesNot e.pattern text)
    → ((earlier : ℕ) (other : EntryValue) → earlier < k → slice_get es earlier ≡ Some other → other.step_type ≡ step_type → MatchesNot other.pattern text)
    → (earlier : ℕ) (other : EntryValue) → earlier < suc k → slice_get (e ∷ es) earlier ≡ Some other → other.step_type ≡ step_type → MatchesNot other.pattern text
earlier_not e es step_type text k h more zero other less is same = subst (λ (x : EntryValue). MatchesNot x.pattern text) (same_option e other is) (h (ap (λ (x : EntryValue). x.step_type) (same_option e other is) ∙ same))
earlier_not e es step_type text k h more (suc j) other less is same = more j other (omega arith) is same

later_found : (e : EntryValue) (es : LibraryValue) (step_type : Option StepType) (text : List ℕ) (base : ℕ) (o : Option FoundValue) → (e.step_type ≡ step_type → MatchesNot e.pattern text) → IsFoundFrom (suc base) es step_type text o → IsFoundFrom base (e ∷ es) step_type text o
later_found e es step_type text base None h more = grind (arith, common_steps)
later_found e es step_type text base (Some f) h more =
    let i = more.2 in
    (suc more.0, omega (arith, more.1), record { entry = i.entry; position = i.position; is_type = i.is_type; fields = i.fields; first = earlier_not e es step_type text more.0 h i.first })

-- what a pattern finds where its entry is of the type
abbrev IsWhere : EntryValue → Option StepType → List ℕ → Option (List FieldValue) → Type 0
IsWhere e step_type text None = e.step_type ≡ step_type → MatchesNot e.pattern text
IsWhere e step_type text (Some fields) = (e.step_type ≡ step_type) × IsMatchResult e.pattern text (Some fields)

where_is : (e : EntryValue) (step_type : Option StepType) (text : List ℕ) (b : Bool) → is_of_type e.step_type step_type ≡ b → IsWhere e step_type text (match_where b e.pattern text)
where_is e step_type text true is = grind (arith, common_steps, match_of_is)
where_is e step_type text false is = grind (arith, common_steps)

first_found : (e : EntryValue) (es : LibraryValue) (step_type : Option StepType) (text : List ℕ) (base : ℕ) (o : Option (List FieldValue)) (later : Option FoundValue) → IsWhere e step_type text o → IsFoundFrom (suc base) es step_type text later
    → IsFoundFrom base (e ∷ es) step_type text (elim o [ Some fields ↦ Some (found_at base fields) | None ↦ later ])
first_found e es step_type text base (Some fields) later h more = (0, omega arith, record { entry = e; position = refl; is_type = h.0; fields = h.1; first = λ earlier other less is same. absurd (omega arith) })
first_found e es step_type text base None later h more = later_found e es step_type text base later h more

found_from_is : (es : LibraryValue) (step_type : Option StepType) (text : List ℕ) (base : ℕ) → IsFoundFrom base es step_type text (found_from base es step_type text)
found_from_is [] step_type text base = grind (arith, common_steps)
found_from_is (e ∷ es) step_type text base = grind (arith, common_steps, first_found, where_is, found_from_is es step_type text (suc base))

from_zero : (es : LibraryValue) (step_type : Option StepType) (text : List ℕ) (o : Option FoundValue) → IsFoundFrom 0 es step_type text o → IsFoundOf es step_type text o
from_zero es step_type text None h = h
from_zero es step_type text (Some f) h = grind (arith, common_steps)

pub of_is : (es : LibraryValue) (step_type : Option StepType) (text : List ℕ) → IsFoundOf es step_type text (found_from 0 es step_type text)
of_is es step_type text = from_zero es step_type text (found_from 0 es step_type text) (found_from_is es step_type text 0)

-- what is found among the entries of one type is determined
refuses : (e : EntryValue) (text : List ℕ) (fields : List FieldValue) → IsMatchResult e.pattern text (Some fields) → MatchesNot e.pattern text → ⊥
refuses e text fields h never = never h.0 h.1.matches

same_position : (es : LibraryValue) (step_type : Option StepType) (text : List ℕ) (f g : FoundValue) (h : IsFirstFound es step_type text f) (k : IsFirstFound es step_type text g) → f.entry < g.entry → ⊥
same_position es step_type text f g h k less = refuses h.entry text f.fields h.fields (k.first f.entry h.entry less h.position h.is_type)

both_found : (es : LibraryValue) (step_type : Option StepType) (text : List ℕ) (f g : FoundValue) (h : IsFirstFound es step_type text f) (k : IsFirstFound es step_type text g) → f.entry ≡ g.entry → f ≡ g
both_found es step_type text f g h k e =
    let entries : h.entry ≡ k.entry = same_option h.entry k.entry (sym h.position ∙ ap (slice_get es) e ∙ k.position) in
    let fields : f.fields ≡ g.fields = same_option f.fields g.fields (one_result k.entry.pattern text (Some f.fields) (Some g.fields) (subst (λ (x : EntryValue). IsMatchResult x.pattern text (Some f.fields)) entries h.fields) k.fields) in
    ap (λ n. let x : FoundValue = record { entry = n; fields = f.fields } in x) e ∙ ap (λ fs. let x : FoundValue = record { entry = g.entry; fields = fs } in x) fields

two_found : (es : LibraryValue) (step_type : Option StepType) (text : List ℕ) (f g : FoundValue) (h : IsFirstFound es step_type text f) (k : IsFirstFound es step_type text g) → f ≡ g
two_found es step_type text f g h k =
    let not_more : f.entry ≤ g.entry = omega (arith, same_position es step_type text g f k h) in
    elim (eq-or-lt_of_le not_more) [ inl e ↦ both_found es step_type text f g h k e | inr less ↦ absurd (same_position es step_type text f g h k less) ]

pub one_of : (es : LibraryValue) (step_type : Option StepType) (text : List ℕ) (a b : Option FoundValue) → IsFoundOf es step_type text a → IsFoundOf es step_type text b → a ≡ b
one_of es step_type text None None h k = refl
one_of es step_type text None (Some g) h k = grind (arith, common_steps)
one_of es step_type text (Some f) None h k = grind (arith, common_steps)
one_of es step_type text (Some f) (Some g) h k = ap Some (two_found es step_type text f g h k)

-- what the code finds among the entries of one type is what the definitions compute
pub of_computed : (es : LibraryValue) (step_type : Option StepType) (text : List ℕ) (a : Option FoundValue) → IsFoundOf es step_type text a → a ≡ found_from 0 es step_type text
of_computed es step_type text a h = one_of es step_type text a (found_from 0 es step_type text) h (of_is es step_type text)

pub any_computed : (es : LibraryValue) (text : List ℕ) (a : Option FoundValue) → IsFoundOf es None text a → a ≡ found_any es text
unfolding found_any
any_computed es text a h = of_computed es None text a h

pub own_computed : (es : LibraryValue) (step_type : StepType) (text : List ℕ) (f : FoundValue) → IsFoundOf es (Some step_type) text (Some f) → Some f ≡ found es step_type text
unfolding found
own_computed es step_type text f h = ap (λ o. option_or o (found_from 0 es None text)) (of_computed es (Some step_type) text (Some f) h)

pub other_computed : (es : LibraryValue) (step_type : StepType) (text : List ℕ) (a : Option FoundValue) → IsFoundOf es (Some step_type) text None → IsFoundOf es None text a → a ≡ found es step_type text
unfolding found
other_computed es step_type text a h k = of_computed es None text a k ∙ ap (λ o. option_or o (found_from 0 es None text)) (of_computed es (Some step_type) text None h)

-- the laws
found_is : (es : LibraryValue) (step_type : StepType) (text : List ℕ) → IsFound es step_type text (found es step_type text)
unfolding found
found_is es step_type text = grind (arith, common_steps, of_is)

found_only : (es : LibraryValue) (step_type : StepType) (text : List ℕ) (a : Option FoundValue) → IsFound es step_type text a → a ≡ found es step_type text
found_only es step_type text None h = other_computed es step_type text None h.0 h.1
found_only es step_type text (Some f) (inl h) = own_computed es step_type text f h
found_only es step_type text (Some f) (inr h) = other_computed es step_type text (Some f) h.0 h.1

found_any_is : (es : LibraryValue) (text : List ℕ) → IsFoundAny es text (found_any es text)
unfolding found_any
found_any_is es text = of_is es None text

have_kinds : (ps : List PieceValue) (spans : List (List ℕ)) → AreSpans ps spans → HaveKindsOf ps (span_values ps spans)
have_kinds [] [] h = tt
have_kinds [] (span ∷ spans) h = absurd h
have_kinds (Literal text ∷ ps) spans h = have_kinds ps spans h
have_kinds (FieldPiece name kind ∷ ps) [] h = absurd h
have_kinds (FieldPiece name Plain ∷ ps) (span ∷ spans) h = have_kinds ps spans h.1
have_kinds (FieldPiece name Decimal ∷ ps) (span ∷ spans) h = have_kinds ps spans h.1

first_fits : (es : LibraryValue) (step_type : Option StepType) (text : List ℕ) (f : FoundValue) → IsFirstFound es step_type text f → FitsLibrary es f
first_fits es step_type text f h = record { entry = h.entry; position = h.position; fields = subst (HaveKindsOf h.entry.pattern) (sym h.fields.2) (have_kinds h.entry.pattern h.fields.0 h.fields.1.matches.spans_fit) }

found_fits : (es : LibraryValue) (step_type : StepType) (text : List ℕ) (f : FoundValue) → IsFound es step_type text (Some f) → FitsLibrary es f
found_fits es step_type text f (inl h) = first_fits es (Some step_type) text f h
found_fits es step_type text f (inr h) = first_fits es None text f h.1

pub finds : FindsWhatIsFound
finds = record {
  is_found = found_is;
  only = found_only;
  is_found_any = found_any_is;
  only_any = any_computed;
  fits = found_fits;
  fits_any = λ es text f h. first_fits es None text f h;
}

-- where no entry of the own type has a match, what is found is what the entries of type `step` give
pub found_as_any : (es : LibraryValue) (step_type : StepType) (text : List ℕ) → IsFoundOf es (Some step_type) text None → found_any es text ≡ found es step_type text
unfolding found found_any
found_as_any es step_type text none = ap (λ o. option_or o (found_from 0 es None text)) (of_computed es (Some step_type) text None none)
