-- The computed match of a pattern is the preferred one.
use Rattle.gk_steps.proofs.Common.{◌≡◌, ℕ, ◌+◌, ◌<◌, ◌⊎◌, inl, inr, Bool, true, false, nat_lt, List, [], ◌∷◌, ◌++◌, length, take, drop, nat_eq, Option, Some, None, option_map, refl, ap, sym, ◌∙◌, arith, append_assoc, length-append, common_steps, starts_with, is_utf8, IsUtf8-from_is_utf8, is_utf8-from_IsUtf8, take-append-drop, take-append_seam, bytes_eq-Decides, FieldKind, Plain, Decimal, PieceValue, Literal, FieldPiece, IsSpan, woven, Matches, MatchesNot, IsPreferred, IsBestMatch, IsMatchResult, is_span, rest_where, spans_with, shortest_match, longest_match, field_match, best_match, match_of}
use Rattle.gk_steps.proofs.DecimalLemmas.{and_left, and_right, both, less_so, less_test, number_so, number_test}
use Rattle.gk_steps.proofs.MatchingLemmas.{same_prefix, same_back}

pub span_so : (kind : FieldKind) (x : List ℕ) → is_span kind x ≡ true → IsSpan kind x
span_so Plain x e = (IsUtf8-from_is_utf8 x (and_left (is_utf8 x) (nat_lt 0 (length x)) e), less_so 0 (length x) (and_right (is_utf8 x) (nat_lt 0 (length x)) e))
span_so Decimal x e = number_so x e

pub span_test : (kind : FieldKind) (x : List ℕ) → IsSpan kind x → is_span kind x ≡ true
span_test Plain x h = both (is_utf8 x) (nat_lt 0 (length x)) (is_utf8-from_IsUtf8 x h.0) (less_test 0 (length x) h.1)
span_test Decimal x h = number_test x h

not_empty : (kind : FieldKind) (x : List ℕ) → IsSpan kind x → 0 < length x
not_empty Plain x h = h.1
not_empty Decimal [] h = h.0.0
not_empty Decimal (c ∷ cs) h = omega arith

-- the spans of the preferred match, or that there is no match
abbrev pub IsBestResult : List PieceValue → List ℕ → Option (List (List ℕ)) → Type 0
IsBestResult ps text None = MatchesNot ps text
IsBestResult ps text (Some spans) = IsBestMatch ps text spans

-- a text that begins with a literal is the literal and the rest
pub begins_so : (text word : List ℕ) → starts_with nat_eq text word ≡ true → text ≡ word ++ drop (length word) text
begins_so text word h = sym (take-append-drop (length word) text) ∙ ap (λ prefix. prefix ++ drop (length word) text) (sym ((bytes_eq-Decides word (take (length word) text)).0 h))

pub begins_with_itself : (word rest : List ℕ) → starts_with nat_eq (word ++ rest) word ≡ true
begins_with_itself word rest = (bytes_eq-Decides word (take (length word) (word ++ rest))).1 (sym (take-append_seam word rest))

pub after_literal : (literal : List ℕ) (ps : List PieceValue) (text rest : List ℕ) (o : Option (List (List ℕ))) → text ≡ literal ++ rest → IsBestResult ps rest o → IsBestResult (Literal literal ∷ ps) text o
after_literal literal ps text rest None e h = λ spans m. h spans (record { spans_fit = m.spans_fit; whole = same_back literal literal rest (woven ps spans) (sym e ∙ m.whole) refl })
after_literal literal ps text rest (Some found) e h = grind (arith, common_steps, same_back)

literal_result : (literal : List ℕ) (ps : List PieceValue) (text : List ℕ) (rest_match : List ℕ → Option (List (List ℕ))) (b : Bool) → starts_with nat_eq text literal ≡ b → IsBestResult ps (drop (length literal) text) (rest_match (drop (length literal) text))
    → IsBestResult (Literal literal ∷ ps) text (rest_where b rest_match (drop (length literal) text))
literal_result literal ps text rest_match true e h = after_literal literal ps text (drop (length literal) text) (rest_match (drop (length literal) text)) (begins_so text literal e) h
literal_result literal ps text rest_match false e h = grind (arith, common_steps, begins_with_itself, nat_eq)

-- a match whose first span is longer than `taken`, preferred to each other such
pub record IsBestAbove (name : List ℕ) (kind : FieldKind) (ps : List PieceValue) (text : List ℕ) (taken : List ℕ) (y : List ℕ) (ys : List (List ℕ)) : Type 0 where
  pub above : length taken < length y
  pub matches : Matches (FieldPiece name kind ∷ ps) text (y ∷ ys)
  pub best : (x : List ℕ) (xs : List (List ℕ)) → Matches (FieldPiece name kind ∷ ps) text (x ∷ xs) → length taken < length x → (x ∷ xs ≡ y ∷ ys) ⊎ IsPreferred (FieldPiece name kind ∷ ps) (y ∷ ys) (x ∷ xs)

abbrev IsResultAbove : List ℕ → FieldKind → List PieceValue → List ℕ → List ℕ → Option (List (List ℕ)) → Type 0
IsResultAbove name kind ps text taken None = (x : List ℕ) (xs : List (List ℕ)) → Matches (FieldPiece name kind ∷ ps) text (x ∷ xs) → length taken < length x → ⊥
IsResultAbove name kind ps text taken (Some []) = ⊥
IsResultAbove name kind ps text taken (Some (y ∷ ys)) = IsBestAbove name kind ps text taken y ys

-- the same of the matches whose first span is as long as this one
pub record IsBestWith (name : List ℕ) (kind : FieldKind) (ps : List PieceValue) (text : List ℕ) (span : List ℕ) (y : List ℕ) (ys : List (List ℕ)) : Type 0 where
  pub size : length y ≡ length span
  pub matches : Matches (FieldPiece name kind ∷ ps) text (y ∷ ys)
  pub best : (x : List ℕ) (xs : List (List ℕ)) → Matches (FieldPiece name kind ∷ ps) text (x ∷ xs) → length x ≡ length span → (x ∷ xs ≡ y ∷ ys) ⊎ IsPreferred (FieldPiece name kind ∷ ps) (y ∷ ys) (x ∷ xs)

abbrev IsResultWith : List ℕ → FieldKind → List PieceValue → List ℕ → List ℕ → Option (List (List ℕ)) → Type 0
IsResultWith name kind ps text span None = (x : List ℕ) (xs : List (List ℕ)) → Matches (FieldPiece name kind ∷ ps) text (x ∷ xs) → length x ≡ length span → ⊥
IsResultWith name kind ps text span (Some []) = ⊥
IsResultWith name kind ps text span (Some (y ∷ ys)) = IsBestWith name kind ps text span y ys

with_rest : (name : List ℕ) (kind : FieldKind) (ps : List PieceValue) (text span rest : List ℕ) (o : Option (List (List ℕ))) → text ≡ span ++ rest → IsSpan kind span → IsBestResult ps rest o
    → IsResultWith name kind ps text span (option_map (λ spans. span ∷ spans) o)
with_rest name kind ps text span rest None e fit h = λ x xs m size.
    h xs (record { spans_fit = m.spans_fit.1; whole = same_back span x rest (woven ps xs) (sym e ∙ m.whole) (sym size) })
with_rest name kind ps text span rest (Some ss) e fit h = record {
  size = refl;
  matches = record { spans_fit = (fit, h.matches.spans_fit); whole = e ∙ ap (λ r. span ++ r) h.matches.whole };
  best = λ x xs m size.
      let cut : span ++ rest ≡ x ++ woven ps xs = sym e ∙ m.whole in
      let first : x ≡ span = sym (same_prefix span x rest (woven ps xs) cut (sym size)) in
      elim (h.best xs (record { spans_fit = m.spans_fit.1; whole = same_back span x rest (woven ps xs) cut (sym size) })) [
        | inl same ↦ inl (ap (λ (s : List ℕ). s ∷ xs) first ∙ ap (λ (s : List (List ℕ)). span ∷ s) same)
        | inr p ↦ inr (inr (sym size, p))
      ];
}

one_span : (name : List ℕ) (kind : FieldKind) (ps : List PieceValue) (text span rest : List ℕ) (rest_match : List ℕ → Option (List (List ℕ))) (b : Bool) → is_span kind span ≡ b → text ≡ span ++ rest → IsBestResult ps rest (rest_match rest)
    → IsResultWith name kind ps text span (option_map (λ spans. span ∷ spans) (rest_where b rest_match rest))
one_span name kind ps text span rest rest_match true is e h = with_rest name kind ps text span rest (rest_match rest) e (span_so kind span is) h
one_span name kind ps text span rest rest_match false is e h = grind (arith, common_steps, same_prefix, span_test)

more_by_one : (taken : List ℕ) (b : ℕ) → length (taken ++ b ∷ []) ≡ length taken + 1
more_by_one taken b = length-append taken (b ∷ [])

one_more : (taken rest : List ℕ) (b : ℕ) (text : List ℕ) → text ≡ taken ++ b ∷ rest → text ≡ (taken ++ b ∷ []) ++ rest
one_more taken rest b text e = e ∙ sym (append_assoc taken (b ∷ []) rest)

-- the shorter span first
shorter : (name : List ℕ) (ps : List PieceValue) (text taken span : List ℕ) (o later : Option (List (List ℕ))) → length span ≡ length taken + 1 → IsResultWith name Plain ps text span o → IsResultAbove name Plain ps text span later
    → IsResultAbove name Plain ps text taken (elim o [ Some spans ↦ Some spans | None ↦ later ])
shorter name ps text taken span (Some []) later size h more = absurd h
shorter name ps text taken span (Some (y ∷ ys)) later size h more = grind (arith, common_steps)
shorter name ps text taken span None None size h more = grind (arith, common_steps)
shorter name ps text taken span None (Some []) size h more = absurd more
shorter name ps text taken span None (Some (y ∷ ys)) size h more = grind (arith, common_steps)

-- the longer span first
longer : (name : List ℕ) (ps : List PieceValue) (text taken span : List ℕ) (o later : Option (List (List ℕ))) → length span ≡ length taken + 1 → IsResultWith name Decimal ps text span o → IsResultAbove name Decimal ps text span later
    → IsResultAbove name Decimal ps text taken (elim later [ Some spans ↦ Some spans | None ↦ o ])
longer name ps text taken span o (Some []) size h more = absurd more
longer name ps text taken span o (Some (y ∷ ys)) size h more = grind (arith, common_steps)
longer name ps text taken span None None size h more = grind (arith, common_steps)
longer name ps text taken span (Some []) None size h more = absurd h
longer name ps text taken span (Some (y ∷ ys)) None size h more = grind (arith, common_steps)

nothing_left : (name : List ℕ) (kind : FieldKind) (ps : List PieceValue) (text taken : List ℕ) → text ≡ taken ++ [] → (x : List ℕ) (xs : List (List ℕ)) → Matches (FieldPiece name kind ∷ ps) text (x ∷ xs) → length taken < length x → ⊥
nothing_left name kind ps text taken e x xs m less = grind (arith, common_steps)

shortest_is : (name : List ℕ) (ps : List PieceValue) (rest_match : List ℕ → Option (List (List ℕ))) (text taken rest : List ℕ) → ((t : List ℕ) → IsBestResult ps t (rest_match t)) → text ≡ taken ++ rest
    → IsResultAbove name Plain ps text taken (shortest_match rest_match Plain taken rest)
shortest_is name ps rest_match text taken [] each e = nothing_left name Plain ps text taken e
shortest_is name ps rest_match text taken (b ∷ rest) each e =
    let span : List ℕ = taken ++ b ∷ [] in
    shorter name ps text taken span (spans_with rest_match Plain span rest) (shortest_match rest_match Plain span rest) (more_by_one taken b)
    (one_span name Plain ps text span rest rest_match (is_span Plain span) refl (one_more taken rest b text e) (each rest))
    (shortest_is name ps rest_match text span rest each (one_more taken rest b text e))

longest_is : (name : List ℕ) (ps : List PieceValue) (rest_match : List ℕ → Option (List (List ℕ))) (text taken rest : List ℕ) → ((t : List ℕ) → IsBestResult ps t (rest_match t)) → text ≡ taken ++ rest
    → IsResultAbove name Decimal ps text taken (longest_match rest_match Decimal taken rest)
longest_is name ps rest_match text taken [] each e = nothing_left name Decimal ps text taken e
longest_is name ps rest_match text taken (b ∷ rest) each e =
    let span : List ℕ = taken ++ b ∷ [] in
    longer name ps text taken span (spans_with rest_match Decimal span rest) (longest_match rest_match Decimal span rest) (more_by_one taken b)
    (one_span name Decimal ps text span rest rest_match (is_span Decimal span) refl (one_more taken rest b text e) (each rest))
    (longest_is name ps rest_match text span rest each (one_more taken rest b text e))

-- every match has more than nothing in its first span
whole_field : (name : List ℕ) (kind : FieldKind) (ps : List PieceValue) (text : List ℕ) (o : Option (List (List ℕ))) → IsResultAbove name kind ps text [] o → IsBestResult (FieldPiece name kind ∷ ps) text o
whole_field name kind ps text None h = grind (arith, common_steps)
whole_field name kind ps text (Some []) h = absurd h
whole_field name kind ps text (Some (y ∷ ys)) h = record { matches = h.matches; best = λ others m. each others m } where
  each : (others : List (List ℕ)) → Matches (FieldPiece name kind ∷ ps) text others → (others ≡ y ∷ ys) ⊎ IsPreferred (FieldPiece name kind ∷ ps) (y ∷ ys) others
  each [] m = absurd m.spans_fit
  each (x ∷ xs) m = h.best x xs m (not_empty kind x m.spans_fit.0)

field_is : (name : List ℕ) (kind : FieldKind) (ps : List PieceValue) (rest_match : List ℕ → Option (List (List ℕ))) (text : List ℕ) → ((t : List ℕ) → IsBestResult ps t (rest_match t)) → IsBestResult (FieldPiece name kind ∷ ps) text (field_match kind rest_match text)
field_is name Plain ps rest_match text each = whole_field name Plain ps text (shortest_match rest_match Plain [] text) (shortest_is name ps rest_match text [] text each refl)
field_is name Decimal ps rest_match text each = whole_field name Decimal ps text (longest_match rest_match Decimal [] text) (longest_is name ps rest_match text [] text each refl)

-- the computed spans are those of the preferred match
pub best_match_is : (ps : List PieceValue) (text : List ℕ) → IsBestResult ps text (best_match ps text)
best_match_is [] [] = grind (arith, common_steps)
best_match_is [] (b ∷ text) = λ spans m. let bad : b ∷ text ≡ [] = m.whole in let no : ⊥ = cc in no
best_match_is (Literal literal ∷ ps) text = literal_result literal ps text (best_match ps) (starts_with nat_eq text literal) refl (best_match_is ps (drop (length literal) text))
best_match_is (FieldPiece name kind ∷ ps) text = field_is name kind ps (best_match ps) text (best_match_is ps)

pub match_of_is : (ps : List PieceValue) (text : List ℕ) → IsMatchResult ps text (match_of ps text)
unfolding match_of
match_of_is ps text = grind (arith, common_steps, best_match_is)
