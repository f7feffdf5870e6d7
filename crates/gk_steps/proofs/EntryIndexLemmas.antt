-- An index over the literals at the ends of patterns.
use Rattle.gk_steps.proofs.Common.{◌≡◌, ℕ, zero, suc, ◌*◌, ◌^◌, ◌+◌, ◌-◌, ◌<◌, ◌≤◌, ◌⊎◌, inl, inr, List, [], ◌∷◌, ◌++◌, length, take, drop, map, get_or, Option, Some, None, refl, ap, sym, subst, ◌∙◌, arith, length-append, common_steps, slice_get, false, eq-or-lt_of_le, cases_lt, append-nil, take_all, take-append-drop, Entry, Piece, Index, Ends, PieceValue, Literal, FieldPiece, piece_value, pattern_value, Matches, MatchesNot, woven, FitsEnd, StepType, EntryValue, entry_value, NoneBefore, cells_of_type, HasLiterals, IsTrue, literal_of, first_literal, last_literal, last_byte, ends_key, ends_of, key_over, window_at, IsEndsKey, IsKeyOf, Lists, AreListed, IsIndexOf, IsLeast, NoneIsLessAt, SkipsAt, SkipsByEnds, SkipsInside, Skips, SkipsEntries}
use Rattle.std.specs.Int.{w32, from_le_bytes}
use Rattle.std.specs.Prelude.{◌/◌}
use Rattle.gk_steps.specs.declared.keyed_numbers.Keyed.{Keyed}
use Rattle.gk_steps.specs.KeyedNumbers.{bucket_of, IsUnder}
use Rattle.gk_steps.proofs.LiteralEndLemmas.{match_fits}
use Rattle.gk_steps.proofs.LiteralOrderLemmas.{match_has}

-- the last literal
pub same_some : {A : Type 0} (x y : A) → ◌≡◌ {A = Option A} (Some x) (Some y) → x ≡ y
same_some x y e = cc

last_said : (pieces : List Piece) (n : ℕ) (p : Piece) → length pieces ≡ suc n → slice_get pieces n ≡ Some p → literal_of (piece_value p) ≡ last_literal (map piece_value pieces)
last_said [] n p size e = absurd (omega arith)
last_said (q ∷ []) zero p size e = ap (λ r. literal_of (piece_value r)) (sym (same_some q p e))
last_said (q ∷ []) (suc n) p size e = absurd (omega arith)
last_said (q ∷ r ∷ rest) zero p size e = absurd (omega arith)
last_said (q ∷ r ∷ rest) (suc n) p size e = last_said (r ∷ rest) n p (omega arith) e

not_empty : {X : Type 0} (xs : List X) (x : X) → slice_get xs (length xs - 1) ≡ Some x → length xs ≡ suc (length xs - 1)
not_empty [] x e = let bad : ⊥ = cc in absurd bad
not_empty (y ∷ xs) x e = omega arith

pub last_is : (pieces : List Piece) (p : Piece) → slice_get pieces (length pieces - 1) ≡ Some p → literal_of (piece_value p) ≡ last_literal (map piece_value pieces)
last_is pieces p e = last_said pieces (length pieces - 1) p (not_empty pieces p e) e

last_byte_at : (bytes : List ℕ) (n b : ℕ) → length bytes ≡ suc n → slice_get bytes n ≡ Some b → b ≡ last_byte bytes
last_byte_at [] n b size e = absurd (omega (arith, size))
last_byte_at (c ∷ []) zero b size e = sym (same_some c b e)
last_byte_at (c ∷ []) (suc n) b size e = absurd (omega (arith, size))
last_byte_at (c ∷ d ∷ rest) zero b size e = absurd (omega (arith, size))
last_byte_at (c ∷ d ∷ rest) (suc n) b size e = last_byte_at (d ∷ rest) n b (omega (arith, size)) e

pub last_byte_is : (bytes : List ℕ) (b : ℕ) → slice_get bytes (length bytes - 1) ≡ Some b → b ≡ last_byte bytes
last_byte_is bytes b e = last_byte_at bytes (length bytes - 1) b (not_empty bytes b e) e

-- positions of a list
pub get_at : {X : Type 0} (xs : List X) (i : ℕ) (x : X) → i < length xs → x ≡ get_or xs i x → slice_get xs i ≡ Some x
get_at [] i x l e = absurd (omega arith)
get_at (y ∷ ys) zero x l e = ap Some (sym e)
get_at (y ∷ ys) (suc i) x l e = get_at ys i x (omega arith) e

pub get_there : {X : Type 0} (xs : List X) (i : ℕ) (other : X) → i < length xs → slice_get xs i ≡ Some (get_or xs i other)
get_there [] i other l = absurd (omega arith)
get_there (y ∷ ys) zero other l = refl
get_there (y ∷ ys) (suc i) other l = get_there ys i other (omega arith)

pub get_within : {X : Type 0} (xs : List X) (k : ℕ) (x : X) → slice_get xs k ≡ Some x → k < length xs
get_within [] k x is = let bad : ⊥ = cc in absurd bad
get_within (y ∷ ys) zero x is = omega arith
get_within (y ∷ ys) (suc k) x is = let less = get_within ys k x is in omega arith

-- the ends of a text that a pattern matches
match_begins : (ps : List PieceValue) (text : List ℕ) (spans : List (List ℕ)) → Matches ps text spans → (rest : List ℕ) × (text ≡ first_literal ps ++ rest)
match_begins [] text spans m = (text, refl)
match_begins (Literal literal ∷ ps) text spans m = (woven ps spans, m.whole)
match_begins (FieldPiece name kind ∷ ps) text spans m = (text, refl)

ends_so : (ps : List PieceValue) (text : List ℕ) → FitsEnd ps text → (prefix : List ℕ) × (text ≡ prefix ++ last_literal ps)
ends_so [] text h = (text, sym (append-nil text))
ends_so (Literal literal ∷ []) text h = h
ends_so (FieldPiece name kind ∷ []) text h = (text, sym (append-nil text))
ends_so (p ∷ q ∷ ps) text h = ends_so (q ∷ ps) text h

match_ends : (ps : List PieceValue) (text : List ℕ) (spans : List (List ℕ)) → Matches ps text spans → (prefix : List ℕ) × (text ≡ prefix ++ last_literal ps)
match_ends ps text spans m = ends_so ps text (match_fits ps text spans m)

last_after : (prefix xs : List ℕ) → 0 < length xs → last_byte (prefix ++ xs) ≡ last_byte xs
last_after [] xs some = refl
last_after (b ∷ []) [] some = absurd (omega (arith, some))
last_after (b ∷ []) (x ∷ xs) some = refl
last_after (b ∷ c ∷ bs) xs some = last_after (c ∷ bs) xs some

last_cases : (last prefix text : List ℕ) → text ≡ prefix ++ last → (last_byte last ≡ last_byte text) ⊎ (last_byte last ≡ 0)
last_cases [] prefix text e = inr refl
last_cases (b ∷ bs) prefix text e = inl (sym (ap last_byte e ∙ last_after prefix (b ∷ bs) (omega arith)))

take_before : (n : ℕ) (xs ys : List ℕ) → n ≤ length xs → take n (xs ++ ys) ≡ take n xs
take_before zero xs ys le = refl
take_before (suc n) [] ys le = absurd (omega (arith, le))
take_before (suc n) (x ∷ xs) ys le = ap (λ zs. x ∷ zs) (take_before n xs ys (omega (arith, le)))

part_longer : (x rest : List ℕ) (start n : ℕ) → start + n ≤ length x → take n (drop start (x ++ rest)) ≡ take n (drop start x)
part_longer x rest zero n le = take_before n x rest (omega (arith, le))
part_longer [] rest (suc start) n le = absurd (omega (arith, le))
part_longer (a ∷ xs) rest (suc start) n le = part_longer xs rest start n (omega (arith, le))

same_window_at : (x rest text : List ℕ) (start : ℕ) → text ≡ x ++ rest → start + 4 ≤ length x → window_at x start ≡ window_at text start
same_window_at x rest text start e le = ap (from_le_bytes w32) (sym (ap (λ t. take 4 (drop start t)) e ∙ part_longer x rest start 4 le))

ends_there : (ps : List PieceValue) (text : List ℕ) (spans : List (List ℕ)) (key : ℕ) → Matches ps text spans → IsEndsKey key ps → (7 ≤ length text) × ((key ≡ ends_key text (last_byte text)) ⊎ (key ≡ ends_key text 0))
ends_there ps text spans key m is =
    let a = match_begins ps text spans m in
    let b = match_ends ps text spans m in
    let last = last_byte (last_literal ps) in
    let first = same_window_at (first_literal ps) a.0 text 0 a.1 (omega (arith, is.long)) in
    let rest = same_window_at (first_literal ps) a.0 text 3 a.1 (omega (arith, is.long)) in
    let key_now : key ≡ ends_key text last =
    is.key_is ∙ ap (λ n. n + (window_at (first_literal ps) 3 / 2 ^ 8) * 2 ^ 32 + last * 2 ^ 56) first
    ∙ ap (λ n. window_at text 0 + (n / 2 ^ 8) * 2 ^ 32 + last * 2 ^ 56) rest in (
      omega (arith, is.long, ap length a.1, length-append (first_literal ps) a.0),
      elim (last_cases (last_literal ps) b.0 text b.1) [
        | inl same ↦ inl (key_now ∙ ap (ends_key text) same)
        | inr none ↦ inr (key_now ∙ ap (ends_key text) none)
      ],
    )

has_ends : (text : List ℕ) → 7 ≤ length text → ends_of text ≡ Some (record { by_literal = ends_key text (last_byte text); by_field = ends_key text 0 })
has_ends text long = grind (arith, common_steps)

-- literals of a text
later_at : (before x : List ℕ) (n start : ℕ) → n ≡ start + length before → drop n (before ++ x) ≡ drop start x
later_at [] x n start e = ap (λ m. drop m x) (let same : n ≡ start = omega (arith, e) in same)
later_at (b ∷ bs) x zero start e = absurd (omega (arith, e))
later_at (b ∷ bs) x (suc n) start e = later_at bs x n start (omega (arith, e))

abbrev pub IsPart : List ℕ → List ℕ → Type 0
IsPart part text = (start : ℕ) × (start + length part ≤ length text) × (take (length part) (drop start text) ≡ part)

in_front : (part x rest : List ℕ) → IsPart part x → IsPart part (x ++ rest)
in_front part x rest h = (h.0, omega (arith, h.1, length-append x rest), part_longer x rest h.0 (length part) h.1 ∙ h.2)

in_back : (part before x : List ℕ) → IsPart part x → IsPart part (before ++ x)
in_back part before x h = (h.0 + length before, omega (arith, h.1, length-append before x), ap (take (length part)) (later_at before x (h.0 + length before) h.0 refl) ∙ h.2)

in_itself : (part : List ℕ) → IsPart part part
in_itself part = (0, omega arith, take_all (length part) part (omega arith))

in_text : (ps : List PieceValue) (text literal : List ℕ) (k : ℕ) (p : PieceValue) → HasLiterals ps text → slice_get ps k ≡ Some p → literal ≡ literal_of p → 4 ≤ length literal → IsPart literal text
in_text [] text literal k p h is same long = let bad : ⊥ = cc in absurd bad
in_text (Literal own ∷ ps) text literal zero p h is same long =
    let here : literal ≡ own = same ∙ ap literal_of (sym (same_some (Literal own) p is)) in
    subst (IsPart literal) (sym h.2) (in_back literal h.0 (own ++ h.1) (in_front literal own h.1 (subst (IsPart literal) here (in_itself literal))))
in_text (Literal own ∷ ps) text literal (suc k) p h is same long = subst (IsPart literal) (sym h.2) (in_back literal h.0 (own ++ h.1) (in_back literal own h.1 (in_text ps h.1 literal k p h.3 is same long)))
in_text (FieldPiece name kind ∷ ps) text literal zero p h is same long =
    let none : literal ≡ [] = same ∙ ap literal_of (sym (same_some (FieldPiece name kind) p is)) in
    absurd (omega (arith, long, ap length none))
in_text (FieldPiece name kind ∷ ps) text literal (suc k) p h is same long = in_text ps text literal k p h is same long

same_window : (literal text : List ℕ) (start : ℕ) → 4 ≤ length literal → take (length literal) (drop start text) ≡ literal → window_at text start ≡ window_at literal 0
same_window literal text start long part =
    let rest = drop (length literal) (drop start text) in
    let whole : drop start text ≡ literal ++ rest = sym (take-append-drop (length literal) (drop start text)) ∙ ap (λ t. t ++ rest) part in
    ap (λ t. from_le_bytes w32 (take 4 t)) whole ∙ ap (from_le_bytes w32) (take_before 4 literal rest long)

whole_is : (literal text : List ℕ) (spans : List (List ℕ)) → Matches (Literal literal ∷ []) text spans → text ≡ literal
whole_is literal text spans m = m.whole ∙ append-nil literal

-- what an index lists for a text
pub least_kept : (index : Index) (key from old new : ℕ) → new ≤ old → IsLeast index key from old → IsLeast index key from new
least_kept index key from old new le h = λ position among low. omega (arith, le, h position among low)

pub at_kept : (index : Index) (start from old new : ℕ) (bytes : List ℕ) → new ≤ old → NoneIsLessAt index start from bytes old → NoneIsLessAt index start from bytes new
at_kept index start from old new bytes le h = λ size among fits. least_kept index (key_over 0 (take size (drop start bytes))) from old new le (h size among fits)

-- the literals at one place, of the first lengths
abbrev pub LeastOf : Index → ℕ → ℕ → List ℕ → List Keyed → ℕ → ℕ → Type 0
LeastOf index start from bytes items k least = (j size : ℕ) → j < k → slice_get items j ≡ Some (record { key = window_at bytes start; number = size }) → start + size ≤ length bytes → IsLeast index (key_over 0 (take size (drop start bytes))) from least

pub lengths_none : (index : Index) (start from least : ℕ) (bytes : List ℕ) (items : List Keyed) → LeastOf index start from bytes items 0 least
lengths_none index start from least bytes items j size less = absurd (omega (arith, less))

pub lengths_more : (index : Index) (start from old new k : ℕ) (bytes : List ℕ) (items : List Keyed) (item : Keyed) → slice_get items k ≡ Some item → new ≤ old → LeastOf index start from bytes items k old
    → (item.key ≡ window_at bytes start → start + item.number ≤ length bytes → IsLeast index (key_over 0 (take item.number (drop start bytes))) from new) → LeastOf index start from bytes items (k + 1) new
lengths_more index start from old new k bytes items item there le h now j size less is fits = elim (let most : j ≤ k = omega (arith, less) in eq-or-lt_of_le most) [
  | inr before ↦ least_kept index (key_over 0 (take size (drop start bytes))) from old new le (h j size before is fits)
  | inl here ↦
      let own : Keyed = record { key = window_at bytes start; number = size } in
      let same : item ≡ own = same_some item own (sym there ∙ ap (slice_get items) (sym here) ∙ is) in
      let number : item.number ≡ size = ap (λ (i : Keyed). i.number) same in
      subst (λ n. IsLeast index (key_over 0 (take n (drop start bytes))) from new) number (now (ap (λ (i : Keyed). i.key) same) (omega (arith, number, fits)))
]

pub lengths_all : (index : Index) (start from most least k : ℕ) (bytes : List ℕ) (items : List Keyed) → items ≡ bucket_of index.lengths.buckets.items (window_at bytes start) → length items ≤ k → (from ≤ most → from ≤ least) → least ≤ most → LeastOf index start from bytes items k least → SkipsAt index start from most bytes least
lengths_all index start from most least k bytes items is past low high h = record {
  low = low;
  high = high;
  least = λ size among fits.
      let there : slice_get items among.0 ≡ Some (record { key = window_at bytes start; number = size }) = ap (λ xs. slice_get xs among.0) is ∙ among.1 in
      h among.0 size (omega (arith, past, get_within items among.0 (record { key = window_at bytes start; number = size }) there)) there fits;
}

pub places_none : (index : Index) (from least : ℕ) (text : List ℕ) (start : ℕ) → start < 0 → NoneIsLessAt index start from text least
places_none index from least text start less = absurd (omega (arith, less))

pub places_more : (index : Index) (from least next k : ℕ) (text : List ℕ) → next ≤ least → ((start : ℕ) → start < k → NoneIsLessAt index start from text least) → NoneIsLessAt index k from text next → (start : ℕ) → start < k + 1 → NoneIsLessAt index start from text next
places_more index from least next k text le h now start less = elim (let most : start ≤ k = omega (arith, less) in eq-or-lt_of_le most) [
  | inr before ↦ at_kept index start from least next text le (h start before)
  | inl here ↦ subst (λ n. NoneIsLessAt index n from text next) (sym here) now
]

pub places_all : (index : Index) (from most least count : ℕ) (text : List ℕ) → length text ≤ count + 3 → (from ≤ most → from ≤ least) → least ≤ most → IsLeast index (key_over 0 text) from least
    → ((start : ℕ) → start < count → NoneIsLessAt index start from text least) → SkipsInside index from most text least
places_all index from most least count text enough low high whole literals = record {
  low = low;
  high = high;
  whole = whole;
  literals = λ start fits. literals start (omega (arith, fits, enough));
}

pub ends_none : (index : Index) (from most least : ℕ) (ends : Option Ends) → ends ≡ None → (from ≤ most → from ≤ least) → least ≤ most → IsLeast index 0 from least → SkipsByEnds index from most ends least
ends_none index from most least ends none low high other = record {
  low = low;
  high = high;
  other = other;
  by_literal = λ e is. let bad : ⊥ = cc in absurd bad;
  by_field = λ e is. let bad : ⊥ = cc in absurd bad;
}

skips_of : (index : Index) (from most least : ℕ) (text : List ℕ) (ends : Option Ends) → ends ≡ ends_of text → SkipsByEnds index from most ends least → (IsTrue index.looks_inside → SkipsInside index from most text least) → Skips index from most text least
skips_of index from most least text ends same h more = record {
  low = h.low;
  high = h.high;
  skipped = λ position ps lists later under spans m.
      let passed : (key : ℕ) → IsLeast index key from least → lists.0 ≡ key → ⊥ = λ key is_least same. omega (arith, under, is_least position (subst (λ n. IsUnder index.positions.buckets.items n position) same lists.2) later) in
      elim lists.1 [
        | inl zero_key ↦ passed 0 h.other zero_key
        | inr (inl by_ends) ↦
            let there = ends_there ps text spans lists.0 m by_ends in
            let is = same ∙ has_ends text there.0 in
            elim there.1 [ inl literal ↦ passed _ (h.by_literal _ is) literal | inr field ↦ passed _ (h.by_field _ is) field ]
        | inr (inr inside) ↦
            let s = more inside.0 in
            elim inside.1 [
              | inl whole ↦ passed (key_over 0 text) s.whole (whole.2 ∙ ap (key_over 0) (sym (whole_is whole.0 text spans (subst (λ qs. Matches qs text spans) whole.1 m))))
              | inr by_literal ↦
                  let literal = by_literal.literal in
                  let has = by_literal.has in
                  let there = in_text ps text literal has.place has.piece (match_has ps text spans m) has.there has.same has.long in
                  let window = same_window literal text there.0 has.long there.2 in
                  let size : IsUnder index.lengths.buckets.items (window_at text there.0) (length literal) = subst (λ w. IsUnder index.lengths.buckets.items w (length literal)) (sym window) by_literal.length_is in
                  passed (key_over 0 (take (length literal) (drop there.0 text))) (s.literals there.0 (omega (arith, there.1, has.long)) (length literal) size there.1) (by_literal.key_is ∙ ap (key_over 0) (sym there.2))
            ]
      ];
}

pub skips_by_ends : (index : Index) (from most least : ℕ) (text : List ℕ) (ends : Option Ends) → ends ≡ ends_of text → index.looks_inside ≡ false → SkipsByEnds index from most ends least → Skips index from most text least
skips_by_ends index from most least text ends same off h = skips_of index from most least text ends same h (λ yes. let bad : ⊥ = cc in absurd bad)

pub skips_both : (index : Index) (from most middle least : ℕ) (text : List ℕ) (ends : Option Ends) → ends ≡ ends_of text → SkipsByEnds index from most ends middle → SkipsInside index from middle text least → Skips index from most text least
skips_both index from most middle least text ends same h s = skips_of index from most least text ends same
    (record {
      low = λ le. s.low (h.low le);
      high = omega (arith, h.high, s.high);
      other = least_kept index 0 from middle least s.high h.other;
      by_literal = λ e is. least_kept index e.by_literal from middle least s.high (h.by_literal e is);
      by_field = λ e is. least_kept index e.by_field from middle least s.high (h.by_field e is);
    })
    (λ yes. record { low = λ le. s.low (h.low le); high = omega (arith, h.high, s.high); whole = s.whole; literals = s.literals })

-- the entries
pub skips_entries : (index : Index) (entries : List Entry) (from result : ℕ) (text : List ℕ) → from < index.listed → AreListed index entries → Skips index from index.listed text result → SkipsEntries entries from text result
skips_entries index entries from result text less listed h = record {
  low = λ le. h.low (omega (arith, less));
  skipped = λ position entry is low under spans m. listed position entry (omega (arith, under, h.high)) is (λ lists. h.skipped position (pattern_value entry.pattern) lists low under spans m);
}

-- one entry more is listed
pub key_kept : (old new : Index) (key : ℕ) (ps : List PieceValue) → (IsTrue old.looks_inside → IsTrue new.looks_inside) → ((k n : ℕ) → IsUnder old.lengths.buckets.items k n → IsUnder new.lengths.buckets.items k n) → IsKeyOf old key ps → IsKeyOf new key ps
key_kept old new key ps flag kept is = elim is [
  | inl other ↦ inl other
  | inr (inl by_ends) ↦ inr (inl by_ends)
  | inr (inr inside) ↦ inr (inr (
    flag inside.0,
    elim inside.1 [
      | inl whole ↦ inl whole
      | inr literal ↦ inr (record { literal = literal.literal; has = literal.has; key_is = literal.key_is; length_is = kept (window_at literal.literal 0) (length literal.literal) literal.length_is })
    ],
  ))
]

pub nothing_listed : (index : Index) (entries : List Entry) → index.listed ≡ 0 → IsIndexOf index entries
nothing_listed index entries none = record {
  within = omega (arith, none);
  listed = λ position entry less is bad. absurd (omega (arith, less, none));
}

pub listed_more : (old middle : Index) (entries : List Entry) (x : Entry) → old.listed < length entries → x ≡ get_or entries old.listed x → ((p : ℕ) (ps : List PieceValue) → Lists old p ps → Lists middle p ps) → Lists middle old.listed (pattern_value x.pattern) → AreListed old entries
    → IsIndexOf (record { listed = old.listed + 1; looks_inside = middle.looks_inside; lengths = middle.lengths; positions = middle.positions }) entries
listed_more old middle entries x l e kept added h = record {
  within = omega (arith, l);
  listed = λ position entry less is bad_new. let bad : Lists middle position (pattern_value entry.pattern) → ⊥ = λ lists. bad_new (lists.0, key_kept middle _ lists.0 (pattern_value entry.pattern) (λ yes. yes) (λ k n is. is) lists.1, lists.2) in elim (let le : position ≤ old.listed = omega (arith, less) in eq-or-lt_of_le le) [
    | inr before ↦ h position entry before is (λ lists. bad (kept position (pattern_value entry.pattern) lists))
    | inl here ↦
        let entry_is : x ≡ entry = same_some x entry (sym (get_at entries old.listed x l e) ∙ ap (slice_get entries) (sym here) ∙ is) in
        bad (subst (λ n. Lists middle n (pattern_value entry.pattern)) (sym here) (subst (λ (v : Entry). Lists middle old.listed (pattern_value v.pattern)) entry_is added))
  ];
}

-- entries that are skipped
get_map : (entries : List Entry) (k : ℕ) (other : EntryValue) → slice_get (map entry_value entries) k ≡ Some other → (x : Entry) × (slice_get entries k ≡ Some x) × (entry_value x ≡ other)
get_map [] k other e = let bad : ⊥ = cc in absurd bad
get_map (x ∷ xs) zero other e = (x, refl, same_some (entry_value x) other e)
get_map (x ∷ xs) (suc k) other e = get_map xs k other e

pub none_skipped : (entries : List Entry) (step_type : Option StepType) (text : List ℕ) (position next : ℕ) → NoneBefore position (map entry_value entries) step_type text → SkipsEntries entries position text next → NoneBefore next (map entry_value entries) step_type text
none_skipped entries step_type text position next h s = λ earlier other less is same. elim (cases_lt earlier position) [
  | inl before ↦ h earlier other before is same
  | inr le ↦ let x = get_map entries earlier other is in subst (λ (v : EntryValue). MatchesNot v.pattern text) x.2 (s.skipped earlier x.0 x.1 le less)
]

later_cells : (entries : List Entry) (n m : ℕ) (step_type : Option StepType) (text : List ℕ) → n ≤ m → cells_of_type (map entry_value (drop m entries)) step_type text ≤ cells_of_type (map entry_value (drop n entries)) step_type text
later_cells [] zero zero step_type text le = omega arith
later_cells [] zero (suc m) step_type text le = omega arith
later_cells [] (suc n) zero step_type text le = absurd (omega arith)
later_cells [] (suc n) (suc m) step_type text le = omega arith
later_cells (x ∷ xs) zero zero step_type text le = omega arith
later_cells (x ∷ xs) zero (suc m) step_type text le = omega (arith, later_cells xs 0 m step_type text (omega arith))
later_cells (x ∷ xs) (suc n) zero step_type text le = absurd (omega arith)
later_cells (x ∷ xs) (suc n) (suc m) step_type text le = later_cells xs n m step_type text (omega arith)

pub cells_skipped : (entries : List Entry) (position next : ℕ) (step_type : Option StepType) (text : List ℕ) (start old : ℕ) → position ≤ next → old + cells_of_type (map entry_value (drop position entries)) step_type text ≤ start + cells_of_type (map entry_value entries) step_type text
    → old + cells_of_type (map entry_value (drop next entries)) step_type text ≤ start + cells_of_type (map entry_value entries) step_type text
cells_skipped entries position next step_type text start old le h = omega (arith, h, later_cells entries position next step_type text le)

-- an entry more
get_push : {X : Type 0} (xs : List X) (x : X) (k : ℕ) (y : X) → slice_get (xs ++ x ∷ []) k ≡ Some y → (slice_get xs k ≡ Some y) ⊎ ((k ≡ length xs) × (x ≡ y))
get_push [] x zero y e = inr (refl, same_some x y e)
get_push [] x (suc k) y e = let bad : ⊥ = cc in absurd bad
get_push (z ∷ zs) x zero y e = inl e
get_push (z ∷ zs) x (suc k) y e = elim (get_push zs x k y e) [ inl a ↦ inl a | inr b ↦ inr (ap suc b.0, b.1) ]

pub listed_push : (index : Index) (entries items : List Entry) (x : Entry) → items ≡ entries ++ x ∷ [] → IsIndexOf index entries → IsIndexOf index items
listed_push index entries items x same h = record {
  within = omega (arith, h.within, ap length same, length-append entries (x ∷ []));
  listed = λ position entry less is. elim (get_push entries x position entry (ap (λ es. slice_get es position) (sym same) ∙ is)) [
    | inl before ↦ h.listed position entry less before
    | inr last ↦ absurd (omega (arith, less, h.within, last.0))
  ];
}

-- the first entries alone
get_taken : {X : Type 0} (xs : List X) (n i : ℕ) (x : X) → slice_get (take n xs) i ≡ Some x → slice_get xs i ≡ Some x
get_taken xs zero i x e = let bad : ⊥ = cc in absurd bad
get_taken [] (suc n) i x e = let bad : ⊥ = cc in absurd bad
get_taken (y ∷ ys) (suc n) zero x e = e
get_taken (y ∷ ys) (suc n) (suc i) x e = get_taken ys n i x e

pub listed_taken : (index : Index) (entries slice : List Entry) (n : ℕ) → slice ≡ take n entries → AreListed index entries → AreListed index slice
listed_taken index entries slice n same h position entry less is = h position entry less (get_taken entries n position entry (ap (λ es. slice_get es position) (sym same) ∙ is))
