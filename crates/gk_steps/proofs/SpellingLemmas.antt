-- What a text spells, taken apart from its start.
use Rattle.gk_steps.proofs.Common.{◌≡◌, ℕ, zero, suc, ◌+◌, ◌-◌, ◌<◌, ◌≤◌, ◌⊎◌, inl, inr, Bool, true, false, cond, not, ◌||◌, ◌&&◌, List, [], ◌∷◌, ◌++◌, length, take, drop, get_or, codes, flat_map, IsTrue, Option, Some, None, refl, ap, sym, subst, ◌∙◌, arith, append_assoc, eq-eqb, common_steps, is_some, nat_lt, nat_eq, IsCharBoundary, bytes_eq, bytes_eq-Decides, AllByRecursion, list_all, prefix_len, position_or_len, eqb-true, nat_tests, prefix_len_passes, prefix_len-le-length, passes_at_first, IsCharBoundary-start, IsCharBoundary-after_ascii, IsCharBoundary-before_ascii, FieldKind, Plain, Decimal, PieceValue, Literal, FieldPiece, spelled_literal, spelled_piece, is_name_byte, is_field_name, BeginsWithPiece, field_names, AreDistinctNames, AreLongestRuns, SpellsPattern, field_kind, is_brace, BeginsAtBrace, EndsLiteral, EndsName, field_tail, literal_pieces, IsSpelled, HasLiteral, HasField, HasNoField, AddsLiteral, AddsField, BeginWithField, ArePiecesLeft, IsReadTo, are_distinct, is_pattern}
use Rattle.std.specs.Str.{IsUtf8}

-- where a text may be cut
name_ascii : (b : ℕ) → is_name_byte b ≡ true → b < 128
name_ascii b h = grind (arith, nat_tests)

pub brace_boundary : (bs : List ℕ) (n : ℕ) → n ≡ position_or_len is_brace bs → n < length bs → IsCharBoundary bs n
brace_boundary bs n e h = grind (arith, common_steps, passes_at_first, IsCharBoundary-before_ascii)

pub name_boundary : (bs : List ℕ) (n : ℕ) → IsUtf8 bs → n ≤ prefix_len is_name_byte bs → IsCharBoundary bs n
name_boundary bs zero u le = IsCharBoundary-start bs u
name_boundary bs (suc k) u le =
    let within : k < length bs = omega (arith, prefix_len-le-length is_name_byte bs) in
    let at : get_or bs k 0 < 128 = name_ascii (get_or bs k 0) (prefix_len_passes is_name_byte bs k 0 (omega arith)) in
    let e : k + 1 ≡ suc k = omega arith in
    subst (IsCharBoundary bs) e (IsCharBoundary-after_ascii bs k u within at)

-- what comes before the first brace
plain_take : (v : Bool) (b : ℕ) (n : ℕ) (bs : List ℕ) → flat_map spelled_literal (take n bs) ≡ take n bs
    → is_brace b ≡ v → flat_map spelled_literal (take (cond (not v) (1 + n) 0) (b ∷ bs)) ≡ take (cond (not v) (1 + n) 0) (b ∷ bs)
plain_take true b n bs h e = refl
plain_take false b n bs h e = grind (arith, common_steps)

pub plain_part : (bs : List ℕ) → flat_map spelled_literal (take (position_or_len is_brace bs) bs) ≡ take (position_or_len is_brace bs) bs
plain_part [] = refl
plain_part (b ∷ bs) = plain_take (is_brace b) b (position_or_len is_brace bs) bs (plain_part bs) refl

brace_drop : (v : Bool) (b : ℕ) (n : ℕ) (bs : List ℕ) → BeginsAtBrace (drop n bs) → is_brace b ≡ v → BeginsAtBrace (drop (cond (not v) (1 + n) 0) (b ∷ bs))
brace_drop true b n bs h e = e
brace_drop false b n bs h e = let one : 1 + n ≡ suc n = omega arith in subst (λ k. BeginsAtBrace (drop k (b ∷ bs))) (sym one) h

pub begins_at : (bs : List ℕ) → BeginsAtBrace (drop (position_or_len is_brace bs) bs)
begins_at [] = tt
begins_at (b ∷ bs) = brace_drop (is_brace b) b (position_or_len is_brace bs) bs (begins_at bs) refl

-- a literal is determined by the text

not_more : (v : Bool) (b : ℕ) (bs rest : List ℕ) → is_brace b ≡ v → rest ≡ cond v (b ∷ b ∷ []) (b ∷ []) ++ bs → EndsLiteral rest → ⊥
not_more true b bs rest e whole h = grind (arith, common_steps)
not_more false b bs rest e whole h = grind (arith, common_steps)

doubled_or_not : (v w : Bool) (a b : ℕ) (xs ys : List ℕ) → is_brace a ≡ v → is_brace b ≡ w → cond v (a ∷ a ∷ []) (a ∷ []) ++ xs ≡ cond w (b ∷ b ∷ []) (b ∷ []) ++ ys → (a ≡ b) × (xs ≡ ys)
doubled_or_not true true a b xs ys ea eb e = (cc, cc)
doubled_or_not true false a b xs ys ea eb e = let s : a ≡ b = cc in let no : true ≡ false = sym ea ∙ ap is_brace s ∙ eb in let bad : ⊥ = cc in absurd bad
doubled_or_not false true a b xs ys ea eb e = let s : a ≡ b = cc in let no : false ≡ true = sym ea ∙ ap is_brace s ∙ eb in let bad : ⊥ = cc in absurd bad
doubled_or_not false false a b xs ys ea eb e = (cc, cc)

pub one_literal : (xs ys rest left : List ℕ) → flat_map spelled_literal xs ++ rest ≡ flat_map spelled_literal ys ++ left → EndsLiteral rest → EndsLiteral left → (xs ≡ ys) × (rest ≡ left)
one_literal [] [] rest left e h k = (refl, e)
one_literal [] (y ∷ ys) rest left e h k = absurd (not_more (is_brace y) y (flat_map spelled_literal ys ++ left) rest refl (e ∙ append_assoc (spelled_literal y) (flat_map spelled_literal ys) left) h)
one_literal (x ∷ xs) [] rest left e h k = absurd (not_more (is_brace x) x (flat_map spelled_literal xs ++ rest) left refl (sym e ∙ append_assoc (spelled_literal x) (flat_map spelled_literal xs) rest) k)
one_literal (x ∷ xs) (y ∷ ys) rest left e h k =
    let first = doubled_or_not (is_brace x) (is_brace y) x y (flat_map spelled_literal xs ++ rest) (flat_map spelled_literal ys ++ left) refl refl
    (sym (append_assoc (spelled_literal x) (flat_map spelled_literal xs) rest) ∙ e ∙ append_assoc (spelled_literal y) (flat_map spelled_literal ys) left) in
    let more = one_literal xs ys rest left first.1 h k in
    (ap (λ z. z ∷ xs) first.0 ∙ ap (λ (zs : List ℕ). y ∷ zs) more.0, more.1)

-- a name is determined by the text
name_len_is : (name rest : List ℕ) → list_all is_name_byte name ≡ true → EndsName rest → prefix_len is_name_byte (name ++ rest) ≡ length name
name_len_is [] [] h k = refl
name_len_is [] (b ∷ bs) h k = ap (λ v. cond v (1 + prefix_len is_name_byte bs) 0) k
name_len_is (x ∷ xs) rest h k =
    let parts = both_so (is_name_byte x) (list_all is_name_byte xs) h in
    ap (λ v. cond v (1 + prefix_len is_name_byte (xs ++ rest)) 0) parts.0 ∙ let more = name_len_is xs rest parts.1 k in omega arith
  where
    both_so : (a b : Bool) → (a && b) ≡ true → (a ≡ true) × (b ≡ true)
    both_so true b e = (refl, e)
    both_so false b e = let bad : ⊥ = cc in absurd bad

take_seam : (a b : List ℕ) → take (length a) (a ++ b) ≡ a
take_seam [] b = refl
take_seam (x ∷ a) b = ap (λ (l : List ℕ). x ∷ l) (take_seam a b)

drop_seam : (a b : List ℕ) → drop (length a) (a ++ b) ≡ b
drop_seam [] b = refl
drop_seam (x ∷ a) b = drop_seam a b

pub one_name : (text before after : List ℕ) (n : ℕ) → n ≡ prefix_len is_name_byte text → before ≡ take (n - 0) text → after ≡ drop n text
    → (name rest : List ℕ) → list_all is_name_byte name ≡ true → EndsName rest → text ≡ name ++ rest → (before ≡ name) × (after ≡ rest)
one_name text before after n size first second name rest h k whole = grind (arith, common_steps, name_len_is, take_seam, drop_seam)

-- a field is its brace, its name and what stands after the name
pub field_text : (name : List ℕ) (kind : FieldKind) (rest : List ℕ) → spelled_piece (FieldPiece name kind) ++ rest ≡ codes "{" ++ (name ++ (field_tail kind ++ rest))
field_text name Plain rest = ap (λ (l : List ℕ). 123 ∷ l) (append_assoc name (codes "}") rest)
field_text name Decimal rest = ap (λ (l : List ℕ). 123 ∷ l) (append_assoc name (codes ":d}") rest)

pub tail_ends : (kind : FieldKind) (rest : List ℕ) → EndsName (field_tail kind ++ rest)
tail_ends Plain rest = refl
tail_ends Decimal rest = refl

and_so : (a b : Bool) → (a && b) ≡ true → (a ≡ true) × (b ≡ true)
and_so true b e = (refl, e)
and_so false b e = let bad : ⊥ = cc in absurd bad

or_left : (a b : Bool) → a ≡ true → (a || b) ≡ true
or_left true b e = refl
or_left false b e = let bad : ⊥ = cc in absurd bad

and_both : (a b : Bool) → a ≡ true → b ≡ true → (a && b) ≡ true
and_both true b e f = f
and_both false b e f = let bad : ⊥ = cc in absurd bad

pub name_bytes : (name : List ℕ) → IsTrue (is_field_name name) → list_all is_name_byte name ≡ true
name_bytes [] h = refl
name_bytes (b ∷ bs) h = grind (arith, common_steps)

same_rest : (b : ℕ) (x y : List ℕ) → b ∷ x ≡ b ∷ y → x ≡ y
same_rest b x y e = cc

one_tail : (a b : FieldKind) (x y : List ℕ) → field_tail a ++ x ≡ field_tail b ++ y → (a ≡ b) × (x ≡ y)
one_tail Plain Plain x y e = (refl, same_rest 125 x y e)
one_tail Plain Decimal x y e = grind (arith, common_steps)
one_tail Decimal Plain x y e = grind (arith, common_steps)
one_tail Decimal Decimal x y e = (refl, same_rest 125 x y (same_rest 100 (125 ∷ x) (125 ∷ y) (same_rest 58 (100 ∷ 125 ∷ x) (100 ∷ 125 ∷ y) e)))

pub record IsSameField (a : List ℕ) (j : FieldKind) (x : List ℕ) (b : List ℕ) (k : FieldKind) (y : List ℕ) : Type 0 where
  pub name : a ≡ b
  pub kind : j ≡ k
  pub rest : x ≡ y

pub one_field : (text a : List ℕ) (j : FieldKind) (x b : List ℕ) (k : FieldKind) (y : List ℕ) → HasField text a j x → HasField text b k y → IsSameField a j x b k y
one_field text a j x b k y h i =
    let e : codes "{" ++ (a ++ (field_tail j ++ x)) ≡ codes "{" ++ (b ++ (field_tail k ++ y)) = sym (field_text a j x) ∙ sym h.whole ∙ i.whole ∙ field_text b k y in
    let inner : a ++ (field_tail j ++ x) ≡ b ++ (field_tail k ++ y) = same_rest 123 (a ++ (field_tail j ++ x)) (b ++ (field_tail k ++ y)) e in
    let cut = one_name (a ++ (field_tail j ++ x)) a (field_tail j ++ x) (prefix_len is_name_byte (a ++ (field_tail j ++ x))) refl
    (sym (take_seam a (field_tail j ++ x)) ∙ ap (λ m. take m (a ++ (field_tail j ++ x))) (let s : length a ≡ prefix_len is_name_byte (a ++ (field_tail j ++ x)) - 0 = omega (arith, name_len_is a (field_tail j ++ x) (name_bytes a h.is_name) (tail_ends j x)) in s))
    (sym (drop_seam a (field_tail j ++ x)) ∙ ap (λ m. drop m (a ++ (field_tail j ++ x))) (sym (name_len_is a (field_tail j ++ x) (name_bytes a h.is_name) (tail_ends j x))))
    b (field_tail k ++ y) (name_bytes b i.is_name) (tail_ends k y) inner in
    let tails = one_tail j k x y cut.1 in
    record { name = cut.0; kind = tails.0; rest = tails.1 }

-- pieces whose first is no literal begin where a literal ends
no_literal_ends : (text : List ℕ) (ps : List PieceValue) → IsSpelled text ps → BeginWithField ps → EndsLiteral text
no_literal_ends text [] s f = subst EndsLiteral (sym s.spelled) tt
no_literal_ends text (Literal l ∷ ps) s f = absurd f
no_literal_ends text (FieldPiece name kind ∷ ps) s f = grind (arith, common_steps, flat_map)

-- a literal before such pieces
with_literal : (literal text rest : List ℕ) (ps : List PieceValue) → text ≡ flat_map spelled_literal literal ++ rest → IsSpelled rest ps → BeginWithField ps → IsSpelled text (literal_pieces literal ++ ps)
with_literal [] text rest ps whole s f = record { spelled = whole ∙ s.spelled; names = s.names; runs = s.runs }
with_literal (b ∷ bs) text rest [] whole s f = record { spelled = whole ∙ ap (λ r. flat_map spelled_literal (b ∷ bs) ++ r) s.spelled; names = s.names; runs = (omega arith, s.runs) }
with_literal (b ∷ bs) text rest (Literal l ∷ ps) whole s f = absurd f
with_literal (b ∷ bs) text rest (FieldPiece name kind ∷ ps) whole s f = record { spelled = whole ∙ ap (λ r. flat_map spelled_literal (b ∷ bs) ++ r) s.spelled; names = s.names; runs = (omega arith, s.runs) }

-- the pieces of a text that begins with a literal
literal_or_none : (ps : List PieceValue) (l : List ℕ) → AreLongestRuns (Literal l ∷ ps) → (0 < length l) × AreLongestRuns ps × BeginWithField ps
literal_or_none [] l h = (h.0, h.1, tt)
literal_or_none (Literal k ∷ ps) l h = absurd h
literal_or_none (FieldPiece name kind ∷ ps) l h = (h.0, h.1, tt)

as_pieces : (l : List ℕ) → 0 < length l → Literal l ∷ [] ≡ literal_pieces l
as_pieces [] h = absurd (omega arith)
as_pieces (b ∷ bs) h = refl

pub take_literal : (literal text rest : List ℕ) (ps : List PieceValue) → HasLiteral text literal rest → IsSpelled text ps → ArePiecesLeft (literal_pieces literal) rest ps
take_literal literal text rest [] h s = grind (arith, common_steps)
take_literal literal text rest (FieldPiece name kind ∷ ps) h s = grind (arith, common_steps)
take_literal literal text rest (Literal l ∷ ps) h s = grind (arith, common_steps, literal_or_none, flat_map, one_literal, no_literal_ends, as_pieces)

-- reading begins
pub read_first : (text rest : List ℕ) (after : List PieceValue) → AddsLiteral text [] after rest → IsReadTo text after rest
read_first text rest after a = record {
  build = λ ps s f. subst (λ (q : List PieceValue). IsSpelled text (q ++ ps)) (sym a.added) (with_literal a.literal text rest ps a.has.whole s f);
  take = λ ps s. subst (λ (q : List PieceValue). ArePiecesLeft q rest ps) (sym a.added) (take_literal a.literal text rest ps a.has s);
}

-- a field more, and the literal after it
with_field : (text rest : List ℕ) (name : List ℕ) (kind : FieldKind) (ps : List PieceValue) → HasField text name kind rest → IsSpelled rest ps → IsSpelled text (FieldPiece name kind ∷ ps)
with_field text rest name kind ps h s = record { spelled = h.whole ∙ ap (λ r. spelled_piece (FieldPiece name kind) ++ r) s.spelled; names = (h.is_name, s.names); runs = s.runs }

some_is : (b : ℕ) (bs : List ℕ) → b ∷ bs ≡ [] → ⊥
some_is b bs e = let bad : ⊥ = cc in bad

not_nothing : (text rest name : List ℕ) (kind : FieldKind) → HasField text name kind rest → text ≡ [] → ⊥
not_nothing text rest name kind h e = some_is 123 (name ++ (field_tail kind ++ rest)) (sym (field_text name kind rest) ∙ sym h.whole ∙ e)

first_field : (rest : List ℕ) (name : List ℕ) (kind : FieldKind) (ps : List PieceValue) → IsSpelled rest (FieldPiece name kind ∷ ps) → HasField rest name kind (flat_map spelled_piece ps)
first_field rest name kind ps s = record { is_name = s.names.0; whole = s.spelled }

assoc_pieces : (a b c d : List PieceValue) → ((a ++ b) ++ c) ++ d ≡ a ++ (b ++ (c ++ d))
assoc_pieces a b c d = append_assoc (a ++ b) c d ∙ append_assoc a b (c ++ d)

take_field : (text rest name : List ℕ) (kind : FieldKind) (ps : List PieceValue) → HasField text name kind rest → IsSpelled text ps → BeginWithField ps → (qs : List PieceValue) × (ps ≡ FieldPiece name kind ∷ qs) × IsSpelled rest qs
take_field text rest name kind [] h s f = absurd (not_nothing text rest name kind h s.spelled)
take_field text rest name kind (Literal l ∷ ps) h s f = absurd f
take_field text rest name kind (FieldPiece other k ∷ ps) h s f =
    let one = one_field text other k (flat_map spelled_piece ps) name kind rest (first_field text other k ps s) h in
    let first : FieldPiece other k ≡ FieldPiece name kind = ap (λ n. FieldPiece n k) one.name ∙ ap (λ j. FieldPiece name j) one.kind in
    let later : IsSpelled (flat_map spelled_piece ps) ps = record { spelled = refl; names = s.names.1; runs = s.runs } in
    (ps, ap (λ (p : PieceValue). p ∷ ps) first, subst (λ t. IsSpelled t ps) one.rest later)

pub read_more : (text rest middle last : List ℕ) (done with_one all : List PieceValue) → IsReadTo text done rest → AddsField rest done with_one middle → AddsLiteral middle with_one all last → IsReadTo text all last
read_more text rest middle last done with_one all r a b = record { build = built; take = taken } where
  whole : (ps : List PieceValue) → all ++ ps ≡ done ++ ((FieldPiece a.name a.kind ∷ []) ++ (literal_pieces b.literal ++ ps))
  whole ps = ap (λ (q : List PieceValue). q ++ ps) (b.added ∙ ap (λ (q : List PieceValue). q ++ literal_pieces b.literal) a.added) ∙ assoc_pieces done (FieldPiece a.name a.kind ∷ []) (literal_pieces b.literal) ps

  built : (ps : List PieceValue) → IsSpelled last ps → BeginWithField ps → IsSpelled text (all ++ ps)
  built ps s f = subst (IsSpelled text) (sym (whole ps)) (r.build (FieldPiece a.name a.kind ∷ (literal_pieces b.literal ++ ps)) (with_field rest middle a.name a.kind (literal_pieces b.literal ++ ps) a.has (with_literal b.literal middle last ps b.has.whole s f)) tt)

  taken : (ps : List PieceValue) → IsSpelled text ps → ArePiecesLeft all last ps
  taken ps s =
      let first = r.take ps s in
      let second = take_field rest middle a.name a.kind first.left a.has first.spelled first.field in
      let third = take_literal b.literal middle last second.0 b.has second.2 in
      record {
        left = third.left;
        whole = first.whole ∙ ap (λ (q : List PieceValue). done ++ q) second.1 ∙ ap (λ (q : List PieceValue). done ++ (FieldPiece a.name a.kind ∷ q)) third.whole ∙ sym (whole third.left);
        spelled = third.spelled;
        field = third.field;
      }

all_of : (done : List PieceValue) → done ++ [] ≡ done
all_of [] = refl
all_of (p ∷ ps) = ap (λ (q : List PieceValue). p ∷ q) (all_of ps)

pub read_whole : (text rest : List ℕ) (done : List PieceValue) → IsReadTo text done rest → rest ≡ [] → IsSpelled text done
read_whole text rest done r e = subst (IsSpelled text) (all_of done) (r.build [] (record { spelled = e; names = tt; runs = tt }) tt)

-- what a text spells is determined
pub spelled_of : (text : List ℕ) (ps : List PieceValue) → SpellsPattern text ps → IsSpelled text ps
spelled_of text ps s = record { spelled = s.spelled; names = s.names; runs = s.runs }

-- two spellings of one text, piece by piece
one_spelling : (ps qs : List PieceValue) (text : List ℕ) → IsSpelled text ps → IsSpelled text qs → ps ≡ qs
one_spelling [] qs text s k = nothing_at text qs s.spelled k where
  nothing_at : (text : List ℕ) (qs : List PieceValue) → text ≡ [] → IsSpelled text qs → [] ≡ qs
  nothing_at text [] e k = refl
  nothing_at text (Literal [] ∷ qs) e k = absurd (omega (arith, (literal_or_none qs [] k.runs).0))
  nothing_at text (Literal (b ∷ bs) ∷ qs) e k = absurd (spelled_some (is_brace b) b (flat_map spelled_literal bs ++ flat_map spelled_piece qs) (sym e ∙ k.spelled ∙ append_assoc (spelled_literal b) (flat_map spelled_literal bs) (flat_map spelled_piece qs))) where
    spelled_some : (v : Bool) (b : ℕ) (bs : List ℕ) → [] ≡ cond v (b ∷ b ∷ []) (b ∷ []) ++ bs → ⊥
    spelled_some true b bs e = let bad : ⊥ = cc in bad
    spelled_some false b bs e = let bad : ⊥ = cc in bad
  nothing_at text (FieldPiece name kind ∷ qs) e k = absurd (not_nothing text (flat_map spelled_piece qs) name kind (first_field text name kind qs k) e)
one_spelling (Literal l ∷ ps) qs text s k =
    let parts = literal_or_none ps l s.runs in
    let here : IsSpelled (flat_map spelled_piece ps) ps = record { spelled = refl; names = s.names; runs = parts.1 } in
    let has : HasLiteral text l (flat_map spelled_piece ps) = record { whole = s.spelled; end = no_literal_ends (flat_map spelled_piece ps) ps here parts.2 } in
    let other = take_literal l text (flat_map spelled_piece ps) qs has k in
    ap (λ (q : List PieceValue). q ++ ps) (as_pieces l parts.0) ∙ ap (λ (q : List PieceValue). literal_pieces l ++ q) (one_spelling ps other.left (flat_map spelled_piece ps) here other.spelled) ∙ sym other.whole
one_spelling (FieldPiece name kind ∷ ps) qs text s k =
    let here : IsSpelled (flat_map spelled_piece ps) ps = record { spelled = refl; names = s.names.1; runs = s.runs } in
    let none : HasLiteral text [] text = record { whole = refl; end = no_literal_ends text (FieldPiece name kind ∷ ps) s tt } in
    let other = take_literal [] text text qs none k in
    let more = take_field text (flat_map spelled_piece ps) name kind other.left (first_field text name kind ps s) other.spelled other.field in
    ap (λ (q : List PieceValue). FieldPiece name kind ∷ q) (one_spelling ps more.0 (flat_map spelled_piece ps) here more.2) ∙ sym more.1 ∙ sym other.whole

pub spelling : (text : List ℕ) (a b : List PieceValue) → SpellsPattern text a → SpellsPattern text b → a ≡ b
spelling text a b h k = one_spelling a b text (spelled_of text a h) (spelled_of text b k)

-- names that stand twice
no_kind_here : (v : Bool) (ps : List PieceValue) (other name : List ℕ) (kind : FieldKind) → bytes_eq other name ≡ v → cond v (Some kind) (field_kind ps name) ≡ None
    → (field_kind ps name ≡ None → AllByRecursion (λ (o : List ℕ). o ≡ name → ⊥) (field_names ps)) → (other ≡ name → ⊥) × AllByRecursion (λ (o : List ℕ). o ≡ name → ⊥) (field_names ps)
no_kind_here true ps other name kind is f more = let bad : ⊥ = cc in absurd bad
no_kind_here false ps other name kind is f more = (λ same. let no : true ≡ false = sym ((bytes_eq-Decides other name).1 same) ∙ is in let bad : ⊥ = cc in bad, more f)

no_kind : (ps : List PieceValue) (name : List ℕ) → field_kind ps name ≡ None → AllByRecursion (λ (other : List ℕ). other ≡ name → ⊥) (field_names ps)
no_kind [] name e = tt
no_kind (Literal l ∷ ps) name e = no_kind ps name e
no_kind (FieldPiece other kind ∷ ps) name e = no_kind_here (bytes_eq other name) ps other name kind refl e (no_kind ps name)

some_kind_here : (v : Bool) (ps : List PieceValue) (other name : List ℕ) (kind k : FieldKind) → bytes_eq other name ≡ v → cond v (Some kind) (field_kind ps name) ≡ Some k → (other ≡ name → ⊥) → (field_kind ps name ≡ Some k → ⊥) → ⊥
some_kind_here true ps other name kind k is f here more = here ((bytes_eq-Decides other name).0 is)
some_kind_here false ps other name kind k is f here more = more f

some_kind : (ps : List PieceValue) (name : List ℕ) (k : FieldKind) → field_kind ps name ≡ Some k → AllByRecursion (λ (other : List ℕ). other ≡ name → ⊥) (field_names ps) → ⊥
some_kind [] name k e h = let bad : ⊥ = cc in bad
some_kind (Literal l ∷ ps) name k e h = some_kind ps name k e h
some_kind (FieldPiece other kind ∷ ps) name k e h = some_kind_here (bytes_eq other name) ps other name kind k refl e h.0 (λ f. some_kind ps name k f h.1)

none_of : (o : Option FieldKind) → not (is_some o) ≡ true → o ≡ None
none_of None e = refl
none_of (Some k) e = let bad : ⊥ = cc in absurd bad

pub distinct_so : (ps : List PieceValue) → are_distinct ps ≡ true → AreDistinctNames (field_names ps)
distinct_so [] e = tt
distinct_so (Literal l ∷ ps) e = distinct_so ps e
distinct_so (FieldPiece name kind ∷ ps) e =
    let parts = and_so (not (is_some (field_kind ps name))) (are_distinct ps) e in
    (no_kind ps name (none_of (field_kind ps name) parts.0), distinct_so ps parts.1)

none_test : (ps : List PieceValue) (name : List ℕ) (o : Option FieldKind) → field_kind ps name ≡ o → AllByRecursion (λ (other : List ℕ). other ≡ name → ⊥) (field_names ps) → not (is_some o) ≡ true
none_test ps name None e h = refl
none_test ps name (Some k) e h = absurd (some_kind ps name k e h)

pub distinct_test : (ps : List PieceValue) → AreDistinctNames (field_names ps) → are_distinct ps ≡ true
distinct_test [] h = refl
distinct_test (Literal l ∷ ps) h = distinct_test ps h
distinct_test (FieldPiece name kind ∷ ps) h = and_both (not (is_some (field_kind ps name))) (are_distinct ps) (none_test ps name (field_kind ps name) refl h.0) (distinct_test ps h.1)

-- pieces that are a pattern
less_so : (a b : ℕ) → nat_lt a b ≡ true → a < b
less_so a b e = grind (arith, nat_tests)

less_test : (a b : ℕ) → a < b → nat_lt a b ≡ true
less_test a b e = grind (arith, nat_tests)

pub spells : (text : List ℕ) (ps : List PieceValue) → IsSpelled text ps → is_pattern ps ≡ true → SpellsPattern text ps
spells text ps s e = grind (arith, common_steps, and_so, distinct_so, less_so)

pub spells_test : (text : List ℕ) (ps : List PieceValue) → SpellsPattern text ps → is_pattern ps ≡ true
spells_test text ps s = and_both (nat_lt 0 (length ps)) (are_distinct ps) (less_test 0 (length ps) s.some) (distinct_test ps s.distinct)

pub not_pattern : (text : List ℕ) (qs ps : List PieceValue) → is_pattern qs ≡ false → qs ≡ ps → SpellsPattern text ps → ⊥
not_pattern text qs ps e same s = let no : true ≡ false = sym (spells_test text ps s) ∙ ap is_pattern (sym same) ∙ e in let bad : ⊥ = cc in bad

-- what stands before a position that is given by a number
pub plain_of : (text part : List ℕ) (n : ℕ) → n ≡ position_or_len is_brace text → part ≡ take (n - 0) text → flat_map spelled_literal part ≡ part
plain_of text part n e cut = grind (arith, common_steps, flat_map, plain_part)

pub begins_of : (text part : List ℕ) (n : ℕ) → n ≡ position_or_len is_brace text → part ≡ drop n text → BeginsAtBrace part
begins_of text part n e cut = subst BeginsAtBrace (sym (cut ∙ ap (λ m. drop m text) e)) (begins_at text)

pub no_field : (text body name end : List ℕ) → text ≡ codes "{" ++ body → ((n r : List ℕ) → list_all is_name_byte n ≡ true → EndsName r → body ≡ n ++ r → (name ≡ n) × (end ≡ r))
    → ((kind : FieldKind) (r : List ℕ) → end ≡ field_tail kind ++ r → ⊥) → HasNoField text
no_field text body name end whole only none = grind (arith, common_steps, same_rest, field_text, name_bytes, tail_ends)

pub empty_so : (xs : List ℕ) → length xs ≡ 0 → xs ≡ []
empty_so [] e = refl
empty_so (x ∷ xs) e = absurd (omega arith)

-- texts that begin with a piece
plain_begins : (v : Bool) (b : ℕ) (bs : List ℕ) → is_brace b ≡ v → (is_brace b ≡ true → BeginsWithPiece (b ∷ bs)) → BeginsWithPiece (b ∷ bs)
plain_begins true b bs e more = more e
plain_begins false b bs e more = record { piece = Literal (b ∷ []); rest = bs; is_piece = omega arith; whole = sym (ap (λ v. (cond v (b ∷ b ∷ []) (b ∷ []) ++ []) ++ bs) e) }

doubled_begins : (v : Bool) (b c : ℕ) (bs : List ℕ) → nat_eq c b ≡ v → is_brace b ≡ true → (EndsLiteral (b ∷ c ∷ bs) → ⊥) → BeginsWithPiece (b ∷ c ∷ bs)
doubled_begins true b c bs same e more = record { piece = Literal (b ∷ []); rest = bs; is_piece = omega arith; whole = ap (λ x. b ∷ x ∷ bs) (eqb-true c b same) ∙ sym (ap (λ v. (cond v (b ∷ b ∷ []) (b ∷ []) ++ []) ++ bs) e) }
doubled_begins false b c bs other e more = absurd (more (e, λ same. let no : true ≡ false = sym (eq-eqb c b same) ∙ other in let bad : ⊥ = cc in bad))

pub literal_begins : (text : List ℕ) → (EndsLiteral text → ⊥) → BeginsWithPiece text
literal_begins [] more = absurd (more tt)
literal_begins (b ∷ []) more = plain_begins (is_brace b) b [] refl (λ e. absurd (more e))
literal_begins (b ∷ c ∷ bs) more = plain_begins (is_brace b) b (c ∷ bs) refl (λ e. doubled_begins (nat_eq c b) b c bs refl e more)

pub field_begins : (text name : List ℕ) (kind : FieldKind) (rest : List ℕ) → HasField text name kind rest → BeginsWithPiece text
field_begins text name kind rest h = record { piece = FieldPiece name kind; rest = rest; is_piece = h.is_name; whole = h.whole }

pub pattern_begins : (text : List ℕ) (ps : List PieceValue) → SpellsPattern text ps → BeginsWithPiece text
pattern_begins text [] s = absurd (omega (arith, s.some))
pattern_begins text (Literal l ∷ ps) s = record { piece = Literal l; rest = flat_map spelled_piece ps; is_piece = (literal_or_none ps l s.runs).0; whole = s.spelled }
pattern_begins text (FieldPiece name kind ∷ ps) s = record { piece = FieldPiece name kind; rest = flat_map spelled_piece ps; is_piece = s.names.0; whole = s.spelled }

-- nothing of the text was read, or it begins with a piece
abbrev pub IsBegun : List ℕ → List ℕ → Type 0
IsBegun text rest = (rest ≡ text) ⊎ BeginsWithPiece text

begun_by : (text literal rest : List ℕ) → HasLiteral text literal rest → IsBegun text rest
begun_by text [] rest h = inl (sym h.whole)
begun_by text (b ∷ bs) rest h = inr (record { piece = Literal (b ∷ bs); rest = rest; is_piece = omega arith; whole = h.whole })

pub begun_first : (text rest : List ℕ) (before after : List PieceValue) → AddsLiteral text before after rest → IsBegun text rest
begun_first text rest before after a = begun_by text a.literal rest a.has

pub begun_whole : (text rest : List ℕ) → IsBegun text rest → BeginsWithPiece rest → BeginsWithPiece text
begun_whole text rest (inl same) h = subst BeginsWithPiece same h
begun_whole text rest (inr already) h = already

pub begun_field : (text rest middle : List ℕ) (before after : List PieceValue) → IsBegun text rest → AddsField rest before after middle → BeginsWithPiece text
begun_field text rest middle before after h a = begun_whole text rest h (field_begins rest a.name a.kind middle a.has)
