-- What two texts begin with alike, character by character.
use Rattle.gk_explain.proofs.Common.{◌≡◌, ◌∙◌, ◌≢◌, ◌≤◌, ◌+◌, ◌==◌, ℕ, suc, Bool, true, false, cond, List, [], ◌∷◌, ◌++◌, length, chars, encode_utf8, IsUtf8, refl, ap, sym, arith, eq-eqb, ne_eqb, length-append, chars-nil, chars_past_char, length-encode, len_utf8_bounds, Position, common_start, position_after, position_past}

-- A text without bytes has no characters.
pub no_chars : (text : List ℕ) → length text ≡ 0 → chars text ≡ []
no_chars [] none = chars-nil
no_chars (b ∷ bs) none = absurd cc

-- The same character: the position after it.
pub same_character : (p : Position) (c : ℕ) (xs ys : List ℕ) → position_past p (common_start (c ∷ xs) (c ∷ ys)) ≡ position_past (position_after p c) (common_start xs ys)
same_character p c xs ys = cc (eq-eqb c c refl)

-- Another character: the position before it.
pub other_character : (p : Position) (c d : ℕ) (xs ys : List ℕ) → c ≢ d → position_past p (common_start (c ∷ xs) (d ∷ ys)) ≡ p
other_character p c d xs ys other = cc (ne_eqb c d other)

-- No character is left of one of the texts.
pub none_found : (p : Position) (xs : List ℕ) → position_past p (common_start xs []) ≡ p
none_found p [] = refl
none_found p (x ∷ xs) = refl

-- Two texts that go on with the same character.
pub same_here : (p end : Position) (c d : ℕ) (xs ys later later' : List ℕ) → IsUtf8 xs → IsUtf8 ys → xs ≡ encode_utf8 c ++ later → ys ≡ encode_utf8 d ++ later' → d ≡ c →
    position_past p (common_start (chars xs) (chars ys)) ≡ end → position_past (position_after p c) (common_start (chars later) (chars later')) ≡ end
same_here p end c d xs ys later later' utf8 utf8' here there same held =
    let x = chars_past_char xs later c utf8 here in
    let y = chars_past_char ys later' d utf8' there in
    let go : position_past p (common_start (chars xs) (chars ys)) ≡ position_past p (common_start (c ∷ chars later) (c ∷ chars later')) = cc (x, y, same) in
    sym (go ∙ same_character p c (chars later) (chars later')) ∙ held

-- Two texts that go on with two characters.
pub other_here : (p end : Position) (c d : ℕ) (xs ys later later' : List ℕ) → IsUtf8 xs → IsUtf8 ys → xs ≡ encode_utf8 c ++ later → ys ≡ encode_utf8 d ++ later' → (d ≡ c → ⊥) →
    position_past p (common_start (chars xs) (chars ys)) ≡ end → p ≡ end
other_here p end c d xs ys later later' utf8 utf8' here there other held =
    let x = chars_past_char xs later c utf8 here in
    let y = chars_past_char ys later' d utf8' there in
    let go : position_past p (common_start (chars xs) (chars ys)) ≡ position_past p (common_start (c ∷ chars later) (d ∷ chars later')) = cc (x, y) in
    sym (go ∙ other_character p c d (chars later) (chars later') (λ same. other (sym same))) ∙ held

-- A position one character further, in a text of which so much is left.
nearer : (feed : Bool) (p : Position) (rest whole most : ℕ) → suc rest ≤ whole → p.line + whole ≤ most → p.column + whole ≤ most →
    (let q : Position = cond {A = Position} feed (record { line = suc p.line; column = 1 }) (record { line = p.line; column = suc p.column }) in (q.line + rest ≤ most) × (q.column + rest ≤ most))
nearer true p rest whole most less line column = (omega arith, omega arith)
nearer false p rest whole most less line column = (omega arith, omega arith)

pub closer : (p : Position) (c : ℕ) (text rest : List ℕ) (most : ℕ) → p.line + length text ≤ most → p.column + length text ≤ most → text ≡ encode_utf8 c ++ rest →
    (let q = position_after p c in (q.line + length rest ≤ most) × (q.column + length rest ≤ most))
closer p c text rest most line column begins =
    let size = len_utf8_bounds c in
    let long = length-encode c in
    let whole : length text ≡ length (encode_utf8 c) + length rest = ap length begins ∙ length-append (encode_utf8 c) rest in
    nearer (c == 10) p (length rest) (length text) most (omega arith) line column
