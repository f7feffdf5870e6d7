-- What is left of a text to be shown.
use Rattle.gk_explain.proofs.Common.{◌≡◌, ◌∙◌, ◌-◌, ◌/◌, ◌≤◌, ◌<◌, ◌⊎◌, inl, inr, ⊎_elim, ◌==◌, ℕ, true, false, nat_lt, List, [], ◌∷◌, ◌++◌, length, take, drop, map, chars, IsUtf8, encode_utf8, ap, ap₂, sym, refl, append_assoc, arith, list_any, cases_lt, or_parts, or_from, and_left, and_right, not_from_true, ltb-false, lt-ltb, le-ltb, eqb-false, ne_eqb, cond-false, cond-true, take-map, drop-map, length-map, list_any-append, chars-nil, chars-encodes, chars_past_char, encode_ascii, encode, encodes, next, is_within, is_control, is_suspect, is_commanding, past_char, char_in, char_after, chars_after, text_as, escaped, file_shown, marked_lines, left_out, few_lines, Before, Form}
use Rattle.gk_explain.proofs.Common.befores
use Rattle.gk_explain.proofs.Common.forms

-- Of a text without bytes nothing is shown.
pub shown_none : (form : Form) (before : Before) (text : List ℕ) → length text ≡ 0 → chars_after form before (chars text) ≡ []
shown_none form before [] none = ap (chars_after form before) chars-nil
shown_none form before (b ∷ bs) none = absurd cc

-- Of a text that begins with a character that is shown first.
pub shown_first : (form : Form) (before : Before) (text rest : List ℕ) (c : ℕ) → IsUtf8 text → text ≡ encode_utf8 c ++ rest → chars_after form before (chars text) ≡ char_after form before c ++ chars_after form (past_char before c) (chars rest)
shown_first form before text rest c utf8 begins = ap (chars_after form before) (chars_past_char text rest c utf8 begins)

-- The rows of more than twenty lines.
pub many_lines : {A : Type 0} (f : A → List ℕ) (show : List ℕ → List ℕ) (before : List ℕ) (lines first last : List A) → nat_lt 20 (length lines) ≡ true → first ≡ take 10 lines → last ≡ drop (length lines - 9) lines →
    ((before ++ marked_lines show (map f first)) ++ left_out (length lines - 19)) ++ marked_lines show (map f last) ≡ before ++ few_lines show (map f lines)
many_lines f show before lines first last many is_first is_last =
    let few : few_lines show (map f lines) ≡ marked_lines show (take 10 (map f lines)) ++ (left_out (length lines - 19) ++ marked_lines show (drop (length lines - 9) (map f lines))) =
    cc (length-map lines f, many) in
    append_assoc _ (left_out (length lines - 19)) _ ∙ append_assoc before _ _
    ∙ ap (λ (rows : List ℕ). before ++ rows)
    (ap₂ (λ some others. marked_lines show some ++ (left_out (length lines - 19) ++ marked_lines show others)) (ap (map f) is_first ∙ sym (take-map f 10 lines)) (ap (map f) is_last ∙ sym (drop-map f (length lines - 9) lines)) ∙ sym few)

-- A byte that isn't suspect.
record IsPlainByte (b : ℕ) : Type 0 where
  from : 0x20 ≤ b
  colon : (b == 0x3A) ≡ false
  bracket : (b == 0x5B) ≡ false
  delete : (b == 0x7F) ≡ false
  two : (b == 0xC2) ≡ false
  arabic : (b == 0xD8) ≡ false
  three : (b == 0xE2) ≡ false

not_suspect : (b : ℕ) → is_suspect b ≡ false → IsPlainByte b
not_suspect b none =
    let one = or_parts _ _ none in
    let two = or_parts _ _ one.1 in
    let three = or_parts _ _ two.1 in
    let four = or_parts _ _ three.1 in
    let five = or_parts _ _ four.1 in
    let six = or_parts _ _ five.1 in
    record { from = ltb-false b 0x20 one.0; colon = two.0; bracket = three.0; delete = four.0; two = five.0; arabic = six.0; three = six.1 }

-- A number below a range, or from its end on, is not within it.
not_within : (first end c : ℕ) → (c < first) ⊎ (end ≤ c) → is_within first end c ≡ false
not_within first end c (inl below) = and_left _ _ (not_from_true _ (lt-ltb c first below))
not_within first end c (inr above) = and_right _ _ (le-ltb c end above)

-- The bytes of the characters from U+0080 to U+009F, and of those from U+200E to U+2069.
two_bytes : (c : ℕ) → 128 ≤ c → c < 0xA0 → encode c ≡ 0xC2 ∷ next c ∷ []
unfolding encode
two_bytes c from below =
    cond-false _ _ _ (le-ltb c 128 from) ∙ cond-true _ _ _ (lt-ltb c 2048 (omega (arith, below)))
    ∙ ap (λ (b : ℕ). b ∷ next c ∷ []) (omega (arith, from, below))

three_bytes : (c : ℕ) → 0x200E ≤ c → c < 0x206A → encode c ≡ 0xE2 ∷ next (c / 64) ∷ next c ∷ []
unfolding encode
three_bytes c from below =
    cond-false _ _ _ (le-ltb c 128 (omega (arith, from))) ∙ cond-false _ _ _ (le-ltb c 2048 (omega (arith, from)))
    ∙ cond-true _ _ _ (lt-ltb c 65536 (omega (arith, below)))
    ∙ ap (λ (b : ℕ). b ∷ next (c / 64) ∷ next c ∷ []) (omega (arith, from, below))

arabic_bytes : encode 0x61C ≡ 0xD8 ∷ 0x9C ∷ []
unfolding encode
arabic_bytes = refl

-- The first byte of a character that has no suspect byte.
first_byte : (b : ℕ) (rest bytes : List ℕ) → bytes ≡ b ∷ rest → list_any is_suspect bytes ≡ false → IsPlainByte b
first_byte b rest bytes is none = not_suspect b (or_parts (is_suspect b) (list_any is_suspect rest) (sym (ap (list_any is_suspect) is) ∙ none)).0

-- A character that has no suspect byte.
record IsPlain (c : ℕ) : Type 0 where
  from : 0x20 ≤ c
  colon : (c == 0x3A) ≡ false
  bracket : (c == 0x5B) ≡ false
  delete : (c < 0x7F) ⊎ (0xA0 ≤ c)
  arabic : (c == 0x61C) ≡ false
  turn : (c < 0x200E) ⊎ (0x206A ≤ c)

plain_low : (c : ℕ) → list_any is_suspect (encode c) ≡ false → c < 128 → IsPlain c
plain_low c none low =
    let byte = first_byte c [] _ (encode_ascii c low) none in
    record { from = byte.from; colon = byte.colon; bracket = byte.bracket; delete = inl (omega (arith, low, eqb-false c 0x7F byte.delete)); arabic = ne_eqb c 0x61C (λ e. omega (arith, e, low)); turn = inl (omega (arith, low)) }

not_deleted : (c : ℕ) → list_any is_suspect (encode c) ≡ false → 128 ≤ c → 0xA0 ≤ c
not_deleted c none high = ⊎_elim
    (λ below. absurd (eqb-false 0xC2 0xC2 (first_byte 0xC2 (next c ∷ []) _ (two_bytes c high below) none).two refl))
    (λ above. above) (cases_lt c 0xA0)

not_arabic : (c : ℕ) → list_any is_suspect (encode c) ≡ false → (c == 0x61C) ≡ false
not_arabic c none = ne_eqb c 0x61C (λ e. eqb-false 0xD8 0xD8 (first_byte 0xD8 (0x9C ∷ []) _ (ap encode e ∙ arabic_bytes) none).arabic refl)

not_turned : (c : ℕ) → list_any is_suspect (encode c) ≡ false → (c < 0x200E) ⊎ (0x206A ≤ c)
not_turned c none = ⊎_elim
    (λ before. inl before)
    (λ from. ⊎_elim
    (λ below. absurd (eqb-false 0xE2 0xE2 (first_byte 0xE2 (next (c / 64) ∷ next c ∷ []) _ (three_bytes c from below) none).three refl))
    (λ above. inr above) (cases_lt c 0x206A))
    (cases_lt c 0x200E)

is_plain : (c : ℕ) → list_any is_suspect (encode c) ≡ false → IsPlain c
is_plain c none = ⊎_elim
    (plain_low c none)
    (λ high. record { from = omega (arith, high); colon = ne_eqb c 0x3A (λ e. omega (arith, e, high)); bracket = ne_eqb c 0x5B (λ e. omega (arith, e, high)); delete = inr (not_deleted c none high); arabic = not_arabic c none; turn = not_turned c none })
    (cases_lt c 128)

-- A range within those that a character isn't in.
not_in_turn : (first end c : ℕ) → 0x200E ≤ first → end ≤ 0x206A → (c < 0x200E) ⊎ (0x206A ≤ c) → is_within first end c ≡ false
not_in_turn first end c from to (inl below) = not_within first end c (inl (omega (arith, from, below)))
not_in_turn first end c from to (inr above) = not_within first end c (inr (omega (arith, to, above)))

no_control : (c : ℕ) → IsPlain c → is_control c ≡ false
no_control c plain =
    or_from _ _ (le-ltb c 0x20 plain.from)
    (or_from _ _ (not_within 0x7F 0xA0 c plain.delete)
    (or_from _ _ plain.arabic
    (or_from _ _ (not_in_turn 0x200E 0x2010 c (omega arith) (omega arith) plain.turn)
    (or_from _ _ (not_in_turn 0x2028 0x202F c (omega arith) (omega arith) plain.turn)
    (not_in_turn 0x2066 0x206A c (omega arith) (omega arith) plain.turn)))))

-- Such a character in a name is itself,
itself : (c : ℕ) → IsPlain c → char_in forms.Name c ≡ encode_utf8 c
itself c plain =
    cond-false _ _ _ (ne_eqb c 9 (λ e. omega (arith, e, plain.from)))
    ∙ cond-false _ _ _ (ne_eqb c 10 (λ e. omega (arith, e, plain.from)))
    ∙ cond-false _ _ _ (ne_eqb c 13 (λ e. omega (arith, e, plain.from)))
    ∙ cond-false _ _ _ (no_control c plain)

-- and completes no beginning of a command.
harmless : (form : Form) (before : Before) (c : ℕ) → IsPlain c → is_commanding form before c ≡ false
harmless form before c plain = cond-false _ _ _ plain.bracket ∙ cond-false _ _ _ plain.colon

-- Characters without suspect bytes are shown as themselves in a form that shows characters as names do.
plain_chars : (form : Form) → ((c : ℕ) → char_in form c ≡ char_in forms.Name c) → (before : Before) (cs : List ℕ) → list_any is_suspect (encodes cs) ≡ false → chars_after form before cs ≡ encodes cs
plain_chars form as_name before [] none = refl
plain_chars form as_name before (c ∷ cs) none =
    let parts = or_parts (list_any is_suspect (encode c)) (list_any is_suspect (encodes cs)) (sym (list_any-append is_suspect (encode c) (encodes cs)) ∙ none) in
    let plain = is_plain c parts.0 in
    ap₂ (λ (some others : List ℕ). some ++ others)
    (cond-false _ _ _ (harmless form before c plain) ∙ as_name c ∙ itself c plain)
    (plain_chars form as_name (past_char before c) cs parts.1)

plain_text : (form : Form) → ((c : ℕ) → char_in form c ≡ char_in forms.Name c) → (text : List ℕ) → IsUtf8 text → list_any is_suspect text ≡ false → text ≡ text_as form text
plain_text form as_name text utf8 none =
    let all : chars text ≡ utf8.0 = ap chars (sym utf8.1.1) ∙ chars-encodes utf8.0 utf8.1.0 in
    sym (ap (chars_after form befores.Other) all ∙ plain_chars form as_name befores.Other utf8.0 (ap (list_any is_suspect) utf8.1.1 ∙ none) ∙ utf8.1.1)

-- A text none of whose bytes is suspect is shown as itself, as the name of a file and as another name.
pub plain_file : (text : List ℕ) → IsUtf8 text → list_any is_suspect text ≡ false → text ≡ file_shown text
unfolding file_shown
plain_file = plain_text forms.File (λ c. refl)

pub plain_name : (text : List ℕ) → IsUtf8 text → list_any is_suspect text ≡ false → text ≡ escaped text
unfolding escaped
plain_name = plain_text forms.Name (λ c. refl)
