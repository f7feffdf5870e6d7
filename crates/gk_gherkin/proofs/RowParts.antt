-- The parts of a row, byte by byte and part by part, and what escapes mean.
use Rattle.gk_gherkin.proofs.Common.{◌≡◌, ◌≢◌, ℕ, zero, suc, ◌+◌, ◌-◌, ◌<◌, ◌≤◌, Bool, true, false, cond, ◌==◌, List, [], ◌∷◌, ◌++◌, length, map, take, drop, get_or, Option, Some, None, Bor, min, refl, sym, ap, subst, ◌∙◌, arith, inl, inr, common_steps, option_map, codes, IsSplitOnceResult, split_parts, cases_lt, false≢true, or_parts, list_any, nat_tests, IsFirstByte, Nowhere, Passes, is_byte2, append-nil, get_or-drop, drop_more, take_more, drop_all, take_all, LineValue, trim, begins, cells_of, part_before, into_first, parts_of, parts_after, no_bar, unescaped, cell_of, cells_of_parts}
use Rattle.std.proofs.lemmas.List.{length-drop}

-- The parts of the rest of a text, after a backslash or not.
abbrev pub parts_in : Bool → List ℕ → Option (List (List ℕ))
parts_in false text = parts_of text
parts_in true [] = Some []
parts_in true (b ∷ rest) = into_first b (parts_of rest)

-- Bytes put into the first part, before what it has.
abbrev pub into_all : List ℕ → Option (List (List ℕ)) → Option (List (List ℕ))
into_all [] o = o
into_all (b ∷ bs) o = into_first b (into_all bs o)

into_all-push : (bs : List ℕ) (b : ℕ) (o : Option (List (List ℕ))) → into_all (bs ++ b ∷ []) o ≡ into_all bs (into_first b o)
into_all-push [] b o = refl
into_all-push (x ∷ bs) b o = ap (into_first x) (into_all-push bs b o)

pub escaped_byte : (b : ℕ) (rest : List ℕ) → parts_in true (b ∷ rest) ≡ into_first b (parts_in false rest)
escaped_byte b rest = refl

bar_byte : (rest : List ℕ) → parts_of (124 ∷ rest) ≡ part_before (parts_of rest)
unfolding parts_of
bar_byte [] = refl
bar_byte (c ∷ rest) = refl

pub other_byte : (b : ℕ) (t : Bool) (rest : List ℕ) → (b == 92) ≡ t → (b == 124) ≡ false → parts_in false (b ∷ rest) ≡ into_first b (parts_in t rest)
unfolding parts_of
other_byte b false [] e n = rw n refl
other_byte b true [] e n = rw n refl
other_byte b false (c ∷ rest) e n = rw (n, e) refl
other_byte b true (c ∷ rest) e n = rw (n, e) refl

pub next_byte : (text : List ℕ) (i : ℕ) (esc after : Bool) → i < length text → ((rest : List ℕ) → parts_in esc (get_or text i 0 ∷ rest) ≡ into_first (get_or text i 0) (parts_in after rest)) → parts_of text ≡ into_all (take i text) (parts_in esc (drop i text)) → parts_of text ≡ into_all (take (i + 1) text) (parts_in after (drop (i + 1) text))
next_byte text i esc after below byte so_far = grind (arith, common_steps, drop_more, into_all-push, take_more)

onto_first : (b : ℕ) (bs : List ℕ) (o : Option (List (List ℕ))) → into_first b (option_map (λ parts. bs ∷ parts) o) ≡ option_map (λ parts. (b ∷ bs) ∷ parts) o
onto_first b bs None = refl
onto_first b bs (Some parts) = refl

into_all-bar : (part : List ℕ) (o : Option (List (List ℕ))) → into_all part (part_before o) ≡ option_map (λ parts. part ∷ parts) o
into_all-bar [] None = refl
into_all-bar [] (Some parts) = refl
into_all-bar (b ∷ bs) o = ap (into_first b) (into_all-bar bs o) ∙ onto_first b bs o

pub at_bar : (text : List ℕ) (i : ℕ) → i < length text → get_or text i 0 ≡ 124 → parts_of text ≡ into_all (take i text) (parts_in false (drop i text)) → parts_of text ≡ parts_after (take i text) (drop i text)
at_bar text i below bar so_far = grind (arith, common_steps, drop_more, bar, bar_byte, into_all-bar)

into_none : (part : List ℕ) → into_all part (Some []) ≡ no_bar part
into_none [] = refl
into_none (b ∷ []) = refl
into_none (b ∷ c ∷ bs) = ap (into_first b) (into_none (c ∷ bs))

nothing_left : (text : List ℕ) (i : ℕ) (esc : Bool) → length text ≤ i → parts_in esc (drop i text) ≡ Some []
unfolding parts_of
nothing_left text i false over = ap parts_of (drop_all i text over)
nothing_left text i true over = ap (parts_in true) (drop_all i text over)

pub at_end : (text : List ℕ) (i : ℕ) → length text ≤ i → parts_of text ≡ into_all (take i text) (parts_of (drop i text)) → parts_of text ≡ parts_after (take i text) (drop i text)
at_end text i over so_far =
    so_far ∙ ap (into_all (take i text)) (nothing_left text i false over)
    ∙ into_none (take i text) ∙ ap (parts_after (take i text)) (sym (drop_all i text over))

neither_byte : (b : ℕ) → ¬ (is_byte2 124 92 b ≡ true) → ((b == 92) ≡ false) × ((b == 124) ≡ false)
neither_byte b h = (grind (arith, nat_tests), grind (arith, nat_tests))

not_bar : (b : ℕ) → is_byte2 124 92 b ≡ true → b ≢ 124 → b ≡ 92
not_bar b h n = grind (arith, nat_tests)

-- Bytes that are neither bars nor backslashes are passed over.
passed_over : (text : List ℕ) (i n : ℕ) → i + n ≤ length text → Nowhere (Passes (is_byte2 124 92) (drop i text)) 0 n → parts_of text ≡ into_all (take i text) (parts_of (drop i text)) → parts_of text ≡ into_all (take (i + n) text) (parts_of (drop (i + n) text))
passed_over text i zero fits none so_far = grind (arith, common_steps)
passed_over text i (suc n) fits none so_far =
    let before = passed_over text i n (omega arith) (λ k low high. none k low (omega arith)) so_far in
    let byte : get_or (drop i text) n 0 ≡ get_or text (i + n) 0 = get_or-drop i text n 0 in
    let neither = neither_byte (get_or text (i + n) 0) (subst (λ (b : ℕ). ¬ (is_byte2 124 92 b ≡ true)) byte (none n (omega arith) (omega arith))) in
    let same : i + n + 1 ≡ i + suc n = omega arith in
    subst (λ (m : ℕ). parts_of text ≡ into_all (take m text) (parts_of (drop m text))) same
    (next_byte text (i + n) false false (omega arith) (λ rest. other_byte (get_or text (i + n) 0) false rest neither.0 neither.1) before)

-- A backslash is passed over with the byte after it, if there is one.
pub after_escape : (text : List ℕ) (i : ℕ) → i < length text → get_or text i 0 ≡ 92 → parts_of text ≡ into_all (take i text) (parts_of (drop i text)) → parts_of text ≡ into_all (take (min (length text) (i + 2)) text) (parts_of (drop (min (length text) (i + 2)) text))
after_escape text i below escape so_far =
    let one = next_byte text i false true below (λ rest. other_byte (get_or text i 0) true rest (ap (λ (b : ℕ). b == 92) escape) (ap (λ (b : ℕ). b == 124) escape)) so_far in
    elim (cases_lt (i + 1) (length text)) [
      | inl more ↦
          let same : i + 1 + 1 ≡ min (length text) (i + 2) = omega arith in
          subst (λ (m : ℕ). parts_of text ≡ into_all (take m text) (parts_of (drop m text))) same
          (next_byte text (i + 1) true false more (λ rest. escaped_byte (get_or text (i + 1) 0) rest) one)
      | inr over ↦
          let same : i + 1 ≡ min (length text) (i + 2) = omega arith in
          subst (λ (m : ℕ). parts_of text ≡ into_all (take m text) (parts_of (drop m text))) same
          (one ∙ ap (into_all (take (i + 1) text)) (nothing_left text (i + 1) true over ∙ sym (nothing_left text (i + 1) false over)))
    ]

-- A search for the next bar or backslash.
module _ (text : List ℕ) (i : ℕ) (within : i ≤ length text) (so_far : parts_of text ≡ into_all (take i text) (parts_of (drop i text))) where
  whole : take (length text - i) (drop i text) ≡ drop i text
  whole = take_all (length text - i) (drop i text) (omega (arith, length-drop i text))

  pub no_mark : IsFirstByte (is_byte2 124 92) (take (length text - i) (drop i text)) None → parts_of text ≡ parts_after (take (length text) text) (drop (length text) text)
  no_mark none =
      let nowhere = subst (λ (bs : List ℕ). IsFirstByte (is_byte2 124 92) bs None) whole none in
      let all : i + (length text - i) ≡ length text = omega (arith, within) in
      at_end text (length text) (omega arith)
      (subst (λ (m : ℕ). parts_of text ≡ into_all (take m text) (parts_of (drop m text))) all
      (passed_over text i (length text - i) (omega arith) (λ k low high. nowhere k low (omega (arith, length-drop i text))) so_far))

  module _ (n : ℕ) (found : IsFirstByte (is_byte2 124 92) (take (length text - i) (drop i text)) (Some n)) where
    first : IsFirstByte (is_byte2 124 92) (drop i text) (Some n)
    first = subst (λ (bs : List ℕ). IsFirstByte (is_byte2 124 92) bs (Some n)) whole found

    pub mark_within : i + n < length text
    mark_within = omega (arith, length-drop i text, first.0.high)

    pub to_mark : parts_of text ≡ into_all (take (i + n) text) (parts_of (drop (i + n) text))
    to_mark = passed_over text i n (omega (arith, mark_within)) first.0.before so_far

    pub is_escape : get_or text (i + n) 0 ≢ 124 → get_or text (i + n) 0 ≡ 92
    is_escape = not_bar (get_or text (i + n) 0) (subst (λ (b : ℕ). is_byte2 124 92 b ≡ true) (get_or-drop i text n 0) first.1)

-- The cells of the parts, where no parts aren't left out.
abbrev pub cells_all : Option (List (List ℕ)) → Option (List (List ℕ))
cells_all o = option_map (map cell_of) o

abbrev pub some_cells : Option (List (List ℕ)) → Option (List (List ℕ))
some_cells None = None
some_cells (Some []) = None
some_cells (Some (cell ∷ cells)) = Some (cell ∷ cells)

abbrev pub onto : List (List ℕ) → Option (List (List ℕ)) → Option (List (List ℕ))
onto xs o = option_map (λ more. xs ++ more) o

pub cells_split : (o : Option (List (List ℕ))) → cells_of_parts o ≡ some_cells (cells_all o)
cells_split None = refl
cells_split (Some []) = refl
cells_split (Some (part ∷ parts)) = refl

pub no_cells : (text rest : List ℕ) (n : ℕ) (xs : List (List ℕ)) → 0 < length rest → n ≡ length rest → parts_of rest ≡ parts_after (take n rest) (drop n rest) → cells_all (parts_of text) ≡ onto xs (cells_all (parts_of rest)) → cells_of_parts (parts_of text) ≡ None
no_cells text rest n xs some all parts so_far = grind (arith, common_steps)

empty_list : {A : Type 0} (xs : List A) → length xs ≤ 0 → xs ≡ []
empty_list [] h = refl
empty_list (x ∷ xs) h = absurd (omega arith)

pub all_cells : (text rest : List ℕ) (xs : List (List ℕ)) → length rest ≤ 0 → cells_all (parts_of text) ≡ onto xs (cells_all (parts_of rest)) → cells_of_parts (parts_of text) ≡ some_cells (Some xs)
unfolding parts_of
all_cells text rest xs h so_far = grind (arith, common_steps, cells_split, empty_list, append-nil)

pub some_are_some : (xs : List (List ℕ)) → 0 < length xs → some_cells (Some xs) ≡ Some xs
some_are_some [] h = absurd (omega arith)
some_are_some (x ∷ xs) h = refl

pub none_are_none : (xs : List (List ℕ)) → length xs ≤ 0 → some_cells (Some xs) ≡ None
none_are_none [] h = refl
none_are_none (x ∷ xs) h = absurd (omega arith)

-- escapes
plain_byte : (b : ℕ) (rest : List ℕ) → (b == 92) ≡ false → unescaped (b ∷ rest) ≡ b ∷ unescaped rest
unfolding unescaped
plain_byte b [] e = refl
plain_byte b (c ∷ rest) e = rw e refl

same_eqb : (m n : ℕ) → m ≢ n → (m == n) ≡ false
same_eqb m n h = grind (arith, nat_tests)

pub plain_bytes : (xs ys : List ℕ) → ((i : ℕ) → i < length xs → get_or xs i 0 ≢ 92) → unescaped (xs ++ ys) ≡ xs ++ unescaped ys
plain_bytes [] ys h = refl
plain_bytes (x ∷ xs) ys h =
    let first : x ≢ 92 = h 0 (omega arith) in
    plain_byte x (xs ++ ys) (same_eqb x 92 first) ∙ ap (λ (t : List ℕ). x ∷ t) (plain_bytes xs ys (λ i below. h (suc i) (omega arith)))

pub no_backslash : (text : List ℕ) → list_any (λ b. b == 92) text ≡ false → (i : ℕ) → i < length text → get_or text i 0 ≢ 92
no_backslash [] none i below e = absurd (omega arith)
no_backslash (b ∷ text) none zero below e = false≢true (sym (or_parts (b == 92) (list_any (λ b. b == 92) text) none).0 ∙ ap (λ (b : ℕ). b == 92) e)
no_backslash (b ∷ text) none (suc i) below e = no_backslash text (or_parts (b == 92) (list_any (λ b. b == 92) text) none).1 i (omega arith) e

pub no_escape : (xs : List ℕ) → ((i : ℕ) → i < length xs → get_or xs i 0 ≢ 92) → unescaped xs ≡ xs
unfolding unescaped
no_escape xs h = ap unescaped (sym (append-nil xs)) ∙ plain_bytes xs [] h ∙ append-nil xs

pub newline : (after rest : List ℕ) → after ≡ 110 ∷ rest → unescaped (92 ∷ after) ≡ 10 ∷ unescaped rest
unfolding unescaped
newline after rest e = ap (λ (t : List ℕ). unescaped (92 ∷ t)) e

pub bar : (after rest : List ℕ) → after ≡ 124 ∷ rest → unescaped (92 ∷ after) ≡ 124 ∷ unescaped rest
unfolding unescaped
bar after rest e = ap (λ (t : List ℕ). unescaped (92 ∷ t)) e

pub backslash : (after rest : List ℕ) → after ≡ 92 ∷ rest → unescaped (92 ∷ after) ≡ 92 ∷ unescaped rest
unfolding unescaped
backslash after rest e = ap (λ (t : List ℕ). unescaped (92 ∷ t)) e

pub no_meaning : (after : List ℕ) → ((rest : List ℕ) → after ≢ 110 ∷ rest) → ((rest : List ℕ) → after ≢ 124 ∷ rest) → ((rest : List ℕ) → after ≢ 92 ∷ rest) → unescaped (92 ∷ after) ≡ 92 ∷ unescaped after
unfolding unescaped
no_meaning [] n b s = refl
no_meaning (c ∷ rest) n b s = grind (arith, common_steps)

-- A text that is cut at its first backslash.
module _ (text : List ℕ) (r : Option (Bor (List ℕ) × Bor (List ℕ))) (split : IsSplitOnceResult 92 text r) where
  pub to_escape : (x : Bor (List ℕ) × Bor (List ℕ)) → r ≡ Some x → unescaped text ≡ x.0.now ++ unescaped (92 ∷ x.1.now)
  to_escape x is =
      let parts = rw is at (split_parts 92 text r split (omega arith)) in
      ap unescaped parts.0 ∙ plain_bytes x.0.now (92 ∷ x.1.now) parts.1

  pub no_escape_left : r ≡ None → unescaped text ≡ text
  no_escape_left is = no_escape text (rw is at (split_parts 92 text r split (omega arith)))

-- A row begins with a bar.
pub row_cells : (line : LineValue) (rest : List ℕ) → trim line.text ≡ 124 ∷ rest → cells_of line ≡ cells_of_parts (parts_of rest)
unfolding cells_of
row_cells line rest e = ap (λ (t : List ℕ). cond (begins t (codes "|")) (cells_of_parts (parts_of (drop 1 t))) None) e

not_begun : (b : ℕ) (bs : List ℕ) → b ≢ 124 → begins (b ∷ bs) (codes "|") ≡ false
not_begun b bs h = grind (arith, nat_tests)

pub no_row : (line : LineValue) → ((rest : List ℕ) → trim line.text ≢ 124 ∷ rest) → cells_of line ≡ None
unfolding cells_of
no_row line h = grind (arith, common_steps)
