-- The line in which two texts differ first is a line of each of them, and is shown.
use Rattle.gk_explain.proofs.Common.{◌≡◌, ◌∙◌, ◌⊎◌, ◌<◌, ◌≤◌, ◌+◌, ◌-◌, ◌==◌, ℕ, zero, suc, Bool, true, false, cond, nat_lt, List, [], Some, ◌∷◌, ◌++◌, length, take, drop, chars, codes, encode_utf8, encode_utf8_all, IsUtf8, refl, ap, sym, subst, inl, inr, length-take, append_assoc, ⊎_elim, arith, sum_by, ltb-true, ltb-false, eqb-true, and_parts, and_cases, take-append-drop, drop-take, drop-drop, flat_map-append, length-slice_split, sum_by-cons, sum_by-append, encode_ascii, encodes-chars, Position, common_start, first_position, position_after, position_past, first_difference, text_lines, cut_line, row, marked_lines, left_out, few_lines, is_left_out, lines_round, marked_text_with, compared, difference_line, IsLine, DifferingLinesAreShown}

-- One for a line feed, none for another number.
abbrev one_if_feed : ℕ → ℕ
one_if_feed c = cond (c == 10) 1 0

-- How many line feeds there are.
abbrev feeds : List ℕ → ℕ
feeds xs = sum_by one_if_feed xs

line_by : (p : Position) (feed : Bool) → (cond {A = Position} feed (record { line = suc p.line; column = 1 }) (record { line = p.line; column = suc p.column })).line ≡ p.line + cond feed 1 0
line_by p true = omega arith
line_by p false = omega arith

-- Each line feed begins a line.
lines_past : (p : Position) (cs : List ℕ) → (position_past p cs).line ≡ p.line + feeds cs
lines_past p [] = omega arith
lines_past p (c ∷ cs) =
    let after : (position_after p c).line ≡ p.line + one_if_feed c = line_by p (c == 10) in
    omega (arith, lines_past (position_after p c) cs, sum_by-cons one_if_feed c cs, after)

feed_by : (c : ℕ) (feed : Bool) → (c == 10) ≡ feed → cond feed 1 0 ≤ feeds (encode_utf8 c)
feed_by c true is = subst (λ (d : ℕ). 1 ≤ feeds (encode_utf8 d)) (sym (eqb-true c 10 is)) (omega (arith, ap feeds (encode_ascii 10 (omega arith))))
feed_by c false is = omega arith

-- A line feed is one byte.
feeds_in_bytes : (cs : List ℕ) → feeds cs ≤ feeds (encode_utf8_all cs)
feeds_in_bytes [] = omega arith
feeds_in_bytes (c ∷ cs) =
    let one : one_if_feed c ≤ feeds (encode_utf8 c) = feed_by c (c == 10) refl in
    let all : feeds (encode_utf8_all (c ∷ cs)) ≡ feeds (encode_utf8 c) + feeds (encode_utf8_all cs) = sum_by-append one_if_feed (encode_utf8 c) (encode_utf8_all cs) in
    omega (arith, sum_by-cons one_if_feed c cs, one, all, feeds_in_bytes cs)

common_by : (x y : ℕ) (xs ys common : List ℕ) (same : Bool) → (x == y) ≡ same → feeds common ≤ feeds xs → feeds common ≤ feeds ys →
    (feeds (cond same (x ∷ common) []) ≤ feeds (x ∷ xs)) × (feeds (cond same (x ∷ common) []) ≤ feeds (y ∷ ys))
common_by x y xs ys common true is first second =
    let same : one_if_feed x ≡ one_if_feed y = ap one_if_feed (eqb-true x y is) in
    (omega (arith, sum_by-cons one_if_feed x common, sum_by-cons one_if_feed x xs, first), omega (arith, sum_by-cons one_if_feed x common, sum_by-cons one_if_feed y ys, same, second))
common_by x y xs ys common false is first second = (omega arith, omega arith)

-- What two texts begin with alike has no more line feeds than either of them.
feeds_in_common : (xs ys : List ℕ) → (feeds (common_start xs ys) ≤ feeds xs) × (feeds (common_start xs ys) ≤ feeds ys)
feeds_in_common [] ys = (omega arith, omega arith)
feeds_in_common (x ∷ xs) [] = (omega arith, omega arith)
feeds_in_common (x ∷ xs) (y ∷ ys) = let both = feeds_in_common xs ys in common_by x y xs ys (common_start xs ys) (x == y) refl both.0 both.1

-- A text with as many line feeds has the line after them.
has_line : (text common : List ℕ) → IsUtf8 text → feeds common ≤ feeds (chars text) → (position_past first_position common).line ≤ length (text_lines text)
has_line text common utf8 fewer =
    let bytes : feeds (encode_utf8_all (chars text)) ≡ feeds text = ap feeds (encodes-chars text utf8) in
    let lines : length (text_lines text) ≡ feeds text + 1 = length-slice_split (λ (b : ℕ). b == 10) text in
    omega (arith, lines_past first_position common, fewer, feeds_in_bytes (chars text), bytes, lines)

-- What begins with the line of an index.
line_at : (k : ℕ) (lines : List (List ℕ)) → k < length lines → (line : List ℕ) × (rest : List (List ℕ)) × (drop k lines ≡ line ∷ rest)
line_at k [] below = absurd (omega arith)
line_at zero (line ∷ lines) below = (line, lines, refl)
line_at (suc k) (line ∷ lines) below = line_at k lines (omega arith)

-- A row of a line is among what is shown.
abbrev Shows : (List ℕ → List ℕ) → List ℕ → List ℕ → Type 0
Shows show line rows = (before : List ℕ) × (after : List ℕ) × (rows ≡ before ++ (show line ++ after))

among : (show : List ℕ → List ℕ) (line : List ℕ) (k : ℕ) (lines rest : List (List ℕ)) → drop k lines ≡ line ∷ rest → Shows show line (marked_lines show lines)
among show line k lines rest begins = (
  marked_lines show (take k lines),
  marked_lines show rest,
  ap (marked_lines show) (sym (take-append-drop k lines) ∙ ap (λ (others : List (List ℕ)). take k lines ++ others) begins) ∙ flat_map-append show (take k lines) (line ∷ rest),
)

before_more : (show : List ℕ → List ℕ) (line rows more : List ℕ) → Shows show line rows → Shows show line (rows ++ more)
before_more show line rows more (before, after, shown) =
    (before, after ++ more, ap (λ (some : List ℕ). some ++ more) shown ∙ append_assoc before _ more ∙ ap (λ (others : List ℕ). before ++ others) (append_assoc (show line) after more))

after_more : (show : List ℕ → List ℕ) (line more rows : List ℕ) → Shows show line rows → Shows show line (more ++ rows)
after_more show line more rows (before, after, shown) =
    (more ++ before, after, ap (λ (others : List ℕ). more ++ others) shown ∙ sym (append_assoc more before _))

-- The line is within the first so many.
within : (k more : ℕ) (lines rest : List (List ℕ)) (line : List ℕ) → drop k lines ≡ line ∷ rest → drop k (take (k + suc more) lines) ≡ line ∷ take more rest
within k more lines rest line begins = drop-take k (suc more) lines ∙ ap (take (suc more)) begins

-- The line is past the first so many.
past : (first k : ℕ) (lines rest : List (List ℕ)) (line : List ℕ) → first ≤ k → drop k lines ≡ line ∷ rest → drop (k - first) (drop first lines) ≡ line ∷ rest
past first k lines rest line less begins =
    let whole : first + (k - first) ≡ k = omega arith in
    drop-drop (k - first) first lines ∙ ap (λ (n : ℕ). drop n lines) whole ∙ begins

in_first : (show : List ℕ → List ℕ) (line : List ℕ) (k count : ℕ) (lines rest : List (List ℕ)) → k < count → drop k lines ≡ line ∷ rest → Shows show line (marked_lines show (take count lines))
in_first show line k count lines rest less begins =
    let whole : k + suc (count - k - 1) ≡ count = omega arith in
    among show line k (take count lines) (take (count - k - 1) rest) (subst (λ (n : ℕ). drop k (take n lines) ≡ line ∷ take (count - k - 1) rest) whole (within k (count - k - 1) lines rest line begins))

in_last : (show : List ℕ → List ℕ) (line : List ℕ) (k first : ℕ) (lines rest : List (List ℕ)) → first ≤ k → drop k lines ≡ line ∷ rest → Shows show line (marked_lines show (drop first lines))
in_last show line k first lines rest less begins = among show line (k - first) (drop first lines) rest (past first k lines rest line less begins)

in_round : (show : List ℕ → List ℕ) (line : List ℕ) (number : ℕ) (lines rest : List (List ℕ)) → 4 ≤ number → drop (number - 1) lines ≡ line ∷ rest → Shows show line (lines_round show number lines)
in_round show line number lines rest above begins =
    let three : (number - 1) - (number - 4) ≡ 3 = omega arith in
    let here : drop 3 (drop (number - 4) lines) ≡ line ∷ rest = subst (λ (n : ℕ). drop n (drop (number - 4) lines) ≡ line ∷ rest) three (past (number - 4) (number - 1) lines rest line (omega arith) begins) in
    after_more show line _ _ (after_more show line (left_out (number - 9)) _ (before_more show line _ (left_out (length lines - (number + 7)) ++ marked_lines show (drop (length lines - 4) lines)) (in_first show line 3 7 (drop (number - 4) lines) rest (omega arith) here)))

few_by : (show : List ℕ → List ℕ) (line : List ℕ) (number : ℕ) (lines rest : List (List ℕ)) (many : Bool) → nat_lt 20 (length lines) ≡ many → 1 ≤ number →
    (many ≡ true → (number ≤ 10) ⊎ (length lines ≤ number + 8)) → drop (number - 1) lines ≡ line ∷ rest →
    Shows show line (cond many (marked_lines show (take 10 lines) ++ (left_out (length lines - 19) ++ marked_lines show (drop (length lines - 9) lines))) (marked_lines show lines))
few_by show line number lines rest false is above sides begins = among show line (number - 1) lines rest begins
few_by show line number lines rest true is above sides begins = ⊎_elim
    (λ first. before_more show line _ _ (in_first show line (number - 1) 10 lines rest (omega arith) begins))
    (λ last. after_more show line _ _ (after_more show line (left_out (length lines - 19)) _ (in_last show line (number - 1) (length lines - 9) lines rest (omega arith) begins)))
    (sides refl)

shown_by : (show : List ℕ → List ℕ) (line : List ℕ) (number : ℕ) (lines rest : List (List ℕ)) (hidden : Bool) → is_left_out number (length lines) ≡ hidden → 1 ≤ number → drop (number - 1) lines ≡ line ∷ rest →
    Shows show line (cond hidden (lines_round show number lines) (few_lines show lines))
shown_by show line number lines rest true is above begins =
    let parts = and_parts (nat_lt 20 (length lines)) _ is in
    let sides = and_parts (nat_lt 10 number) _ parts.1 in
    in_round show line number lines rest (omega (arith, ltb-true 10 number sides.0)) begins
shown_by show line number lines rest false is above begins =
    few_by show line number lines rest (nat_lt 20 (length lines)) refl above
    (λ many. ⊎_elim
    (λ few. absurd (cc (few, many)))
    (λ outside. ⊎_elim (λ first. inl (ltb-false 10 number first)) (λ last. inr (omega (arith, ltb-false number (length lines - 8) last))) (and_cases (nat_lt 10 number) _ outside))
    (and_cases (nat_lt 20 (length lines)) _ is))
    begins

-- A line of a text is among those that are shown where it has to be.
line_shown : (mark text : List ℕ) (p : Position) → 1 ≤ p.line → p.line ≤ length (text_lines text) → (line : List ℕ) × IsLine text p.line line × Shows (row mark (Some p.column)) line (marked_text_with mark p text)
unfolding marked_text_with
line_shown mark text p above below =
    let number = p.line in
    let lines = text_lines text in
    let found = line_at (number - 1) lines (omega arith) in
    let size : length (take (number - 1) lines) + 1 ≡ number = omega (arith, length-take (number - 1) lines) in (
      found.0,
      (take (number - 1) lines, found.1, sym (take-append-drop (number - 1) lines) ∙ ap (λ (others : List (List ℕ)). take (number - 1) lines ++ others) found.2, size),
      shown_by (row mark (Some p.column)) found.0 number lines found.1 (is_left_out number (length lines)) refl above found.2,
    )

-- Of both texts the line is shown.
pub both_shown : DifferingLinesAreShown
unfolding compared
both_shown expected found utf8 utf8' =
    let p = first_difference expected found in
    let common = common_start (chars expected) (chars found) in
    let fewer = feeds_in_common (chars expected) (chars found) in
    let above : 1 ≤ p.line = omega (arith, lines_past first_position common) in
    let first = line_shown (codes "expected") expected p above (has_line expected common utf8 fewer.0) in
    let second = line_shown (codes "found   ") found p above (has_line found common utf8' fewer.1) in
    let more = before_more (row (codes "found   ") (Some p.column)) second.0 _ (difference_line p) second.2 in (
      first.0,
      second.0,
      first.1,
      second.1,
      first.2.0,
      first.2.1 ++ more.0,
      more.1,
      ap (λ (rows : List ℕ). rows ++ (marked_text_with (codes "found   ") p found ++ difference_line p)) first.2.2
          ∙ append_assoc first.2.0 _ _
          ∙ ap (λ (rows : List ℕ). first.2.0 ++ rows) (append_assoc (cut_line (codes "expected") p.column (chars first.0)) first.2.1 _
          ∙ ap (λ (rows : List ℕ). cut_line (codes "expected") p.column (chars first.0) ++ rows) (ap (λ (rows : List ℕ). first.2.1 ++ rows) more.2 ∙ sym (append_assoc first.2.1 more.0 _))),
    )
