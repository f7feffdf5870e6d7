-- The first line of a text, and the lines after it.
use Rattle.gk_gherkin.proofs.Common.{◌≡◌, ℕ, ◌+◌, ◌<◌, false, refl, List, [], ◌∷◌, length, take, drop, get_or, None, Some, ap, ◌∙◌, arith, rules, common_steps, false_from_ne_true, nat_tests, All-from_get_or, position_or_len_is, slice_split_first, slice_split_none, length-slice_split, lines, lines_of_parts, strip_carriage_return, IsFirstByte, is_byte}

-- Only the last part isn't followed by a newline.
before_parts : (part : List ℕ) (parts : List (List ℕ)) → 0 < length parts → lines_of_parts (part ∷ parts) ≡ strip_carriage_return part ∷ lines_of_parts parts
before_parts part [] some = absurd (omega arith)
before_parts part (next ∷ parts) some = refl

-- A last part is a line unless it is empty.
last_part : (part : List ℕ) → 0 < length part → lines_of_parts (part ∷ []) ≡ part ∷ []
last_part part some = grind (arith, common_steps)

pub end_in : (text : List ℕ) (end : ℕ) → IsFirstByte (is_byte 10) text (Some end) → (end < length text) × (get_or text end 0 ≡ 10)
end_in text end first = (first.0.high, grind (arith, nat_tests, first.1))

pub up_to_end : (text : List ℕ) (end : ℕ) → IsFirstByte (is_byte 10) text (Some end) → lines text ≡ strip_carriage_return (take end text) ∷ lines (drop (end + 1) text)
up_to_end text end first = search (rules, position_or_len_is, false_from_ne_true, slice_split_first, before_parts, length-slice_split)

pub without_end : (text : List ℕ) → 0 < length text → IsFirstByte (is_byte 10) text None → lines text ≡ text ∷ []
without_end [] some none = absurd (omega arith)
without_end (b ∷ text) some none =
    ap lines_of_parts (slice_split_none (is_byte 10) (b ∷ text) (All-from_get_or (λ b. is_byte 10 b ≡ false) (b ∷ text) 0 (λ k below. false_from_ne_true _ (none k (omega arith) below))))
    ∙ last_part (b ∷ text) some

pub no_lines : (text : List ℕ) → length text ≡ 0 → lines text ≡ []
no_lines [] none = refl
no_lines (b ∷ text) none = absurd (omega arith)
