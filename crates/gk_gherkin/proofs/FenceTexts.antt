-- The text of a content line, from one escaped fence to the next.
use Rattle.gk_gherkin.proofs.Common.{◌≡◌, ◌≢◌, ℕ, zero, suc, ◌+◌, ◌-◌, ◌<◌, ◌≤◌, Bool, true, false, cond, List, [], ◌∷◌, ◌++◌, length, drop, take, get_or, Option, Some, None, Bor, refl, sym, ap, ◌∙◌, subst, arith, common_steps, MatchOption, nat_tests, append-nil, starts_text, split_text_parts, FindsText, Fence, Quotes, Backticks, fence_text, begins, escaped_fence, fences_read, ReadsFences, nothing, a_fence, a_byte, ReadsOneWay}
use Rattle.gk_gherkin.proofs.Containing.{begun}

not_here : (fence : Fence) (b : ℕ) (bs : List ℕ) → begins (b ∷ bs) (escaped_fence fence) ≡ false → fences_read fence 0 (b ∷ bs) ≡ b ∷ fences_read fence 0 bs
not_here fence b bs e = ap (λ (t : Bool). cond t (fence_text fence ++ fences_read fence (length (escaped_fence fence) - 1) bs) (b ∷ fences_read fence 0 bs)) e

pub before_fence : (fence : Fence) (xs ys : List ℕ) → ((i : ℕ) → i < length xs → begins (drop i (xs ++ ys)) (escaped_fence fence) ≡ false) → fences_read fence 0 (xs ++ ys) ≡ xs ++ fences_read fence 0 ys
before_fence fence [] ys h = refl
before_fence fence (x ∷ xs) ys h =
    not_here fence x (xs ++ ys) (h 0 (omega arith)) ∙ ap (λ (t : List ℕ). x ∷ t) (before_fence fence xs ys (λ i below. h (suc i) (omega arith)))

lacks : (fence : Fence) (text : List ℕ) (i : ℕ) → ((rest : List ℕ) → drop i text ≢ escaped_fence fence ++ rest) → begins (drop i text) (escaped_fence fence) ≡ false
lacks fence text i h = sym (starts_text false (escaped_fence fence) (drop i text) h)

pub at_fence : (fence : Fence) (text xs after : List ℕ) → text ≡ xs ++ (escaped_fence fence ++ after) → ((i : ℕ) → i < length xs → (rest : List ℕ) → drop i text ≢ escaped_fence fence ++ rest) → fences_read fence 0 text ≡ xs ++ (fence_text fence ++ fences_read fence 0 after)
at_fence fence text xs after e h = grind (arith, common_steps, before_fence, lacks)

pub no_fence : (fence : Fence) (text : List ℕ) → ((i : ℕ) → i ≤ length text → (rest : List ℕ) → drop i text ≢ escaped_fence fence ++ rest) → fences_read fence 0 text ≡ text
no_fence fence text h =
    let whole : text ++ [] ≡ text = append-nil text in
    ap (fences_read fence 0) (sym whole)
    ∙ before_fence fence text [] (λ i below. ap (λ (t : List ℕ). begins (drop i t) (escaped_fence fence)) whole ∙ lacks fence text i (h i (omega arith)))
    ∙ whole

-- each text reads as one text
at_start : (fence : Fence) (after : List ℕ) → fences_read fence 0 (escaped_fence fence ++ after) ≡ fence_text fence ++ fences_read fence 0 after
at_start Quotes after = refl
at_start Backticks after = refl

only_reading : (fence : Fence) {text said : List ℕ} → ReadsFences fence text said → said ≡ fences_read fence 0 text
only_reading fence nothing = refl
only_reading fence (a_fence {text = text} more) = ap (λ (t : List ℕ). fence_text fence ++ t) (only_reading fence more) ∙ sym (at_start fence text)
only_reading fence (a_byte {b = b} {text = text} e more) = ap (λ (t : List ℕ). b ∷ t) (only_reading fence more) ∙ sym (not_here fence b text e)

after_escape : (fence : Fence) (b : ℕ) (bs : List ℕ) → drop (length (escaped_fence fence)) (b ∷ bs) ≡ drop (length (escaped_fence fence) - 1) bs
after_escape Quotes b bs = refl
after_escape Backticks b bs = refl

reading_from : (fence : Fence) (b : ℕ) (bs : List ℕ) (t : Bool) → begins (b ∷ bs) (escaped_fence fence) ≡ t →
    ReadsFences fence (drop (length (escaped_fence fence) - 1) bs) (fences_read fence (length (escaped_fence fence) - 1) bs) →
    ReadsFences fence bs (fences_read fence 0 bs) → ReadsFences fence (b ∷ bs) (fences_read fence 0 (b ∷ bs))
reading_from fence b bs true e more next =
    let skip = length (escaped_fence fence) - 1 in
    let parts : b ∷ bs ≡ escaped_fence fence ++ drop skip bs = begun (b ∷ bs) (escaped_fence fence) e ∙ ap (λ (t : List ℕ). escaped_fence fence ++ t) (after_escape fence b bs) in
    let said : fences_read fence 0 (b ∷ bs) ≡ fence_text fence ++ fences_read fence skip bs = ap (λ (t : Bool). cond t (fence_text fence ++ fences_read fence skip bs) (b ∷ fences_read fence 0 bs)) e in
    subst (λ (t : List ℕ). ReadsFences fence t (fences_read fence 0 (b ∷ bs))) (sym parts) (subst (ReadsFences fence (escaped_fence fence ++ drop skip bs)) (sym said) (a_fence more))
reading_from fence b bs false e more next = subst (ReadsFences fence (b ∷ bs)) (sym (not_here fence b bs e)) (a_byte e next)

reading_after : (fence : Fence) (skip : ℕ) (text : List ℕ) → ReadsFences fence (drop skip text) (fences_read fence skip text)
reading_after fence zero [] = nothing
reading_after fence (suc skip) [] = nothing
reading_after fence (suc skip) (b ∷ bs) = reading_after fence skip bs
reading_after fence zero (b ∷ bs) =
    reading_from fence b bs (begins (b ∷ bs) (escaped_fence fence)) refl (reading_after fence (length (escaped_fence fence) - 1) bs) (reading_after fence zero bs)

pub reads_one_way : (fence : Fence) (text : List ℕ) → ReadsOneWay fence text
reads_one_way fence text = record { reads = reading_after fence 0 text; only = λ said reading. only_reading fence reading }

no_start : (fence : Fence) (b : ℕ) (bs : List ℕ) → b ≢ 92 → begins (b ∷ bs) (escaped_fence fence) ≡ false
no_start Quotes b bs h = grind (arith, nat_tests)
no_start Backticks b bs h = grind (arith, nat_tests)

-- A text without a backslash has no escaped fence.
pub plain_text : (fence : Fence) (text : List ℕ) → ((i : ℕ) → i < length text → get_or text i 0 ≢ 92) → fences_read fence 0 text ≡ text
plain_text fence [] h = refl
plain_text fence (b ∷ bs) h =
    let first : b ≢ 92 = h 0 (omega arith) in
    not_here fence b bs (no_start fence b bs first) ∙ ap (λ (t : List ℕ). b ∷ t) (plain_text fence bs (λ i below. h (suc i) (omega arith)))

abbrev IsTextSplit : List ℕ → List ℕ → Option (Bor (List ℕ) × Bor (List ℕ)) → Type 0
IsTextSplit p bs r = MatchOption r (FindsText p bs None) (λ x. (i : ℕ) × (j : ℕ) × FindsText p bs (Some (i, j)) × (x.0.now ≡ take i bs) × (x.1.now ≡ drop j bs) × (i ≤ j) × (length x.0.now ≡ i) × (length x.1.now + j ≡ length bs))

-- A text that is cut at its first escaped fence.
module _ (fence : Fence) (text mark : List ℕ) (r : Option (Bor (List ℕ) × Bor (List ℕ))) (e : mark ≡ escaped_fence fence) (split : IsTextSplit mark text r) where
  pub found_fence : (x : Bor (List ℕ) × Bor (List ℕ)) → r ≡ Some x → fences_read fence 0 text ≡ x.0.now ++ (fence_text fence ++ fences_read fence 0 x.1.now)
  found_fence x is =
      let cut : IsTextSplit (escaped_fence fence) text r = subst (λ (p : List ℕ). IsTextSplit p text r) e split in
      let parts : text ≡ x.0.now ++ (escaped_fence fence ++ x.1.now) = rw is at (split_text_parts (escaped_fence fence) text r cut) in
      let found = rw is at cut in
      at_fence fence text x.0.now x.1.now parts (λ i below. found.2.0 i (omega (arith, found.6)))

  pub missed_fence : r ≡ None → fences_read fence 0 text ≡ text
  missed_fence is =
      let cut : IsTextSplit (escaped_fence fence) text r = subst (λ (p : List ℕ). IsTextSplit p text r) e split in
      no_fence fence text (rw is at cut)
