-- What pushing one text after another gives.
use Rattle.gk_report.proofs.Common.{◌≡◌, ◌≢◌, ℕ, suc, ◌<◌, false, ◌==◌, List, [], ◌∷◌, ◌++◌, length, get_or, Option, Some, None, Bor, refl, ap, sym, ◌∙◌, arith, ne_eqb, or_parts, IsSplitOnceResult, split_parts, list_any, one_line}
use Rattle.std.proofs.lemmas.List.{append_assoc}

-- One text after another.
pub written_after : (start first second : List ℕ) {middle end : List ℕ} → middle ≡ start ++ first → end ≡ middle ++ second → end ≡ start ++ (first ++ second)
written_after start first second a b = b ∙ ap (λ bs. bs ++ second) a ∙ append_assoc start first second

-- What was pushed goes from what is to come to what is there.
pub pushed : {s' rest total : List ℕ} (s part after : List ℕ) → s' ≡ s ++ part → rest ≡ part ++ after → s ++ rest ≡ total → s' ++ after ≡ total
pushed s part after a b t = rw a (append_assoc s part after ∙ ap (λ (bs : List ℕ). s ++ bs) (sym b) ∙ t)

-- A text without a byte.
pub record Without (c : ℕ) (bs : List ℕ) : Type 0 where
  pub at : (i : ℕ) → i < length bs → get_or bs i 0 ≢ c

without_after : {c b : ℕ} {bs : List ℕ} → Without c (b ∷ bs) → Without c bs
without_after {c} {b} {bs} w = record { at = λ i h. w.at (suc i) (omega arith) }

without_first : {c b : ℕ} {bs : List ℕ} → Without c (b ∷ bs) → b ≢ c
without_first {c} {b} {bs} w = w.at 0 (omega arith)

-- What is cut off at a byte.
module _ (c : ℕ) (bs : List ℕ) (r : Option (Bor (List ℕ) × Bor (List ℕ))) (split : IsSplitOnceResult c bs r) (ascii : c < 128) where
  pub cut : (x : Bor (List ℕ) × Bor (List ℕ)) → r ≡ Some x → (bs ≡ x.0.now ++ c ∷ x.1.now) × Without c x.0.now
  cut x is = let p = rw is at (split_parts c bs r split ascii) in (p.0, record { at = p.1 })

  pub uncut : r ≡ None → Without c bs
  uncut is = record { at = rw is at (split_parts c bs r split ascii) }

-- What stands before a line feed stays.
pub one_line_to : (bs after : List ℕ) → Without 10 bs → one_line (bs ++ after) ≡ bs ++ one_line after
unfolding one_line
one_line_to [] after w = refl
one_line_to (b ∷ bs) after w = rw (ne_eqb b 10 (without_first w)) (ap (λ (bs : List ℕ). b ∷ bs) (one_line_to bs after (without_after w)))

-- A text without a line feed stays.
pub one_line_end : (bs : List ℕ) → Without 10 bs → one_line bs ≡ bs
unfolding one_line
one_line_end [] w = refl
one_line_end (b ∷ bs) w = rw (ne_eqb b 10 (without_first w)) (ap (λ (bs : List ℕ). b ∷ bs) (one_line_end bs (without_after w)))

-- A text in which no line feed is found stays.
pub one_line_plain : (bs : List ℕ) → list_any (λ b. b == 10) bs ≡ false → one_line bs ≡ bs
unfolding one_line
one_line_plain [] none = refl
one_line_plain (b ∷ bs) none =
    let parts = or_parts (b == 10) (list_any (λ b. b == 10) bs) none in
    rw parts.0 (ap (λ (bs : List ℕ). b ∷ bs) (one_line_plain bs parts.1))

-- A line feed becomes a backslash and `n`.
pub one_line_feed : (after : List ℕ) → one_line (10 ∷ after) ≡ 92 ∷ 110 ∷ one_line after
unfolding one_line
one_line_feed after = refl
