-- No lines have two faults: no line has two, no lines have two faulty lines, and none that end in a doc string or after tags have one.
use Rattle.gk_gherkin.proofs.Common.{◌≡◌, ℕ, true, false, ◌⊎◌, List, [], ◌∷◌, ◌++◌, Option, Some, None, AllByRecursion, ◌∙◌, sym, inl, inr, refl, subst, append_assoc, ap, arith, LineValue, Lines, line_at, closes, Fence, Quotes, Backticks, class, fence_text, cells_of, IsReadable, SomeLikeIt, NoneLikeIt, AnyLineSays, StopsAt, EndsInDocString, EndsInTags, IsLineFault, LineSays, line_of_fault, FenceLine, RowLine, ReadFault, BadRow, CellCount, Unexpected, common_steps}

-- Where a list is cut at two lines: these are the same, or one lies after the other.
pub data Cuts (a b more others : Lines) (x y : LineValue) : Type 0 where
  same : a ≡ b → x ≡ y → Cuts a b more others x y
  first : (mid : Lines) → b ≡ a ++ x ∷ mid → more ≡ mid ++ y ∷ others → Cuts a b more others x y
  second : (mid : Lines) → a ≡ b ++ y ∷ mid → others ≡ mid ++ x ∷ more → Cuts a b more others x y

further : (l : LineValue) (a b more others : Lines) (x y : LineValue) → Cuts a b more others x y → Cuts (l ∷ a) (l ∷ b) more others x y
further l a b more others x y (same d e) = same (ap (λ t. l ∷ t) d) e
further l a b more others x y (first mid d e) = first mid (ap (λ t. l ∷ t) d) e
further l a b more others x y (second mid d e) = second mid (ap (λ t. l ∷ t) d) e

head_same : (l k : LineValue) (ls ks : Lines) → l ∷ ls ≡ k ∷ ks → l ≡ k
head_same l k ls ks e = cc

tail_same : (l k : LineValue) (ls ks : Lines) → l ∷ ls ≡ k ∷ ks → ls ≡ ks
tail_same l k ls ks e = cc

pub cuts : (a b more others : Lines) (x y : LineValue) → a ++ x ∷ more ≡ b ++ y ∷ others → Cuts a b more others x y
cuts [] [] more others x y e = grind (arith, common_steps)
cuts [] (l ∷ b) more others x y e = first b (ap (λ (k : LineValue). k ∷ b) (sym (head_same x l more (b ++ y ∷ others) e))) (tail_same x l more (b ++ y ∷ others) e)
cuts (l ∷ a) [] more others x y e = second a (ap (λ (k : LineValue). k ∷ a) (head_same l y (a ++ x ∷ more) others e)) (sym (tail_same l y (a ++ x ∷ more) others e))
cuts (l ∷ a) (k ∷ b) more others x y e = subst (λ k. Cuts (l ∷ a) (k ∷ b) more others x y) (head_same l k (a ++ x ∷ more) (b ++ y ∷ others) e) (further l a b more others x y (cuts a b more others x y (tail_same l k (a ++ x ∷ more) (b ++ y ∷ others) e)))

pub all_before : (P : LineValue → Type 0) (a b : Lines) → AllByRecursion P (a ++ b) → AllByRecursion P a
all_before P [] b h = tt
all_before P (l ∷ a) b h = (h.0, all_before P a b h.1)

pub closing_line : (fence : Fence) → closes fence (line_at 1 (fence_text fence)) ≡ true
unfolding closes
closing_line Quotes = refl
closing_line Backticks = refl

-- the fault of a row that may stand
abbrev pub row_fault : Option (List (List ℕ)) → ℕ → ReadFault
row_fault None n = BadRow n
row_fault (Some cells) n = CellCount n

pub same_line : (n m : ℕ) → ◌≡◌ {A = Option ℕ} (Some n) (Some m) → n ≡ m
same_line n m e = cc

module _ (Readable : Lines → Type 0) {C : Type 0} (kind : LineValue → C) where
  pub some_or_none : (before : Lines) (line : LineValue) → NoneLikeIt Readable kind before line → SomeLikeIt Readable kind before line → ⊥
  some_or_none before line none (other, alike, (more, readable)) = none other alike more readable

  -- lines after which nothing readable begins stand in no readable list
  not_in_readable : (before mid : Lines) (line : LineValue) → ((more : Lines) → Readable ((before ++ line ∷ []) ++ more) → ⊥) → Readable (before ++ line ∷ mid) → ⊥
  not_in_readable before mid line stops readable = stops mid (subst Readable (sym (append_assoc before (line ∷ []) mid)) readable)

  not_before : (before mid : Lines) (line : LineValue) → ((more : Lines) → Readable ((before ++ line ∷ []) ++ more) → ⊥)
      → Readable (before ++ line ∷ mid) ⊎ ((extra : LineValue) × Readable ((before ++ line ∷ mid) ++ extra ∷ [])) → ⊥
  not_before before mid line stops (inl readable) = not_in_readable before mid line stops readable
  not_before before mid line stops (inr (extra, readable)) = not_in_readable before (mid ++ extra ∷ []) line stops (subst Readable (append_assoc before (line ∷ mid) (extra ∷ [])) readable)

  -- a fault of a line: none like it can stand there, or one can, and the fault is this line's own
  abbrev pub Decided : (LineValue → ReadFault) → ReadFault → Lines → LineValue → Type 0
  Decided own e before l = ((e ≡ Unexpected l.line) × NoneLikeIt Readable kind before l) ⊎ ((e ≡ own l) × SomeLikeIt Readable kind before l)

  -- of_row: the fault of a row is its line's own
  pub decided_any : (own : LineValue → ReadFault) → ((l : LineValue) (cells : Option (List (List ℕ))) → class l ≡ RowLine → cells_of l ≡ cells → row_fault cells l.line ≡ own l)
      → (e : ReadFault) (before : Lines) (l : LineValue) → line_of_fault e ≡ Some l.line → AnyLineSays Readable kind e before l → Decided own e before l
  decided_any own of_row (Unexpected n) before l number h = inl (ap Unexpected (same_line n l.line number), h)
  decided_any own of_row (BadRow n) before l number h = inr (ap BadRow (same_line n l.line number) ∙ of_row l None h.is h.bad, h.fits)
  decided_any own of_row (CellCount n) before l number h = inr (ap CellCount (same_line n l.line number) ∙ of_row l (Some h.cells) h.is h.good, h.fits)
  decided_any own of_row _ before l number h = absurd h

  -- two facts of one line are the same fault
  pub same_fault : (own : LineValue → ReadFault) (one other : ReadFault) (before : Lines) (l : LineValue) → Decided own one before l → Decided own other before l → one ≡ other
  same_fault own one other before l (inl f) (inl g) = f.0 ∙ sym g.0
  same_fault own one other before l (inl f) (inr g) = absurd (some_or_none before l f.1 g.1)
  same_fault own one other before l (inr f) (inl g) = absurd (some_or_none before l g.1 f.1)
  same_fault own one other before l (inr f) (inr g) = f.0 ∙ sym g.0

  -- lines that end in a doc string end in no other, where a fence that opens one is at no readable end until it is closed
  pub one_opening : ((before mid : Lines) (opening : LineValue) (fence : Fence) → class opening ≡ FenceLine fence → Readable before → (Readable (before ++ opening ∷ []) → ⊥) → AllByRecursion (λ line. closes fence line ≡ false) mid → Readable (before ++ opening ∷ mid) → ⊥)
      → (ls : Lines) (n m : ℕ) (f : EndsInDocString Readable kind ls n) (g : EndsInDocString Readable kind ls m) → Cuts f.before g.before f.content g.content f.opening g.opening → n ≡ m
  one_opening until ls n m f g (same d e) = sym f.number ∙ (ap (λ (l : LineValue). l.line) e ∙ g.number)
  one_opening until ls n m f g (first mid e more) =
      absurd (until f.before mid f.opening f.fence f.is f.fits f.opens (all_before (λ line. closes f.fence line ≡ false) mid (g.opening ∷ g.content) (subst (AllByRecursion (λ line. closes f.fence line ≡ false)) more f.inside)) (subst Readable e g.fits))
  one_opening until ls n m f g (second mid e more) =
      absurd (until g.before mid g.opening g.fence g.is g.fits g.opens (all_before (λ line. closes g.fence line ≡ false) mid (f.opening ∷ f.content) (subst (AllByRecursion (λ line. closes g.fence line ≡ false)) more g.inside)) (subst Readable e f.fits))

-- Says: what the faults on lines say
module _ (Readable : Lines → Type 0) {C : Type 0} (kind : LineValue → C) (Says : ReadFault → Lines → LineValue → Type 0) (ls : Lines) where
  -- two faults on lines are on one line
  one_cut_of : (one other : ReadFault) (f : StopsAt Readable kind ls one Says) (g : StopsAt Readable kind ls other Says) → Cuts f.before g.before f.after g.after f.line g.line → (f.before ≡ g.before) × (f.line ≡ g.line)
  one_cut_of one other f g (same d e) = (d, e)
  one_cut_of one other f g (first mid e more) = absurd (not_before Readable kind f.before mid f.line f.stops (subst (λ t. Readable t ⊎ ((extra : LineValue) × Readable (t ++ extra ∷ []))) e g.fits))
  one_cut_of one other f g (second mid e more) = absurd (not_before Readable kind g.before mid g.line g.stops (subst (λ t. Readable t ⊎ ((extra : LineValue) × Readable (t ++ extra ∷ []))) e f.fits))

  one_cut : (one other : ReadFault) (f : StopsAt Readable kind ls one Says) (g : StopsAt Readable kind ls other Says) → (f.before ≡ g.before) × (f.line ≡ g.line)
  one_cut one other f g = one_cut_of one other f g (cuts f.before g.before f.after g.after f.line g.line (sym f.whole ∙ g.whole))

  -- and so they are the same
  pub one_line_fault : (own : LineValue → ReadFault)
      → ((e : ReadFault) (before : Lines) (l : LineValue) → Readable before ⊎ ((extra : LineValue) × Readable (before ++ extra ∷ [])) → line_of_fault e ≡ Some l.line → Says e before l → Decided Readable kind own e before l)
      → (one other : ReadFault) → StopsAt Readable kind ls one Says → StopsAt Readable kind ls other Says → one ≡ other
  one_line_fault own decided one other f g =
      let e = one_cut one other f g in
      let here : Decided Readable kind own one f.before f.line = decided one f.before f.line f.fits f.number f.says in
      let there : Decided Readable kind own other g.before g.line = decided other g.before g.line g.fits g.number g.says in
      same_fault Readable kind own one other g.before g.line (subst (λ (ls : Lines). Decided Readable kind own one ls g.line) e.0 (subst (λ (l : LineValue). Decided Readable kind own one f.before l) e.1 here)) there

  -- where a line more makes lines readable, none of them is faulty
  no_fault : (e : ReadFault) (extra : LineValue) → StopsAt Readable kind ls e Says → Readable (ls ++ extra ∷ []) → ⊥
  no_fault e extra f readable = not_before Readable kind f.before f.after f.line f.stops (inr (extra, subst (λ t. Readable (t ++ extra ∷ [])) f.whole readable))

  -- lines that end in a doc string have no faulty line
  pub no_fault_in_doc_string : (e : ReadFault) (n : ℕ) → StopsAt Readable kind ls e Says → EndsInDocString Readable kind ls n → ⊥
  no_fault_in_doc_string e n f ends = no_fault e (line_at 1 (fence_text ends.fence)) f (ends.closed (line_at 1 (fence_text ends.fence)) (closing_line ends.fence))

-- lines that end after tags have no faulty line
pub no_fault_before_end : (ls : Lines) (e : ReadFault) (n : ℕ) → IsLineFault e ls → EndsInTags ls n → ⊥
no_fault_before_end ls e n f ends = no_fault IsReadable class LineSays ls e ends.fits.0 f ends.fits.2
