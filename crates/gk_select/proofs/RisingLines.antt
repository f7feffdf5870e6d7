-- What lines whose numbers rise leave for what a part reads from them, and for the lines after it.
use Rattle.gk_select.proofs.Common.{ℕ, zero, suc, ◌+◌, ◌≤◌, ◌<◌, List, [], ◌∷◌, ◌++◌, length, map, get_or, Option, Some, None, sym, subst, arith, inl, inr, common_steps, IsNonDecreasingBy, IsStrictlyIncreasing, Class, LineValue, Lines, numbered_from, BlockValue, Empty, Text, Table, StepValue, RowValue, ExamplesValue, BackgroundValue, IsIgnored, Skips, skip_none, skip, Next, Many, none, more, Perhaps, AreTags, untagged, IsTaggedHeading, Describes, described, describe, IsRow, IsBlock, IsStep, AreSteps, IsBackground, HasTable, AreExamples}
use Rattle.gk_gherkin.specs.Grammar.{tagged}

-- These numbers rise, from n on, and are below m.
abbrev pub Between : {A : Type 0} → (A → ℕ) → ℕ → List A → ℕ → Type 0
Between line n [] m = n ≤ m
Between line n (x ∷ xs) m = (n ≤ line x) × Between line (suc (line x)) xs m

pub between_ends : {A : Type 0} (line : A → ℕ) (n m : ℕ) (xs : List A) → Between line n xs m → n ≤ m
between_ends line n m [] b = b
between_ends line n m (x ∷ xs) b = let behind = between_ends line (suc (line x)) m xs b.1 in omega (arith, b.0, behind)

pub between_less : {A : Type 0} (line : A → ℕ) (least n m : ℕ) (xs : List A) → least ≤ n → Between line n xs m → Between line least xs m
between_less line least n m [] l b = omega (arith, l, b)
between_less line least n m (x ∷ xs) l b = (omega (arith, l, b.0), b.1)

pub between_append : {A : Type 0} (line : A → ℕ) (n m k : ℕ) (xs ys : List A) → Between line n xs m → Between line m ys k → Between line n (xs ++ ys) k
between_append line n m k [] ys b c = between_less line n m k ys b c
between_append line n m k (x ∷ xs) ys b c = (b.0, between_append line (suc (line x)) m k xs ys b.1 c)

pub between_map : {A : Type 0} (line : A → ℕ) (n m : ℕ) (xs : List A) → Between line n xs m → Between (λ (x : ℕ). x) n (map line xs) m
between_map line n m [] b = b
between_map line n m (x ∷ xs) b = (b.0, between_map line (suc (line x)) m xs b.1)

between_least : {A : Type 0} (line : A → ℕ) (n m : ℕ) (xs : List A) → Between line n xs m → (j : ℕ) (d : A) → j < length xs → n ≤ line (get_or xs j d)
between_least line n m [] b j d lt = absurd (omega (arith, lt))
between_least line n m (x ∷ xs) b zero d lt = b.0
between_least line n m (x ∷ xs) b (suc j) d lt = let behind = between_least line (suc (line x)) m xs b.1 j d (omega (arith, lt)) in omega (arith, b.0, behind)

pub between_rises : {A : Type 0} (line : A → ℕ) (n m : ℕ) (xs : List A) → Between line n xs m → IsNonDecreasingBy line xs
between_rises line n m [] b i j d le lt = absurd (omega (arith, lt))
between_rises line n m (x ∷ xs) b zero zero d le lt = omega arith
between_rises line n m (x ∷ xs) b zero (suc j) d le lt = let behind = between_least line (suc (line x)) m xs b.1 j d (omega (arith, lt)) in omega (arith, behind)
between_rises line n m (x ∷ xs) b (suc i) zero d le lt = absurd (omega (arith, le))
between_rises line n m (x ∷ xs) b (suc i) (suc j) d le lt = between_rises line (suc (line x)) m xs b.1 i j d (omega (arith, le)) (omega (arith, lt))

pub between_increases : (n m : ℕ) (xs : List ℕ) → Between (λ (x : ℕ). x) n xs m → IsStrictlyIncreasing xs
between_increases n m [] b k lt = absurd (omega (arith, lt))
between_increases n m (x ∷ []) b k lt = absurd (omega (arith, lt))
between_increases n m (x ∷ y ∷ ys) b zero lt = omega (arith, b.1.0)
between_increases n m (x ∷ y ∷ ys) b (suc k) lt = grind (arith, common_steps, between_increases (suc x) m (y ∷ ys) b.1 k (omega (arith, lt)))

-- The numbers of lines rise, from n on.
abbrev pub Rise : ℕ → Lines → Type 0
Rise n [] = Unit {0}
Rise n (l ∷ ls) = (n ≤ l.line) × Rise (suc l.line) ls

rise_less : (least n : ℕ) (ls : Lines) → least ≤ n → Rise n ls → Rise least ls
rise_less least n [] l r = tt
rise_less least n (x ∷ ls) l r = (omega (arith, l, r.0), r.1)

pub numbered_rise : (n : ℕ) (texts : List (List ℕ)) → Rise n (numbered_from n texts)
numbered_rise n [] = tt
numbered_rise n (text ∷ texts) = grind (arith, common_steps, numbered_rise (n + 1) texts)

-- What a part leaves where nothing is asked of what it says.
skips_rise : {Ignored : LineValue → Type 0} (n : ℕ) {ls rest : Lines} → Skips Ignored ls rest → Rise n ls → Rise n rest
skips_rise n skip_none r = r
skips_rise n (skip {l = l} {ls = ls} ignored skips) r = skips_rise n skips (rise_less n (suc l.line) ls (omega (arith, r.0)) r.1)

next_rise : {Ignored : LineValue → Type 0} (n : ℕ) (ls : Lines) (l : LineValue) (rest : Lines) → Next Ignored ls l rest → Rise n ls → Rise n rest
next_rise n ls l rest next r = let found : Rise n (l ∷ rest) = skips_rise n next r in rise_less n (suc l.line) rest (omega (arith, found.0)) found.1

front_rise : (n : ℕ) (front rest : Lines) → Rise n (front ++ rest) → Rise n rest
front_rise n [] rest r = r
front_rise n (l ∷ front) rest r = rise_less n (suc l.line) rest (omega (arith, r.0)) (front_rise (suc l.line) front rest r.1)

many_rise : {A : Type 0} (Part : Lines → A → Lines → Type 0) (n : ℕ) {ls rest : Lines} {xs : List A} → ((a : Lines) (x : A) (b : Lines) → Part a x b → Rise n a → Rise n b) → Many Part ls xs rest → Rise n ls → Rise n rest
many_rise Part n each none r = r
many_rise Part n each (more {ls = ls} {mid = mid} {x = x} part parts) r = many_rise Part n each parts (each ls x mid part r)

tags_rise : {Ignored : LineValue → Type 0} (n : ℕ) {ls rest : Lines} {tags : List (List ℕ)} → AreTags Ignored ls tags rest → Rise n ls → Rise n rest
tags_rise n untagged r = r
tags_rise n (tagged {ls = ls} {mid = mid} first behind) r = tags_rise n behind (next_rise n ls first.line mid first.next r)

pub describes_rise : {May : Class → Type 0} (n : ℕ) {ls rest : Lines} → Describes May ls rest → Rise n ls → Rise n rest
describes_rise n described r = r
describes_rise n (describe {l = l} {ls = ls} {mid = mid} next may behind) r = describes_rise n behind (next_rise n ls l mid next r)

row_rise : (n : ℕ) (ls : Lines) (row : RowValue) (rest : Lines) → IsRow ls row rest → Rise n ls → Rise n rest
row_rise n ls row rest i r = next_rise n ls i.line rest i.next r

block_rise : (n : ℕ) (ls : Lines) (block : BlockValue) (rest : Lines) → IsBlock ls block rest → Rise n ls → Rise n rest
block_rise n ls Empty rest i r = subst (Rise n) i r
block_rise n ls (Text text) rest i r =
    front_rise n (i.closing ∷ []) rest (front_rise n i.content (i.closing ∷ rest) (next_rise n ls i.opening (i.content ++ i.closing ∷ rest) i.next r))
block_rise n ls (Table cells) rest i r = many_rise IsRow n (row_rise n) i.1.lines r

step_rise : (n : ℕ) (ls : Lines) (step : StepValue) (rest : Lines) → IsStep ls step rest → Rise n ls → Rise n rest
step_rise n ls step rest i r = block_rise n i.after_line step.block rest i.block (next_rise n ls i.line.line i.after_line i.line.next r)

pub steps_rise : (n : ℕ) (ls : Lines) (steps : List StepValue) (rest : Lines) → AreSteps ls steps rest → Rise n ls → Rise n rest
steps_rise n ls steps rest i r = many_rise IsStep n (step_rise n) i.parts r

pub background_rise : (n : ℕ) (ls : Lines) (background : Option BackgroundValue) (rest : Lines) → Perhaps IsBackground ls background rest → Rise n ls → Rise n rest
background_rise n ls None rest i r = subst (Rise n) i r
background_rise n ls (Some background) rest i r = grind (arith, common_steps, steps_rise, describes_rise, next_rise)

-- A heading stands no higher than n, and the lines after it are below it.
pub heading_rise : (Ignored : LineValue → Type 0) (kind : Class) (n : ℕ) (ls : Lines) (tags : List (List ℕ)) (l : LineValue) (rest : Lines) → IsTaggedHeading Ignored kind ls tags l rest → Rise n ls → (n ≤ l.line) × Rise (suc l.line) rest
heading_rise Ignored kind n ls tags l rest i r = skips_rise n i.heading.next (tags_rise n i.above r)

-- A part whose lines rise from n on and end below the lines after it.
pub record Ends {A : Type 0} (line : A → ℕ) (n : ℕ) (xs : List A) (rest : Lines) : Type 0 where
  pub end : ℕ
  pub between : Between line n xs end
  pub after : Rise end rest

pub ends_less : {A : Type 0} (line : A → ℕ) (least n : ℕ) (xs : List A) (rest : Lines) → least ≤ n → Ends line n xs rest → Ends line least xs rest
ends_less line least n xs rest l e = record { end = e.end; between = between_less line least n e.end xs l e.between; after = e.after }

pub ends_append : {A : Type 0} (line : A → ℕ) (n : ℕ) (xs ys : List A) (mid rest : Lines) (first : Ends line n xs mid) → Ends line first.end ys rest → Ends line n (xs ++ ys) rest
ends_append line n xs ys mid rest first behind = record { end = behind.end; between = between_append line n first.end behind.end xs ys first.between behind.between; after = behind.after }

pub no_ends : {A : Type 0} (line : A → ℕ) (n : ℕ) (rest : Lines) → Rise n rest → Ends line n [] rest
no_ends line n rest r = record { end = n; between = omega arith; after = r }

abbrev pub row_line : RowValue → ℕ
row_line row = row.line

rows_end : (n : ℕ) {ls rest : Lines} {rows : List RowValue} → Many IsRow ls rows rest → Rise n ls → Ends row_line n rows rest
rows_end n (none {ls = ls}) r = no_ends row_line n ls r
rows_end n (more {mid = mid} {x = row} first behind) r =
    let found : Rise n (first.line ∷ mid) = skips_rise n first.next r in
    let below : Rise (suc row.line) mid = subst (λ (k : ℕ). Rise (suc k) mid) (sym first.number) found.1 in
    let others = rows_end (suc row.line) behind below in
    record { end = others.end; between = (omega (arith, found.0, first.number), others.between); after = others.after }

table_end : (n : ℕ) (ls : Lines) (header : List (List ℕ)) (rows : List RowValue) (rest : Lines) → HasTable ls header rows rest → Rise n ls → Ends row_line n rows rest
table_end n ls header rows rest (inl e) r = subst (λ (rows : List RowValue). Ends row_line n rows rest) (sym e.1) (no_ends row_line n rest (subst (Rise n) e.2 r))
table_end n ls header rows rest (inr t) r =
    let all = rows_end n t.2.lines r in
    record { end = all.end; between = between_less row_line n (suc (row_line t.0)) all.end rows (omega (arith, all.between.0)) all.between.1; after = all.after }

pub examples_end : (n : ℕ) (ls : Lines) (e : ExamplesValue) (rest : Lines) → AreExamples ls e rest → Rise n ls → Ends row_line n e.rows rest
examples_end n ls e rest i r =
    let head = heading_rise IsIgnored _ n ls e.tags i.line i.after_heading i.heading r in
    ends_less row_line n (suc i.line.line) e.rows rest (omega (arith, head.0))
    (table_end (suc i.line.line) i.after_description e.header e.rows rest i.table (describes_rise (suc i.line.line) i.description head.1))
