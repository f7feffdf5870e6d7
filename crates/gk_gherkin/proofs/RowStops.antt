-- Lines that are refused, and rows among them.
use Rattle.gk_gherkin.proofs.Common.{◌≡◌, ◌≢◌, ℕ, Bool, true, false, cond, ◌==◌, length, map, List, [], ◌∷◌, ◌++◌, Option, Some, None, Result, Ok, Err, refl, ap, sym, subst, ◌∙◌, ◌⊎◌, inl, inr, arith, IfSome, codes, append-nil, nat_tests, RowLine, StepLine, BadRow, CellCount, Unexpected, Class, ReadFault, on_block, on_row, on_steps, row_of, row_under_last, width_of, with_block, with_last, last_or, LineValue, Lines, class, class_of, class_of_words, cells_of, parts_of, unescaped, BlockValue, Empty, RowValue, StepValue, Table, Text, IsBlock, IsRow, IsTable, Many, more, BeginsNone, BeginsSome, IsBadRow, IsOtherWidth, ◌>>=◌, common_steps}
use Rattle.gk_gherkin.proofs.LastItems.{Many-last}
use Rattle.gk_gherkin.proofs.ReadingRuns.{bind_err, err_same, no_err}
use Rattle.gk_gherkin.proofs.OpenPartsSound.{Fits, StepsBuilt, eqb_same}

-- a line of no number
abbrev pub line_of : List ℕ → LineValue
line_of text = record { line = 0; column = 1; text = text }

-- a class that is refused, whichever line it is
abbrev pub Refuses : {A : Type 0} → (LineValue → Result A ReadFault) → LineValue → ReadFault → Type 0
Refuses f l e = (Unexpected l.line ≡ e) × ((o : LineValue) → f o ≡ Err (Unexpected o.line))

-- a row that is refused where a row may stand: this one may, and the others do as the width wants
pub record RowStop {A : Type 0} (f : LineValue → Result A ReadFault) (l : LineValue) (c : Class) (e : ReadFault) : Type 0 where
  pub is : c ≡ RowLine
  pub width : Option ℕ
  pub row : LineValue
  pub cells : List (List ℕ)
  pub row_is : class row ≡ RowLine
  pub row_cells : on_row width row ≡ Ok cells
  pub takes : (o : LineValue) (cells : List (List ℕ)) → on_row width o ≡ Ok cells → (x : A) × (f o ≡ Ok x)
  pub refuses : (o : LineValue) (e : ReadFault) → on_row width o ≡ Err e → f o ≡ Err e
  pub stops : on_row width l ≡ Err e

abbrev pub Stopped : {A : Type 0} → (LineValue → Result A ReadFault) → LineValue → Class → ReadFault → Type 0
Stopped f l c e = Refuses f l e ⊎ RowStop f l c e

pub stopped_then : {A B : Type 0} (g : LineValue → Result A ReadFault) (f : A → B) (l : LineValue) (c : Class) (e : ReadFault) → Stopped g l c e → Stopped (λ o. g o >>= λ x. Ok (f x)) l c e
stopped_then g f l c e (inl r) = grind (arith, common_steps)
stopped_then g f l c e (inr r) = inr (record { is = r.is; width = r.width; row = r.row; cells = r.cells; row_is = r.row_is; row_cells = r.row_cells; takes = λ o cells h. let t = r.takes o cells h in (f t.0, rw t.1 refl); refuses = λ o e h. rw (r.refuses o e h) refl; stops = r.stops })

pub good_row : LineValue
good_row = line_of (codes "|a|")

pub good_row_class : class good_row ≡ RowLine
unfolding good_row class class_of class_of_words
good_row_class = refl

pub good_row_cells : on_row None good_row ≡ Ok (codes "a" ∷ [])
unfolding good_row on_row cells_of parts_of unescaped
good_row_cells = refl

same_eqb : (m n : ℕ) → m ≡ n → (m == n) ≡ true
same_eqb m n h = grind (arith, nat_tests)

pub row_takes : (width : Option ℕ) (l : LineValue) (cells : List (List ℕ)) → cells_of l ≡ Some cells → Fits width cells → on_row width l ≡ Ok cells
unfolding on_row
row_takes None l cells w f = ap (row_of None l) w
row_takes (Some width) l cells w f = ap (row_of (Some width) l) w ∙ ap (λ (b : Bool). let r : Result (List (List ℕ)) ReadFault = cond b (Ok cells) (Err (CellCount l.line)) in r) (same_eqb (length cells) width f)

-- where rows of a width are taken, and one of them may stand
pub row_stop : {A : Type 0} (width : Option ℕ) (f : LineValue → List (List ℕ) → A) (l : LineValue) (e : ReadFault) (row : LineValue) (cells : List (List ℕ)) → class row ≡ RowLine → on_row width row ≡ Ok cells → on_row width l ≡ Err e → RowStop (λ o. on_row width o >>= λ cells. Ok (f o cells)) l RowLine e
row_stop width f l e row cells is good h = record { is = refl; width = width; row = row; cells = cells; row_is = is; row_cells = good; takes = λ o found k. (f o found, rw k refl); refuses = λ o e k. rw k refl; stops = h }

-- any width: the row of one cell
pub first_row : {A : Type 0} (f : List (List ℕ) → A) (l : LineValue) (e : ReadFault) → on_row None l ≡ Err e → RowStop (λ o. on_row None o >>= λ cells. Ok (f cells)) l RowLine e
first_row f l e h = row_stop None (λ o. f) l e good_row (codes "a" ∷ []) good_row_class good_row_cells h

-- the first row of a table
pub first_of : {ls rest : Lines} {first : RowValue} {rows : List RowValue} → Many IsRow ls (first ∷ rows) rest → (line : LineValue) × (class line ≡ RowLine) × (cells_of line ≡ Some first.cells)
first_of (more p many) = (p.line, p.is, p.cells)

rows_stop : (rows : List RowValue) (ls mid : Lines) (l : LineValue) (e : ReadFault) → IsTable ls rows mid → (cells : List (List (List ℕ))) → on_row (width_of (map (λ (row : RowValue). row.cells) rows)) l ≡ Err e
    → RowStop (λ o. on_row (width_of (map (λ (row : RowValue). row.cells) rows)) o >>= λ new. Ok (Table (cells ++ new ∷ []))) l RowLine e
rows_stop [] ls mid l e t cells h = absurd t.width
rows_stop (first ∷ rows) ls mid l e t cells h =
    let r = first_of t.lines in
    row_stop (Some (length first.cells)) (λ o new. Table (cells ++ new ∷ [])) l e r.0 first.cells r.1 (row_takes (Some (length first.cells)) r.0 first.cells r.2 refl) h

pub block_stops : (block : BlockValue) (ls mid : Lines) (l : LineValue) (e : ReadFault) → IsBlock ls block mid → on_block block l ≡ Err e → Stopped (on_block block) l RowLine e
unfolding on_block
block_stops Empty ls mid l e b h = inr (first_row (λ cells. Table (cells ∷ [])) l e (bind_err (on_row None l) (λ (cells : List (List ℕ)). Table (cells ∷ [])) e h))
block_stops (Table cells) ls mid l e b h =
    let k : on_row (width_of cells) l ≡ Err e = bind_err (on_row (width_of cells) l) (λ (new : List (List ℕ)). Table (cells ++ new ∷ [])) e h in
    let k2 = subst (λ (c : List (List (List ℕ))). on_row (width_of c) l ≡ Err e) b.2 k in
    inr (subst (λ (c : List (List (List ℕ))). RowStop (λ o. on_row (width_of c) o >>= λ new. Ok (Table (cells ++ new ∷ []))) l RowLine e) (sym b.2) (rows_stop b.0 ls mid l e b.1 cells k2))
block_stops (Text text) ls mid l e b h = inl (err_same h, λ o. refl)

row_under_stops : (Before : Lines → Lines → Type 0) (last : Option StepValue) (steps : List StepValue) (ls mid : Lines) (l : LineValue) (e : ReadFault) → last_or None steps ≡ last → StepsBuilt Before steps ls mid → row_under_last last steps l ≡ Err e → Stopped (λ o. row_under_last last steps o) l RowLine e
row_under_stops Before None steps ls mid l e is b h = inl (err_same h, λ o. refl)
row_under_stops Before (Some st) steps ls mid l e is b h =
    let i = (Many-last steps b.0 mid st is b.2.parts).1 in
    stopped_then (on_block st.block) (λ block. with_last (with_block st block) steps) l RowLine e (block_stops st.block i.after_line mid l e i.block (bind_err (on_block st.block l) (λ (block : BlockValue). with_last (with_block st block) steps) e h))

pub steps_stop : (Before : Lines → Lines → Type 0) (steps : List StepValue) (ls mid : Lines) (l : LineValue) (c : Class) (e : ReadFault) → StepsBuilt Before steps ls mid → on_steps steps l c ≡ Err e → Stopped (λ o. on_steps steps o c) l c e
unfolding on_steps
steps_stop Before steps ls mid l StepLine e b h = no_err h
steps_stop Before steps ls mid l RowLine e b h = row_under_stops Before (last_or None steps) steps ls mid l e refl b h
steps_stop Before steps ls mid l _ e b h = inl (err_same h, λ o. refl)

no_cells : (width : Option ℕ) (l : LineValue) (e : ReadFault) → row_of width l None ≡ Err e → BadRow l.line ≡ e
no_cells None l e h = err_same h
no_cells (Some width) l e h = err_same h

pub other_width : {A : Type 0} (b : Bool) (x : A) (e f : ReadFault) → ◌≡◌ {A = Result A ReadFault} (cond b (Ok x) (Err f)) (Err e) → (b ≡ false) × (f ≡ e)
other_width true x e f h = no_err h
other_width false x e f h = (refl, err_same h)

pub not_same : (m n : ℕ) → (m == n) ≡ false → m ≢ n
not_same m n h e = let t : (m == n) ≡ true = same_eqb m n e in let no : ⊥ = cc in absurd no

width_by : (b : Bool) (n width : ℕ) → (n == width) ≡ b → (b ≡ false → ⊥) → n ≡ width
width_by true n width e h = eqb_same n width e
width_by false n width e h = absurd (h refl)

width_stops : (width : ℕ) (l : LineValue) (cells : List (List ℕ)) → cells_of l ≡ Some cells → (length cells == width) ≡ false → on_row (Some width) l ≡ Err (CellCount l.line)
unfolding on_row
width_stops width l cells w f = ap (row_of (Some width) l) w ∙ ap (λ (b : Bool). let r : Result (List (List ℕ)) ReadFault = cond b (Ok cells) (Err (CellCount l.line)) in r) f

pub row_stops : (width : Option ℕ) (l : LineValue) (e : ReadFault) → on_row width l ≡ Err e → row_of width l (cells_of l) ≡ Err e
unfolding on_row
row_stops width l e h = h

-- a row that stands has the width, and one that is refused has one of two faults
module _ (Readable : Lines → Type 0) {C : Type 0} (kind : LineValue → C) (before : Lines) where
  wants : (width : ℕ) (r : Option (List (List ℕ))) (l : LineValue) → class l ≡ RowLine → ((o : LineValue) (e : ReadFault) → class o ≡ RowLine → on_row (Some width) o ≡ Err e → BeginsNone Readable kind (before ++ o ∷ []))
      → cells_of l ≡ r → BeginsSome Readable kind (before ++ l ∷ []) → IfSome r (λ wanted. length wanted ≡ width)
  wants width None l is refuses w some = tt
  wants width (Some cells) l is refuses w some =
      width_by (length cells == width) (length cells) width refl
      (λ differs. refuses l (CellCount l.line) is (width_stops width l cells w differs) some.0 some.1)

  pub row_says : (width : Option ℕ) (r : Option (List (List ℕ))) (row l : LineValue) (cells : List (List ℕ)) (e : ReadFault) (P : ReadFault → Type 0) → (IsBadRow Readable kind before l → P (BadRow l.line)) → (IsOtherWidth Readable kind before l → P (CellCount l.line))
      → class row ≡ RowLine → kind row ≡ kind l → on_row width row ≡ Ok cells → class l ≡ RowLine
      → ((o : LineValue) (cells : List (List ℕ)) → class o ≡ RowLine → on_row width o ≡ Ok cells → Readable (before ++ o ∷ []))
      → ((o : LineValue) (e : ReadFault) → class o ≡ RowLine → on_row width o ≡ Err e → BeginsNone Readable kind (before ++ o ∷ []))
      → cells_of l ≡ r → row_of width l r ≡ Err e → P e
  row_says width None row l cells e P bad_row other_cells row_is alike row_cells is takes refuses w h =
      let begins : BeginsSome Readable kind (before ++ row ∷ []) = ([], subst Readable (sym (append-nil (before ++ row ∷ []))) (takes row cells row_is row_cells)) in
      let bad : IsBadRow Readable kind before l = record { is = is; fits = (row, alike, begins); bad = w } in
      let named : BadRow l.line ≡ e = no_cells width l e h in
      subst P named (bad_row bad)
  row_says None (Some found) row l cells e P bad_row other_cells row_is alike row_cells is takes refuses w h = no_err h
  row_says (Some width) (Some found) row l cells e P bad_row other_cells row_is alike row_cells is takes refuses w h =
      let begins : BeginsSome Readable kind (before ++ row ∷ []) = ([], subst Readable (sym (append-nil (before ++ row ∷ []))) (takes row cells row_is row_cells)) in
      let k = other_width (length found == width) found e (CellCount l.line) h in
      let wanted : (other : LineValue) → class other ≡ RowLine → BeginsSome Readable kind (before ++ other ∷ []) → IfSome (cells_of other) (λ wanted. length wanted ≡ width) =
      λ other other_is some. wants width (cells_of other) other other_is refuses refl some in
      let bad : IsOtherWidth Readable kind before l = record { is = is; fits = (row, alike, begins); cells = found; good = w; width = width; wanted = wanted; differs = not_same (length found) width k.0 } in
      subst P k.1 (other_cells bad)
