-- What the last parts of a file stand for, and that each line keeps it.
use Rattle.gk_gherkin.proofs.Common.{◌≡◌, ℕ, Bool, true, false, cond, ◌==◌, List, [], ◌∷◌, ◌++◌, length, map, Option, Some, None, Result, Ok, Err, refl, sym, subst, ap, ◌∙◌, append_assoc, inl, inr, append-nil, map_push, nat_tests, arith, common_steps, last_or, begins, codes, drop, trim, parts_of, cells_of_parts, BackgroundHeading, ExamplesHeading, FenceLine, Other, RowLine, ScenarioHeading, StepLine, Given, Class, ReadFault, StepType, ChildrenValue, background_with, described_in, examples_from, examples_under, heading_in, in_examples, in_scenario, is_empty, last_takes_text, last_with_text, children_take_text, children_with_text, background_with_text, background_takes_text, option_map, with_background, on_background, on_block, on_body, on_children, on_examples, on_row, on_scenario, on_steps, row_from, row_in, row_of, row_under_last, scenario_from, scenario_takes_text, step_from, steps_take_text, steps_with_text, last_type, takes_text_under, text_under_last, type_of_last, width_of, with_block, with_examples, with_last, with_scenarios, with_steps, with_table, LineValue, Lines, class, cells_of, AreTypedAfter, type_after, BackgroundValue, BlockValue, Empty, ExamplesValue, RowValue, ScenarioValue, StepValue, Table, Text, AreExamples, AreSteps, AreTags, Describes, HasTable, IsBackground, IsBlock, IsDocString, IsIgnored, IsRow, IsScenario, IsStep, IsTable, IsTagLine, Many, MayDescribeExamples, MayDescribeFeature, MayDescribeScenario, Next, Perhaps, Skips, describe, described, more, none, skip, skip_none, tagged, untagged}
use Rattle.gk_gherkin.proofs.LastItems.{Many-with_last, no_items}
use Rattle.gk_gherkin.proofs.ReadingRuns.{bind_is, no_ok, ok_same}
use Rattle.gk_gherkin.proofs.ReadingSound.{All-push}

-- growing a part at its end
pub Skips-more : {Ignored : LineValue → Type 0} {ls rest : Lines} {l : LineValue} → Ignored l → Skips Ignored ls (l ∷ rest) → Skips Ignored ls rest
Skips-more n skip_none = skip n skip_none
Skips-more n (skip m s) = skip m (Skips-more n s)

pub Many-push : {A : Type 0} {Part : Lines → A → Lines → Type 0} {ls mid rest : Lines} {xs : List A} {x : A} → Many Part ls xs mid → Part mid x rest → Many Part ls (xs ++ x ∷ []) rest
Many-push none p = more p none
Many-push (more q many) p = more q (Many-push many p)

pub Describes-more : {May : Class → Type 0} {ls mid rest : Lines} {l : LineValue} → Describes May ls mid → Next IsIgnored mid l rest → May (class l) → Describes May ls rest
Describes-more described n m = describe n m described
Describes-more (describe k may d) n m = describe k may (Describes-more d n m)

pub AreTags-push : {Ignored : LineValue → Type 0} {ls mid rest : Lines} {tags others : List (List ℕ)} → AreTags Ignored ls tags mid → IsTagLine Ignored mid others rest → AreTags Ignored ls (tags ++ others) rest
AreTags-push {Ignored} {ls} {mid} {rest} {tags} {others} untagged line = subst (λ (tags : List (List ℕ)). AreTags Ignored ls tags rest) (append-nil others) (tagged line untagged)
AreTags-push {Ignored} {ls} {mid} {rest} {tags} {others} (tagged {some = some} {others = between} first behind) line =
    subst (λ (tags : List (List ℕ)). AreTags Ignored ls tags rest) (sym (append_assoc some between others)) (tagged first (AreTags-push behind line))

-- No parts take no lines.
pub Many-nil : {A : Type 0} {Part : Lines → A → Lines → Type 0} {ls rest : Lines} {xs : List A} → xs ≡ [] → Many Part ls xs rest → ls ≡ rest
Many-nil is none = refl
Many-nil is (more p many) = let no : ⊥ = cc is in absurd no

-- a step more, or a block under the last step, keeps the types
typed_push : (o : Option StepValue) (steps : List StepValue) (next : StepValue) → AreTypedAfter (type_of_last o) steps → next.step_type ≡ type_after (type_of_last (last_or o steps)) next.keyword → AreTypedAfter (type_of_last o) (steps ++ next ∷ [])
typed_push o [] next t e = (e, tt)
typed_push o (first ∷ steps) next t e = (t.0, typed_push (Some first) steps next t.1 e)

typed_block : (before : StepType) (o : Option StepValue) (steps : List StepValue) (st : StepValue) (block : BlockValue) → last_or o steps ≡ Some st → AreTypedAfter before steps → AreTypedAfter before (with_last (with_block st block) steps)
unfolding with_last
typed_block before o [] st block is t = t
typed_block before o (x ∷ []) st block is t = let same : x ≡ st = cc is in (subst (λ x. x.step_type ≡ type_after before x.keyword) same t.0, tt)
typed_block before o (x ∷ y ∷ steps) st block is t = (t.0, typed_block x.step_type (Some x) (y ∷ steps) st block is t.1)

-- rows
abbrev pub Fits : Option ℕ → List (List ℕ) → Type 0
Fits None cells = Unit {0}
Fits (Some width) cells = length cells ≡ width

pub eqb_same : (m n : ℕ) → (m == n) ≡ true → m ≡ n
eqb_same m n h = grind (arith, nat_tests)

pub cond_ok : {A : Type 0} (b : Bool) (x t : A) (e : ReadFault) → ◌≡◌ {A = Result A ReadFault} (cond b (Ok x) (Err e)) (Ok t) → (b ≡ true) × (x ≡ t)
cond_ok true x t e h = (refl, ok_same h)
cond_ok false x t e h = no_ok h

row_by : (width : Option ℕ) (l : LineValue) (r : Option (List (List ℕ))) (cells : List (List ℕ)) → row_of width l r ≡ Ok cells → (r ≡ Some cells) × Fits width cells
row_by None l None cells e = no_ok e
row_by None l (Some c) cells e = (ap Some (ok_same e), tt)
row_by (Some width) l None cells e = no_ok e
row_by (Some width) l (Some c) cells e = grind (arith, common_steps)

pub row_ok : (width : Option ℕ) (l : LineValue) (cells : List (List ℕ)) → on_row width l ≡ Ok cells → (cells_of l ≡ Some cells) × Fits width cells
unfolding on_row
row_ok width l cells e = row_by width l (cells_of l) cells e

row_line : {ls rest : Lines} (l : LineValue) (cells : List (List ℕ)) → Skips IsIgnored ls (l ∷ rest) → class l ≡ RowLine → cells_of l ≡ Some cells → IsRow ls (row_from l cells) rest
row_line l cells n c w = record { line = l; next = n; is = c; number = refl; cells = w }

abbrev cells_in : List RowValue → List (List (List ℕ))
cells_in rows = map (λ (row : RowValue). row.cells) rows

grown : (rows : List RowValue) (row : RowValue) (ls mid rest : Lines) → IsTable ls rows mid → IsRow mid row rest → Fits (width_of (cells_in rows)) row.cells → IsTable ls (rows ++ row ∷ []) rest
grown [] row ls mid rest t r f = absurd t.width
grown (first ∷ others) row ls mid rest t r f = record { lines = Many-push t.lines r; width = All-push (λ (row : RowValue). length row.cells ≡ length first.cells) others row t.width f }

on_block-built : (block : BlockValue) (ls mid rest : Lines) (l : LineValue) (t : BlockValue) → class l ≡ RowLine → IsBlock ls block mid → Skips IsIgnored mid (l ∷ rest) → on_block block l ≡ Ok t → IsBlock ls t rest
unfolding on_block
on_block-built Empty ls mid rest l t c b n e =
    let r = bind_is (on_row None l) (λ (cells : List (List ℕ)). Table (cells ∷ [])) t e in
    let row = row_line l r.0 (subst (λ (mid : Lines). Skips IsIgnored mid (l ∷ rest)) (sym b) n) c (row_ok None l r.0 r.1).0 in
    subst (λ t. IsBlock ls t rest) r.2 (row_from l r.0 ∷ [], record { lines = more row none; width = tt }, refl)
on_block-built (Table rows) ls mid rest l t c b n e =
    let r = bind_is (on_row (width_of rows) l) (λ (cells : List (List ℕ)). Table (rows ++ cells ∷ [])) t e in
    let w = row_ok (width_of rows) l r.0 r.1 in
    let fits : Fits (width_of (cells_in b.0)) r.0 = subst (λ (rows : List (List (List ℕ))). Fits (width_of rows) r.0) b.2 w.1 in
    subst (λ t. IsBlock ls t rest) r.2 (b.0 ++ row_from l r.0 ∷ [], grown b.0 (row_from l r.0) ls mid rest b.1 (row_line l r.0 n c w.0) fits, ap (λ (rows : List (List (List ℕ))). rows ++ r.0 ∷ []) b.2 ∙ sym (map_push (λ (row : RowValue). row.cells) b.0 (row_from l r.0)))
on_block-built (Text text) ls mid rest l t c b n e = no_ok e

-- what stands before the first step, and the steps
abbrev pub StepsBuilt : (Lines → Lines → Type 0) → List StepValue → Lines → Lines → Type 0
StepsBuilt Before steps ls rest = (mid : Lines) × Before ls mid × AreSteps mid steps rest

block_under : (st : StepValue) (block : BlockValue) (from mid rest : Lines) → ((after : Lines) → IsBlock after st.block mid → IsBlock after block rest) → IsStep from st mid → IsStep from (with_block st block) rest
block_under st block from mid rest grow i =
    let k = i.line in
    record { after_line = i.after_line; line = record { line = k.line; next = k.next; is = k.is; keyword = k.keyword; text = k.text; number = k.number }; block = grow i.after_line i.block }

last_grown : (Before : Lines → Lines → Type 0) (steps : List StepValue) (st : StepValue) (block : BlockValue) (ls mid rest : Lines) → last_or None steps ≡ Some st → ((after : Lines) → IsBlock after st.block mid → IsBlock after block rest) → StepsBuilt Before steps ls mid → StepsBuilt Before (with_last (with_block st block) steps) ls rest
last_grown Before steps st block ls mid rest is grow b =
    (b.0, b.1, record { parts = Many-with_last IsStep (with_block st block) steps b.0 mid rest st is (λ from i. block_under st block from mid rest grow i) b.2.parts; types = typed_block Given None steps st block is b.2.types })

row_under-built : (Before : Lines → Lines → Type 0) (o : Option StepValue) (steps : List StepValue) (ls mid rest : Lines) (l : LineValue) (t : List StepValue) → last_or None steps ≡ o → class l ≡ RowLine → StepsBuilt Before steps ls mid → Skips IsIgnored mid (l ∷ rest) → row_under_last o steps l ≡ Ok t → StepsBuilt Before t ls rest
row_under-built Before None steps ls mid rest l t is c b n e = no_ok e
row_under-built Before (Some st) steps ls mid rest l t is c b n e =
    let r = bind_is (on_block st.block l) (λ (block : BlockValue). with_last (with_block st block) steps) t e in
    subst (λ t. StepsBuilt Before t ls rest) r.2 (last_grown Before steps st r.0 ls mid rest is (λ after i. on_block-built st.block after mid rest l r.0 c i n r.1) b)

-- a line after steps
pub on_steps-built : (Before : Lines → Lines → Type 0) (steps : List StepValue) (ls mid rest : Lines) (l : LineValue) (c : Class) (t : List StepValue) → class l ≡ c → StepsBuilt Before steps ls mid → Skips IsIgnored mid (l ∷ rest) → on_steps steps l c ≡ Ok t → StepsBuilt Before t ls rest
unfolding on_steps
on_steps-built Before steps ls mid rest l StepLine t c b n e =
    let made : IsStep mid (step_from (last_type steps) l) rest = record { after_line = rest; line = record { line = l; next = n; is = c; keyword = refl; text = refl; number = refl }; block = refl } in
    subst (λ t. StepsBuilt Before t ls rest) (ok_same e) (b.0, b.1, record { parts = Many-push b.2.parts made; types = typed_push None steps (step_from (last_type steps) l) b.2.types refl })
on_steps-built Before steps ls mid rest l RowLine t c b n e = row_under-built Before (last_or None steps) steps ls mid rest l t refl c b n e
on_steps-built Before steps ls mid rest l _ t c b n e = no_ok e

abbrev BodyBuilt : List StepValue → Lines → Lines → Type 0
BodyBuilt steps ls rest = StepsBuilt (Describes MayDescribeScenario) steps ls rest

body_described : (ls mid rest : Lines) (l : LineValue) (t : List StepValue) → MayDescribeScenario (class l) → BodyBuilt [] ls mid → Skips IsIgnored mid (l ∷ rest) → ◌≡◌ {A = Result (List StepValue) ReadFault} (Ok []) (Ok t) → BodyBuilt t ls rest
body_described ls mid rest l t may b n e =
    subst (λ t. BodyBuilt t ls rest) (ok_same e) (rest, Describes-more (subst (λ mid. Describes MayDescribeScenario ls mid) (Many-nil refl b.2.parts) b.1) n may, record { parts = none; types = tt })

on_body-built : (steps : List StepValue) (ls mid rest : Lines) (l : LineValue) (c : Class) (t : List StepValue) → class l ≡ c → BodyBuilt steps ls mid → Skips IsIgnored mid (l ∷ rest) → on_body steps l c ≡ Ok t → BodyBuilt t ls rest
unfolding on_body
on_body-built [] ls mid rest l RowLine t c b n e = body_described ls mid rest l t (subst MayDescribeScenario (sym c) tt) b n e
on_body-built [] ls mid rest l (FenceLine fence) t c b n e = body_described ls mid rest l t (subst MayDescribeScenario (sym c) tt) b n e
on_body-built [] ls mid rest l Other t c b n e = body_described ls mid rest l t (subst MayDescribeScenario (sym c) tt) b n e
on_body-built steps ls mid rest l k t c b n e = on_steps-built (Describes MayDescribeScenario) steps ls mid rest l k t c b n e

-- a line after examples
no_cells : (p : Option (List (List ℕ))) {P : Type 0} → cells_of_parts p ≡ Some [] → P
no_cells None e = let no : ⊥ = cc e in absurd no
no_cells (Some []) e = let no : ⊥ = cc e in absurd no
no_cells (Some (part ∷ parts)) e = let no : ⊥ = cc e in absurd no

no_cells_by : (b : Bool) (p : Option (List (List ℕ))) {P : Type 0} → cond b (cells_of_parts p) None ≡ Some [] → P
no_cells_by true p e = no_cells p e
no_cells_by false p e = let no : ⊥ = cc e in absurd no

-- A row has a cell.
pub some_cells : (l : LineValue) {P : Type 0} → cells_of l ≡ Some [] → P
unfolding cells_of
some_cells l e = no_cells_by (begins (trim l.text) (codes "|")) (parts_of (drop 1 (trim l.text))) e

first_cells : {ls rest : Lines} {first : RowValue} {rows : List RowValue} {P : Type 0} → Many IsRow ls (first ∷ rows) rest → first.cells ≡ [] → P
first_cells (more p many) e = some_cells p.line (p.cells ∙ ap Some e)

-- Examples without a header have no rows, and end with their description.
pub no_table : (ls rest : Lines) (header : List (List ℕ)) (rows : List RowValue) → header ≡ [] → HasTable ls header rows rest → (rows ≡ []) × (ls ≡ rest)
no_table ls rest header rows is (inl k) = (k.1, k.2)
no_table ls rest header rows is (inr k) = first_cells k.2.lines (sym k.1 ∙ is)

-- The first row of a table with a header.
pub some_table : (ls rest : Lines) (header : List (List ℕ)) (rows : List RowValue) (cell : List ℕ) (cells : List (List ℕ)) → header ≡ cell ∷ cells → HasTable ls header rows rest → (first : RowValue) × (header ≡ first.cells) × IsTable ls (first ∷ rows) rest
some_table ls rest header rows cell cells is (inl k) = let no : ⊥ = cc (is, k.0) in absurd no
some_table ls rest header rows cell cells is (inr k) = k

row_in-built : (header : List (List ℕ)) (x : ExamplesValue) (ls mid rest : Lines) (l : LineValue) (t : ExamplesValue) → x.header ≡ header → class l ≡ RowLine → AreExamples ls x mid → Skips IsIgnored mid (l ∷ rest) → row_in header x l ≡ Ok t → AreExamples ls t rest
row_in-built [] x ls mid rest l t is c i n e =
    let r = bind_is (on_row None l) (λ (cells : List (List ℕ)). with_table x cells x.rows) t e in
    let k = no_table i.after_description mid x.header x.rows is i.table in
    let row = row_line l r.0 (subst (λ from. Skips IsIgnored from (l ∷ rest)) (sym k.1) n) c (row_ok None l r.0 r.1).0 in
    let table : HasTable i.after_description r.0 x.rows rest = inr (row_from l r.0, refl, subst (λ rows. IsTable i.after_description (row_from l r.0 ∷ rows) rest) (sym k.0) (record { lines = more row none; width = tt })) in
    subst (λ t. AreExamples ls t rest) r.2 (record { line = i.line; after_heading = i.after_heading; after_description = i.after_description; heading = i.heading; name = i.name; number = i.number; description = i.description; table = table })
row_in-built (cell ∷ cells) x ls mid rest l t is c i n e =
    let r = bind_is (on_row (Some (length (cell ∷ cells))) l) (λ (found : List (List ℕ)). with_table x x.header (x.rows ++ row_from l found ∷ [])) t e in
    let w = row_ok (Some (length (cell ∷ cells))) l r.0 r.1 in
    let k = some_table i.after_description mid x.header x.rows cell cells is i.table in
    let fits : length r.0 ≡ length k.0.cells = w.1 ∙ ap length (sym is ∙ k.1) in
    let table : HasTable i.after_description x.header (x.rows ++ row_from l r.0 ∷ []) rest = inr (k.0, k.1, grown (k.0 ∷ x.rows) (row_from l r.0) i.after_description mid rest k.2 (row_line l r.0 n c w.0) fits) in
    subst (λ t. AreExamples ls t rest) r.2 (record { line = i.line; after_heading = i.after_heading; after_description = i.after_description; heading = i.heading; name = i.name; number = i.number; description = i.description; table = table })

described-built : (header : List (List ℕ)) (x : ExamplesValue) (ls mid rest : Lines) (l : LineValue) (t : ExamplesValue) → x.header ≡ header → MayDescribeExamples (class l) → AreExamples ls x mid → Skips IsIgnored mid (l ∷ rest) → described_in header x l ≡ Ok t → AreExamples ls t rest
described-built [] x ls mid rest l t is may i n e =
    let k = no_table i.after_description mid x.header x.rows is i.table in
    let longer = Describes-more i.description (subst (λ from. Skips IsIgnored from (l ∷ rest)) (sym k.1) n) may in
    subst (λ t. AreExamples ls t rest) (ok_same e) (record { line = i.line; after_heading = i.after_heading; after_description = rest; heading = i.heading; name = i.name; number = i.number; description = longer; table = inl (is, k.0, refl) })
described-built (cell ∷ cells) x ls mid rest l t is may i n e = no_ok e

on_examples-built : (x : ExamplesValue) (ls mid rest : Lines) (l : LineValue) (c : Class) (t : ExamplesValue) → class l ≡ c → AreExamples ls x mid → Skips IsIgnored mid (l ∷ rest) → on_examples x l c ≡ Ok t → AreExamples ls t rest
unfolding on_examples
on_examples-built x ls mid rest l RowLine t c i n e = row_in-built x.header x ls mid rest l t refl c i n e
on_examples-built x ls mid rest l StepLine t c i n e = described-built x.header x ls mid rest l t refl (subst MayDescribeExamples (sym c) tt) i n e
on_examples-built x ls mid rest l (FenceLine fence) t c i n e = described-built x.header x ls mid rest l t refl (subst MayDescribeExamples (sym c) tt) i n e
on_examples-built x ls mid rest l Other t c i n e = described-built x.header x ls mid rest l t refl (subst MayDescribeExamples (sym c) tt) i n e
on_examples-built x ls mid rest l _ t c i n e = no_ok e

-- a line after a scenario
abbrev with_body : {ls rest : Lines} {s : ScenarioValue} (steps : List StepValue) (mid : Lines) → s.examples ≡ [] → (i : IsScenario ls s mid) → BodyBuilt steps i.after_heading rest → IsScenario ls (with_steps s steps) rest
with_body {rest = rest} steps mid bare i k = record { line = i.line; after_heading = i.after_heading; after_description = k.0; after_steps = rest; heading = i.heading; keyword = i.keyword; name = i.name; number = i.number; description = k.1; steps = k.2; examples = subst (λ xs. Many AreExamples rest xs rest) (sym bare) none }

-- The steps of a scenario without examples end with it.
pub body_of : {ls rest : Lines} {s : ScenarioValue} → s.examples ≡ [] → (i : IsScenario ls s rest) → BodyBuilt s.steps i.after_heading rest
body_of {rest = rest} {s = s} bare i = (i.after_description, i.description, subst (λ rest. AreSteps i.after_description s.steps rest) (Many-nil bare i.examples) i.steps)

with_more : {ls rest : Lines} {s : ScenarioValue} (xs : List ExamplesValue) (mid : Lines) → (i : IsScenario ls s mid) → Many AreExamples i.after_steps xs rest → IsScenario ls (with_examples s xs) rest
with_more xs mid i many = record { line = i.line; after_heading = i.after_heading; after_description = i.after_description; after_steps = i.after_steps; heading = i.heading; keyword = i.keyword; name = i.name; number = i.number; description = i.description; steps = i.steps; examples = many }

in_examples-built : (o : Option ExamplesValue) (s : ScenarioValue) (ls mid rest : Lines) (l : LineValue) (c : Class) (t : ScenarioValue) → last_or None s.examples ≡ o → class l ≡ c → IsScenario ls s mid → Skips IsIgnored mid (l ∷ rest) → in_examples o s l c ≡ Ok t → IsScenario ls t rest
in_examples-built None s ls mid rest l k t is c i n e =
    let r = bind_is (on_body s.steps l k) (with_steps s) t e in
    let bare = no_items s.examples is in
    subst (λ t. IsScenario ls t rest) r.2 (with_body r.0 mid bare i (on_body-built s.steps i.after_heading mid rest l k r.0 c (body_of bare i) n r.1))
in_examples-built (Some x) s ls mid rest l k t is c i n e =
    let r = bind_is (on_examples x l k) (λ (x : ExamplesValue). with_examples s (with_last x s.examples)) t e in
    subst (λ t. IsScenario ls t rest) r.2 (with_more (with_last r.0 s.examples) mid i (Many-with_last AreExamples r.0 s.examples i.after_steps mid rest x is (λ from j. on_examples-built x from mid rest l k r.0 c j n r.1) i.examples))

-- a line after a background and scenarios
pub record ChildrenBuilt (children : ChildrenValue) (ls rest : Lines) : Type 0 where
  pub after_description : Lines
  pub after_background : Lines
  pub description : Describes MayDescribeFeature ls after_description
  pub background : Perhaps IsBackground after_description children.background after_background
  pub scenarios : Many IsScenario after_background children.scenarios rest

abbrev pub BackgroundBuilt : Option BackgroundValue → Lines → Lines → Type 0
BackgroundBuilt background ls rest = (mid : Lines) × Describes MayDescribeFeature ls mid × Perhaps IsBackground mid background rest

feature_described : (ls mid rest : Lines) (l : LineValue) (t : Option BackgroundValue) → MayDescribeFeature (class l) → BackgroundBuilt None ls mid → Skips IsIgnored mid (l ∷ rest) → ◌≡◌ {A = Result (Option BackgroundValue) ReadFault} (Ok None) (Ok t) → BackgroundBuilt t ls rest
feature_described ls mid rest l t may b n e =
    subst (λ t. BackgroundBuilt t ls rest) (ok_same e) (rest, Describes-more (subst (λ mid. Describes MayDescribeFeature ls mid) b.2 b.1) n may, refl)

on_background-built : (background : Option BackgroundValue) (ls mid rest : Lines) (l : LineValue) (c : Class) (t : Option BackgroundValue) → class l ≡ c → BackgroundBuilt background ls mid → Skips IsIgnored mid (l ∷ rest) → on_background background l c ≡ Ok t → BackgroundBuilt t ls rest
unfolding on_background
on_background-built None ls mid rest l BackgroundHeading t c b n e =
    let made : IsBackground b.0 (record { line = l.line; steps = [] }) rest = record { line = l; after_heading = rest; after_description = rest; heading = record { next = subst (λ from. Skips IsIgnored from (l ∷ rest)) (sym b.2) n; is = c }; number = refl; description = described; steps = record { parts = none; types = tt } } in
    subst (λ t. BackgroundBuilt t ls rest) (ok_same e) (b.0, b.1, made)
on_background-built None ls mid rest l StepLine t c b n e = feature_described ls mid rest l t (subst MayDescribeFeature (sym c) tt) b n e
on_background-built None ls mid rest l RowLine t c b n e = feature_described ls mid rest l t (subst MayDescribeFeature (sym c) tt) b n e
on_background-built None ls mid rest l (FenceLine fence) t c b n e = feature_described ls mid rest l t (subst MayDescribeFeature (sym c) tt) b n e
on_background-built None ls mid rest l Other t c b n e = feature_described ls mid rest l t (subst MayDescribeFeature (sym c) tt) b n e
on_background-built None ls mid rest l _ t c b n e = no_ok e
on_background-built (Some x) ls mid rest l k t c b n e =
    let r = bind_is (on_body x.steps l k) (λ (steps : List StepValue). Some (background_with x steps)) t e in
    let i = b.2 in
    let body = on_body-built x.steps i.after_heading mid rest l k r.0 c (i.after_description, i.description, i.steps) n r.1 in
    let made : IsBackground b.0 (background_with x r.0) rest = record { line = i.line; after_heading = i.after_heading; after_description = body.0; heading = i.heading; number = i.number; description = body.1; steps = body.2 } in
    subst (λ t. BackgroundBuilt t ls rest) r.2 (b.0, b.1, made)

-- Children without scenarios end with their background.
pub background_of : {ls rest : Lines} {children : ChildrenValue} → children.scenarios ≡ [] → ChildrenBuilt children ls rest → BackgroundBuilt children.background ls rest
background_of {children = children} bare b = (b.after_description, b.description, subst (λ rest. Perhaps IsBackground b.after_description children.background rest) (Many-nil bare b.scenarios) b.background)

in_scenario-built : (o : Option ScenarioValue) (children : ChildrenValue) (ls mid rest : Lines) (l : LineValue) (c : Class) (t : ChildrenValue) → last_or None children.scenarios ≡ o → class l ≡ c → ChildrenBuilt children ls mid → Skips IsIgnored mid (l ∷ rest) → in_scenario o children l c ≡ Ok t → ChildrenBuilt t ls rest
in_scenario-built None children ls mid rest l k t is c b n e =
    let r = bind_is (on_background children.background l k) (λ (background : Option BackgroundValue). with_background children background) t e in
    let bare = no_items children.scenarios is in
    let g = on_background-built children.background ls mid rest l k r.0 c (background_of bare b) n r.1 in
    subst (λ t. ChildrenBuilt t ls rest) r.2 (record { after_description = g.0; after_background = rest; description = g.1; background = g.2; scenarios = subst (λ ss. Many IsScenario rest ss rest) (sym bare) none })
in_scenario-built (Some s) children ls mid rest l k t is c b n e =
    let r = bind_is (on_scenario s l k) (λ (s : ScenarioValue). with_scenarios children (with_last s children.scenarios)) t e in
    subst (λ t. ChildrenBuilt t ls rest) r.2 (record { after_description = b.after_description; after_background = b.after_background; description = b.description; background = b.background; scenarios = Many-with_last IsScenario r.0 children.scenarios b.after_background mid rest s is (λ from i. in_examples-built (last_or None s.examples) s from mid rest l k r.0 refl c i n r.1) b.scenarios })

pub on_children-built : (children : ChildrenValue) (ls mid rest : Lines) (l : LineValue) (c : Class) (t : ChildrenValue) → class l ≡ c → ChildrenBuilt children ls mid → Skips IsIgnored mid (l ∷ rest) → on_children children l c ≡ Ok t → ChildrenBuilt t ls rest
on_children-built children ls mid rest l k t c b n e = in_scenario-built (last_or None children.scenarios) children ls mid rest l k t refl c b n e

-- a heading after tags
scenario_begun : {mid b rest : Lines} {tags : List (List ℕ)} (l : LineValue) → AreTags IsIgnored mid tags b → Skips IsIgnored b (l ∷ rest) → class l ≡ ScenarioHeading → IsScenario mid (scenario_from tags l) rest
scenario_begun {b = b} {rest = rest} l ts n c = record { line = l; after_heading = rest; after_description = rest; after_steps = rest; heading = record { after_tags = b; above = ts; heading = record { next = n; is = c } }; keyword = refl; name = refl; number = refl; description = described; steps = record { parts = none; types = tt }; examples = none }

examples_begun : {mid b rest : Lines} {tags : List (List ℕ)} (l : LineValue) → AreTags IsIgnored mid tags b → Skips IsIgnored b (l ∷ rest) → class l ≡ ExamplesHeading → AreExamples mid (examples_from tags l) rest
examples_begun {b = b} {rest = rest} l ts n c = record { line = l; after_heading = rest; after_description = rest; heading = record { after_tags = b; above = ts; heading = record { next = n; is = c } }; name = refl; number = refl; description = described; table = inl (refl, refl, refl) }

examples_under-built : (o : Option ScenarioValue) (ss : List ScenarioValue) (tags : List (List ℕ)) (ls mid b rest : Lines) (l : LineValue) (t : List ScenarioValue) → last_or None ss ≡ o → class l ≡ ExamplesHeading → Many IsScenario ls ss mid → AreTags IsIgnored mid tags b → Skips IsIgnored b (l ∷ rest) → examples_under o ss tags l ≡ Ok t → Many IsScenario ls t rest
examples_under-built None ss tags ls mid b rest l t is c many ts n e = no_ok e
examples_under-built (Some s) ss tags ls mid b rest l t is c many ts n e =
    subst (λ t. Many IsScenario ls t rest) (ok_same e) (Many-with_last IsScenario (with_examples s (s.examples ++ examples_from tags l ∷ [])) ss ls mid rest s is (λ from i. with_more (s.examples ++ examples_from tags l ∷ []) mid i (Many-push i.examples (examples_begun l ts n c))) many)

pub heading_in-built : (ss : List ScenarioValue) (tags : List (List ℕ)) (ls mid b rest : Lines) (l : LineValue) (c : Class) (t : List ScenarioValue) → class l ≡ c → Many IsScenario ls ss mid → AreTags IsIgnored mid tags b → Skips IsIgnored b (l ∷ rest) → heading_in ss tags l c ≡ Ok t → Many IsScenario ls t rest
unfolding heading_in
heading_in-built ss tags ls mid b rest l ScenarioHeading t c many ts n e = subst (λ t. Many IsScenario ls t rest) (ok_same e) (Many-push many (scenario_begun l ts n c))
heading_in-built ss tags ls mid b rest l ExamplesHeading t c many ts n e = examples_under-built (last_or None ss) ss tags ls mid b rest l t refl c many ts n e
heading_in-built ss tags ls mid b rest l _ t c many ts n e = no_ok e

-- a doc string under the last step
empty_block : (block : BlockValue) → is_empty block ≡ true → block ≡ Empty
empty_block Empty h = refl
empty_block (Text text) h = let no : ⊥ = cc in absurd no
empty_block (Table rows) h = let no : ⊥ = cc in absurd no

Skips-append : {Ignored : LineValue → Type 0} {ls mid rest : Lines} → Skips Ignored ls mid → Skips Ignored mid rest → Skips Ignored ls rest
Skips-append skip_none t = t
Skips-append (skip n s) t = skip n (Skips-append s t)

text_block : (after mid ls rest : Lines) (block : BlockValue) (text : List ℕ) → block ≡ Empty → Skips IsIgnored mid ls → IsDocString ls text rest → IsBlock after block mid → IsDocString after text rest
text_block after mid ls rest block text is n d b =
    let start : after ≡ mid = subst (λ block. IsBlock after block mid) is b in
    record { fence = d.fence; opening = d.opening; content = d.content; closing = d.closing; next = subst (λ from. Skips IsIgnored from (d.opening ∷ d.content ++ d.closing ∷ rest)) (sym start) (Skips-append n d.next); is = d.is; inside = d.inside; closed = d.closed; says = d.says }

text_under_last-built : (Before : Lines → Lines → Type 0) (o : Option StepValue) (steps : List StepValue) (from mid ls rest : Lines) (text : List ℕ) → last_or None steps ≡ o → takes_text_under o ≡ true → StepsBuilt Before steps from mid → Skips IsIgnored mid ls → IsDocString ls text rest → StepsBuilt Before (text_under_last o steps text) from rest
text_under_last-built Before None steps from mid ls rest text is t b n d = let no : ⊥ = cc t in absurd no
text_under_last-built Before (Some st) steps from mid ls rest text is t b n d = last_grown Before steps st (Text text) from mid rest is (λ after i. text_block after mid ls rest st.block text (empty_block st.block t) n d i) b

pub text_under : (Before : Lines → Lines → Type 0) (steps : List StepValue) (from mid ls rest : Lines) (text : List ℕ) → steps_take_text steps ≡ true → StepsBuilt Before steps from mid → Skips IsIgnored mid ls → IsDocString ls text rest → StepsBuilt Before (steps_with_text steps text) from rest
text_under Before steps from mid ls rest text t b n d = text_under_last-built Before (last_or None steps) steps from mid ls rest text refl t b n d

scenario_text : (xs : List ExamplesValue) (s : ScenarioValue) (from mid ls rest : Lines) (text : List ℕ) → s.examples ≡ xs → scenario_takes_text xs s ≡ true → IsScenario from s mid → Skips IsIgnored mid ls → IsDocString ls text rest → IsScenario from (with_steps s (steps_with_text s.steps text)) rest
scenario_text [] s from mid ls rest text bare t i n d = with_body (steps_with_text s.steps text) mid bare i (text_under (Describes MayDescribeScenario) s.steps i.after_heading mid ls rest text t (body_of bare i) n d)
scenario_text (x ∷ xs) s from mid ls rest text bare t i n d = let no : ⊥ = cc t in absurd no

background_text : (background : Option BackgroundValue) (from mid ls rest : Lines) (text : List ℕ) → background_takes_text background ≡ true → BackgroundBuilt background from mid → Skips IsIgnored mid ls → IsDocString ls text rest → BackgroundBuilt (option_map (background_with_text text) background) from rest
background_text None from mid ls rest text t b n d = let no : ⊥ = cc t in absurd no
background_text (Some x) from mid ls rest text t b n d =
    let i = b.2 in
    let k = text_under (Describes MayDescribeScenario) x.steps i.after_heading mid ls rest text t (i.after_description, i.description, i.steps) n d in
    let made : IsBackground b.0 (background_with_text text x) rest = record { line = i.line; after_heading = i.after_heading; after_description = k.0; heading = i.heading; number = i.number; description = k.1; steps = k.2 } in
    (b.0, b.1, made)

last_text : (o : Option ScenarioValue) (children : ChildrenValue) (from mid ls rest : Lines) (text : List ℕ) → last_or None children.scenarios ≡ o → last_takes_text o children ≡ true → ChildrenBuilt children from mid → Skips IsIgnored mid ls → IsDocString ls text rest → ChildrenBuilt (last_with_text o children text) from rest
last_text None children from mid ls rest text is t b n d =
    let bare = no_items children.scenarios is in
    let g = background_text children.background from mid ls rest text t (background_of bare b) n d in
    record { after_description = g.0; after_background = rest; description = g.1; background = g.2; scenarios = subst (λ ss. Many IsScenario rest ss rest) (sym bare) none }
last_text (Some s) children from mid ls rest text is t b n d =
    record { after_description = b.after_description; after_background = b.after_background; description = b.description; background = b.background; scenarios = Many-with_last IsScenario (with_steps s (steps_with_text s.steps text)) children.scenarios b.after_background mid rest s is (λ at i. scenario_text s.examples s at mid ls rest text refl t i n d) b.scenarios }

pub children_text : (children : ChildrenValue) (from mid ls rest : Lines) (text : List ℕ) → children_take_text children ≡ true → ChildrenBuilt children from mid → Skips IsIgnored mid ls → IsDocString ls text rest → ChildrenBuilt (children_with_text children text) from rest
children_text children from mid ls rest text t b n d = last_text (last_or None children.scenarios) children from mid ls rest text refl t b n d
