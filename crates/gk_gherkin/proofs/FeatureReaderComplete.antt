-- What has a reading as a feature file is read so, and so no lines have two.
use Rattle.gk_gherkin.proofs.Common.{TakesTags, ◌≡◌, ℕ, Bool, false, List, [], ◌∷◌, ◌++◌, length, Option, Some, None, Result, Ok, refl, sym, subst, ap, ◌∙◌, append_assoc, inl, inr, arith, append-nil, BackgroundHeading, Blank, Comment, ExamplesHeading, FeatureHeading, FenceLine, Other, RowLine, RuleHeading, ScenarioHeading, StepLine, TagLine, Class, ReadFault, FeatureReader, Tagged, Untagged, after_text, children_in, feature_from, feature_readers, heading_in_feature, last_children, on, on_heading, on_line, rule_from, rule_with, tag_line, takes_text, with_children, with_rules, without_tags, Outside, State, finish, opening, reading, run, step, ChildrenValue, children_take_text, children_with_text, examples_from, heading_in, last_takes_text, on_background, on_body, on_children, on_examples, on_scenario, on_steps, row_from, row_in, scenario_from, scenario_takes_text, steps_take_text, steps_with_text, with_examples, with_scenarios, with_steps, with_table, LineValue, Lines, class, heading_keyword, heading_name, tags_of, BackgroundValue, ExamplesValue, FeatureValue, RowValue, RuleValue, ScenarioValue, StepValue, AreExamples, AreSteps, AreTags, Describes, HasOneReading, HasTable, IsBackground, IsFeature, IsIgnored, IsIgnoredClass, IsRow, IsRule, IsScenario, IsTaggedHeading, Many, MayDescribeExamples, MayDescribeFeature, MayDescribeScenario, Next, Perhaps, Reads, Skips, describe, described, more, none, skip, skip_none, tagged, untagged, ◌>>=◌, common_steps}
use Rattle.gk_gherkin.proofs.LastItems.{last_or-push, with_last-push}
use Rattle.gk_gherkin.proofs.ReadingRuns.{no_ok, ok_same, run_nil, run_over}
use Rattle.gk_gherkin.proofs.ReadingStates.{IsNoFence, ignored_no_fence, no_fence, step_plain}
use Rattle.gk_gherkin.proofs.ReadingSteps.{AllAre, run_steps}
use Rattle.gk_gherkin.proofs.RowStops.{row_takes}
use Rattle.gk_gherkin.proofs.OpenPartsSound.{some_cells}
use Rattle.gk_gherkin.proofs.FeatureReaderSound.{IgnoredAt}

-- ignored lines are passed over
abbrev FeatureOf : FeatureReader → Option FeatureValue
FeatureOf (Untagged feature) = feature
FeatureOf (Tagged feature tags last) = feature

ignored_class : (feature : Option FeatureValue) (l : LineValue) → IgnoredAt feature l → IsIgnoredClass (class l)
ignored_class None l i = i.0
ignored_class (Some f) l i = i

quiet_class : (s : FeatureReader) (l : LineValue) (c : Class) → IgnoredAt (FeatureOf s) l → IsIgnoredClass c → on s l c ≡ Ok s
unfolding on
quiet_class (Untagged feature) l Blank i n = refl
quiet_class (Untagged feature) l Comment i n = grind (arith, common_steps)
quiet_class (Tagged feature tags last) l Blank i n = refl
quiet_class (Tagged feature tags last) l Comment i n = grind (arith, common_steps)
quiet_class s l _ i n = absurd n

quiet : (s : FeatureReader) (l : LineValue) → IgnoredAt (FeatureOf s) l → on s l (class l) ≡ Ok s
quiet s l i = quiet_class s l (class l) i (ignored_class (FeatureOf s) l i)

abbrev runs_over : FeatureReader → Lines → Result (State FeatureReader) ReadFault
runs_over s ls = run feature_readers (Outside s) ls

-- a line that is taken
line_over : (s t : FeatureReader) (l : LineValue) (rest : Lines) → opening (takes_text s) (class l) ≡ None → on s l (class l) ≡ Ok t → runs_over s (l ∷ rest) ≡ runs_over t rest
line_over s t l rest o e = run_over (step feature_readers) (Outside s) (Outside t) l rest (step_plain feature_readers s t l o e)

run_skips : (s : FeatureReader) {ls rest : Lines} → Skips (IgnoredAt (FeatureOf s)) ls rest → runs_over s ls ≡ runs_over s rest
run_skips s skip_none = refl
run_skips s (skip {l = l} {ls = ls} n sk) = line_over s s l ls (no_fence (takes_text s) (class l) (ignored_no_fence (class l) (ignored_class (FeatureOf s) l n))) (quiet s l n) ∙ run_skips s sk

run_next : {ls rest : Lines} (s t : FeatureReader) (l : LineValue) (c : Class) → Next (IgnoredAt (FeatureOf s)) ls l rest → class l ≡ c → opening (takes_text s) c ≡ None → on s l c ≡ Ok t → runs_over s ls ≡ runs_over t rest
run_next {ls} {rest} s t l c n i o e = run_skips s n ∙ line_over s t l rest (ap (opening (takes_text s)) i ∙ o) (ap (on s l) i ∙ e)

-- tags
data Waits (feature : Option FeatureValue) : FeatureReader → List (List ℕ) → Type 0 where
  bare : Waits feature (Untagged feature) []
  behind : {tags : List (List ℕ)} {last : ℕ} → Waits feature (Tagged feature tags last) tags

takes_tags : {feature : Option FeatureValue} {s : FeatureReader} {tags some : List (List ℕ)} (l : LineValue) → Waits feature s tags → tags_of l ≡ Some some → on s l TagLine ≡ Ok (Tagged feature (tags ++ some) l.line)
unfolding on
takes_tags {feature} l bare e = ap (λ (r : Option (List (List ℕ))). tag_line r feature [] l) e
takes_tags {feature} {s} {tags} l behind e = ap (λ (r : Option (List (List ℕ))). tag_line r feature tags l) e

at_feature : {feature : Option FeatureValue} {s : FeatureReader} {tags : List (List ℕ)} {ls rest : Lines} → Waits feature s tags → Skips (IgnoredAt feature) ls rest → Skips (IgnoredAt (FeatureOf s)) ls rest
at_feature bare n = n
at_feature behind n = n

run_tags : {feature : Option FeatureValue} {ls rest : Lines} {tags others : List (List ℕ)} (s : FeatureReader) → Waits feature s tags → AreTags (IgnoredAt feature) ls others rest → (t : FeatureReader) × (runs_over s ls ≡ runs_over t rest) × Waits feature t (tags ++ others)
run_tags {tags = tags} s w untagged = (s, refl, subst (Waits _ s) (sym (append-nil tags)) w)
run_tags {feature} {ls} {rest} {tags} s w (tagged {some = some} {others = others} first after_first) =
    let l = first.line in
    let t : FeatureReader = Tagged feature (tags ++ some) l.line in
    let r = run_tags t behind after_first in
    (r.0, run_next s t l TagLine (at_feature w first.next) first.is (no_fence (takes_text s) TagLine tt) (takes_tags l w first.words) ∙ r.1, subst (Waits feature r.0) (append_assoc tags some others) r.2)

-- headings that take tags
tagged_no_fence : (c : Class) → TakesTags c → IsNoFence c
tagged_no_fence FeatureHeading i = tt
tagged_no_fence RuleHeading i = tt
tagged_no_fence ScenarioHeading i = tt
tagged_no_fence ExamplesHeading i = tt
tagged_no_fence _ i = absurd i

takes_heading : {feature : Option FeatureValue} {s : FeatureReader} {tags : List (List ℕ)} (l : LineValue) (c : Class) → TakesTags c → Waits feature s tags → on s l c ≡ without_tags (on_heading feature tags l c)
unfolding on
takes_heading l FeatureHeading i bare = refl
takes_heading l RuleHeading i bare = refl
takes_heading l ScenarioHeading i bare = refl
takes_heading l ExamplesHeading i bare = refl
takes_heading l FeatureHeading i behind = refl
takes_heading l RuleHeading i behind = refl
takes_heading l ScenarioHeading i behind = refl
takes_heading l ExamplesHeading i behind = refl
takes_heading l _ i w = absurd i

run_heading : {ls rest : Lines} {tags : List (List ℕ)} (feature next : Option FeatureValue) (c : Class) (l : LineValue) → TakesTags c → IsTaggedHeading (IgnoredAt feature) c ls tags l rest → on_heading feature tags l c ≡ Ok next → runs_over (Untagged feature) ls ≡ runs_over (Untagged next) rest
run_heading feature next c l i h e =
    let r = run_tags (Untagged feature) bare h.above in
    r.1 ∙ run_next r.0 (Untagged next) l c (at_feature r.2 h.heading.next) h.heading.is (no_fence (takes_text r.0) c (tagged_no_fence c i)) (takes_heading l c i r.2 ∙ ap without_tags e)

-- lines that take no tags
abbrev IsPlainClass : Class → Type 0
IsPlainClass BackgroundHeading = Unit {0}
IsPlainClass StepLine = Unit {0}
IsPlainClass RowLine = Unit {0}
IsPlainClass (FenceLine fence) = Unit {0}
IsPlainClass Other = Unit {0}
IsPlainClass _ = ⊥

takes_plain : (f next : FeatureValue) (l : LineValue) (c : Class) → IsPlainClass c → on_line (Some f) l c ≡ Ok (Some next) → on (Untagged (Some f)) l c ≡ Ok (Untagged (Some next))
unfolding on
takes_plain f next l BackgroundHeading i e = ap without_tags e
takes_plain f next l StepLine i e = ap without_tags e
takes_plain f next l RowLine i e = ap without_tags e
takes_plain f next l (FenceLine fence) i e = ap without_tags e
takes_plain f next l Other i e = ap without_tags e
takes_plain f next l _ i e = absurd i

body_taken : (steps next : List StepValue) (l : LineValue) (c : Class) → on_steps steps l c ≡ Ok next → on_body steps l c ≡ Ok next
unfolding on_body on_steps
body_taken [] next l RowLine e = no_ok e
body_taken [] next l (FenceLine fence) e = no_ok e
body_taken [] next l Other e = no_ok e
body_taken steps next l c e = e

steps_plain : (steps next : List StepValue) (l : LineValue) (c : Class) → on_steps steps l c ≡ Ok next → IsPlainClass c
unfolding on_steps
steps_plain steps next l StepLine e = tt
steps_plain steps next l RowLine e = tt
steps_plain steps next l _ e = no_ok e

-- no children yet
abbrev no_children : ChildrenValue
no_children = record { background = None; scenarios = [] }

-- F: the feature with some children of its last rule, or of its own.
module _ (F : ChildrenValue → FeatureValue) (gets : (k : ChildrenValue) → last_children (F k) ≡ k) (puts : (k next : ChildrenValue) → with_children (F k) next ≡ F next) where
  abbrev at : ChildrenValue → FeatureReader
  at k = Untagged (Some (F k))

  line_taken : (k next : ChildrenValue) (l : LineValue) (c : Class) → IsPlainClass c → on_children k l c ≡ Ok next → on (at k) l c ≡ Ok (at next)
  unfolding on_line
  line_taken k next l c i e = takes_plain (F k) (F next) l c i (rw (gets k, e, puts k next) refl)

  heading_taken : (k : ChildrenValue) (scenarios : List ScenarioValue) (tags : List (List ℕ)) (l : LineValue) (c : Class) → heading_in k.scenarios tags l c ≡ Ok scenarios → heading_in_feature (F k) tags l c ≡ Ok (F (with_scenarios k scenarios))
  heading_taken k scenarios tags l c e = rw (gets k, e, puts k (with_scenarios k scenarios)) refl

  run_heading_in : {ls rest : Lines} {tags : List (List ℕ)} (k : ChildrenValue) (next : List ScenarioValue) (l : LineValue) (c : Class) → TakesTags c → on_heading (Some (F k)) tags l c ≡ (heading_in_feature (F k) tags l c >>= λ f. Ok (Some f)) → IsTaggedHeading IsIgnored c ls tags l rest → heading_in k.scenarios tags l c ≡ Ok next → runs_over (at k) ls ≡ runs_over (at (with_scenarios k next)) rest
  run_heading_in {tags = tags} k next l c i same h e =
      run_heading (Some (F k)) (Some (F (with_scenarios k next))) c l i h (same ∙ rw (heading_taken k next tags l c e) refl)

  run_plain : {ls rest : Lines} (k next : ChildrenValue) (l : LineValue) (c : Class) → Next IsIgnored ls l rest → class l ≡ c → IsPlainClass c → opening (children_take_text k) c ≡ None → on_children k l c ≡ Ok next → runs_over (at k) ls ≡ runs_over (at next) rest
  run_plain k next l c n is i o e = run_next (at k) (at next) l c n is (ap (λ (k : ChildrenValue). opening (children_take_text k) c) (gets k) ∙ o) (line_taken k next l c i e)

  -- descriptions
  run_describes : {May : Class → Type 0} (k : ChildrenValue) → children_take_text k ≡ false → ((l : LineValue) (c : Class) → May c → IsPlainClass c × (on_children k l c ≡ Ok k)) → {ls rest : Lines} → Describes May ls rest → runs_over (at k) ls ≡ runs_over (at k) rest
  run_describes k free stays described = refl
  run_describes k free stays (describe {l = l} n may d) =
      let s = stays l (class l) may in
      run_plain k k l (class l) n refl s.0 (ap (λ (b : Bool). opening b (class l)) free) s.1 ∙ run_describes k free stays d

  -- B: the children with some steps of the last scenario, or of the background
  module _ (B : List StepValue → ChildrenValue)
      (goes : (steps next : List StepValue) (l : LineValue) (c : Class) → on_body steps l c ≡ Ok next → on_children (B steps) l c ≡ Ok (B next))
      (takes : (steps : List StepValue) → children_take_text (B steps) ≡ steps_take_text steps)
      (texts : (steps : List StepValue) (text : List ℕ) → children_with_text (B steps) text ≡ B (steps_with_text steps text))
    where
      stays_bodied : (l : LineValue) (c : Class) → MayDescribeScenario c → IsPlainClass c × (on_children (B []) l c ≡ Ok (B []))
      unfolding on_body
      stays_bodied l RowLine m = (tt, goes [] [] l RowLine refl)
      stays_bodied l (FenceLine fence) m = (tt, goes [] [] l (FenceLine fence) refl)
      stays_bodied l Other m = (tt, goes [] [] l Other refl)
      stays_bodied l _ m = absurd m

      steps_taken : (steps next : List StepValue) (l : LineValue) (c : Class) → class l ≡ c → on_steps steps l c ≡ Ok next → on (at (B steps)) l (class l) ≡ Ok (at (B next))
      steps_taken steps next l c is e = ap (on (at (B steps)) l) is ∙ line_taken (B steps) (B next) l c (steps_plain steps next l c e) (goes steps next l c (body_taken steps next l c e))

      with_text_at : (k : ChildrenValue) (text : List ℕ) → after_text (at k) text ≡ at (children_with_text k text)
      with_text_at k text = rw (gets k, puts k (children_with_text k text)) refl

      run_body : {ls mid rest : Lines} {sts : List StepValue} → Describes MayDescribeScenario ls mid → AreSteps mid sts rest → runs_over (at (B [])) ls ≡ runs_over (at (B sts)) rest
      run_body d s =
          run_describes (B []) (takes []) stays_bodied d
          ∙ run_steps feature_readers (λ steps. at (B steps)) (λ steps l i. quiet (at (B steps)) l i) steps_taken (λ steps. ap children_take_text (gets (B steps)) ∙ takes steps) (λ steps text. with_text_at (B steps) text ∙ ap at (texts steps text)) [] s.parts s.types

  -- the last scenario of some children
  module _ (k : ChildrenValue) where
    abbrev Z : ScenarioValue → ChildrenValue
    Z s = with_scenarios k (k.scenarios ++ s ∷ [])

    scenario_goes : (s next : ScenarioValue) (l : LineValue) (c : Class) → on_scenario s l c ≡ Ok next → on_children (Z s) l c ≡ Ok (Z next)
    scenario_goes s next l c e = rw (last_or-push None k.scenarios s, e, with_last-push next k.scenarios s) refl

    scenario_takes : (s : ScenarioValue) → children_take_text (Z s) ≡ scenario_takes_text s.examples s
    scenario_takes s = ap (λ (o : Option ScenarioValue). last_takes_text o (Z s)) (last_or-push None k.scenarios s)

    scenario_texts : (s : ScenarioValue) (text : List ℕ) → children_with_text (Z s) text ≡ Z (with_steps s (steps_with_text s.steps text))
    scenario_texts s text = rw (last_or-push None k.scenarios s, with_last-push (with_steps s (steps_with_text s.steps text)) k.scenarios s) refl

    -- the last examples of the last scenario
    module _ (s : ScenarioValue) where
      abbrev E : ExamplesValue → ChildrenValue
      E x = Z (with_examples s (s.examples ++ x ∷ []))

      examples_goes : (x next : ExamplesValue) (l : LineValue) (c : Class) → on_examples x l c ≡ Ok next → on_children (E x) l c ≡ Ok (E next)
      examples_goes x next l c e =
          scenario_goes (with_examples s (s.examples ++ x ∷ [])) (with_examples s (s.examples ++ next ∷ [])) l c (rw (last_or-push None s.examples x, e, with_last-push next s.examples x) refl)

      no_text : (xs : List ExamplesValue) (x : ExamplesValue) → scenario_takes_text (xs ++ x ∷ []) (with_examples s (xs ++ x ∷ [])) ≡ false
      no_text [] x = refl
      no_text (y ∷ xs) x = refl

      examples_take : (x : ExamplesValue) → children_take_text (E x) ≡ false
      examples_take x = scenario_takes (with_examples s (s.examples ++ x ∷ [])) ∙ no_text s.examples x

      examples_begin : (tags : List (List ℕ)) (l : LineValue) → heading_in (k.scenarios ++ s ∷ []) tags l ExamplesHeading ≡ Ok (k.scenarios ++ with_examples s (s.examples ++ examples_from tags l ∷ []) ∷ [])
      unfolding heading_in
      examples_begin tags l = rw (last_or-push None k.scenarios s, with_last-push (with_examples s (s.examples ++ examples_from tags l ∷ [])) k.scenarios s) refl

      stays_exampled : (tags : List (List ℕ)) (head l : LineValue) (c : Class) → MayDescribeExamples c → IsPlainClass c × (on_children (E (examples_from tags head)) l c ≡ Ok (E (examples_from tags head)))
      unfolding on_examples
      stays_exampled tags head l StepLine m = (tt, examples_goes (examples_from tags head) (examples_from tags head) l StepLine refl)
      stays_exampled tags head l (FenceLine fence) m = (tt, examples_goes (examples_from tags head) (examples_from tags head) l (FenceLine fence) refl)
      stays_exampled tags head l Other m = (tt, examples_goes (examples_from tags head) (examples_from tags head) l Other refl)
      stays_exampled tags head l _ m = absurd m

      run_row : {ls rest : Lines} (x next : ExamplesValue) (row : RowValue) → (i : IsRow ls row rest) → row_in x.header x i.line ≡ Ok next → runs_over (at (E x)) ls ≡ runs_over (at (E next)) rest
      unfolding on_examples
      run_row x next row i e = run_plain (E x) (E next) i.line RowLine i.next i.is tt (ap (λ (b : Bool). opening b RowLine) (examples_take x)) (examples_goes x next i.line RowLine e)

      same_row : (row : RowValue) (l : LineValue) → row.line ≡ l.line → row_from l row.cells ≡ row
      same_row row l n = rw (← n) refl

      run_rows : {ls rest : Lines} {more_rows : List RowValue} (x : ExamplesValue) (cell : List ℕ) (cells : List (List ℕ)) (rows : List RowValue) → Many IsRow ls more_rows rest → AllAre (length (cell ∷ cells)) more_rows → runs_over (at (E (with_table x (cell ∷ cells) rows))) ls ≡ runs_over (at (E (with_table x (cell ∷ cells) (rows ++ more_rows)))) rest
      run_rows {rest = rest} x cell cells rows none w = ap (λ (rows : List RowValue). runs_over (at (E (with_table x (cell ∷ cells) rows))) rest) (sym (append-nil rows))
      run_rows {rest = rest} x cell cells rows (more {x = row} {xs = others} p many) w =
          let before : ExamplesValue = with_table x (cell ∷ cells) rows in
          let taken : row_in (cell ∷ cells) before p.line ≡ Ok (with_table x (cell ∷ cells) (rows ++ row ∷ [])) =
          ap (λ (r : Result (List (List ℕ)) ReadFault). r >>= λ found. let r : Result ExamplesValue ReadFault = Ok (with_table x (cell ∷ cells) (rows ++ row_from p.line found ∷ [])) in r) (row_takes (Some (length (cell ∷ cells))) p.line row.cells p.cells w.0)
          ∙ ap (λ (row : RowValue). let r : Result ExamplesValue ReadFault = Ok (with_table x (cell ∷ cells) (rows ++ row ∷ [])) in r) (same_row row p.line p.number) in
          run_row before (with_table x (cell ∷ cells) (rows ++ row ∷ [])) row p taken
          ∙ run_rows x cell cells (rows ++ row ∷ []) many w.1
          ∙ ap (λ (rows : List RowValue). runs_over (at (E (with_table x (cell ∷ cells) rows))) rest) (append_assoc rows (row ∷ []) others)

      run_table : {ls rest : Lines} (x : ExamplesValue) (first : List (List ℕ)) (row : RowValue) (rows : List RowValue) → row.cells ≡ first → Many IsRow ls (row ∷ rows) rest → AllAre (length first) rows → runs_over (at (E (with_table x [] []))) ls ≡ runs_over (at (E (with_table x first rows))) rest
      run_table x [] row rows is (more p many) w = some_cells p.line (p.cells ∙ ap Some is)
      run_table x (cell ∷ cells) row rows is (more p many) w =
          run_row (with_table x [] []) (with_table x (cell ∷ cells) []) row p (ap (λ (r : Result (List (List ℕ)) ReadFault). r >>= λ found. let r : Result ExamplesValue ReadFault = Ok (with_table x found []) in r) (row_takes None p.line (cell ∷ cells) (p.cells ∙ ap Some is) tt))
          ∙ run_rows x cell cells [] many w

      run_has_table : (ls rest : Lines) (x : ExamplesValue) (header : List (List ℕ)) (rows : List RowValue) → HasTable ls header rows rest → runs_over (at (E (with_table x [] []))) ls ≡ runs_over (at (E (with_table x header rows))) rest
      run_has_table ls rest x header rows (inl e) = ap (runs_over (at (E (with_table x [] [])))) e.2 ∙ ap (λ (header : List (List ℕ)). runs_over (at (E (with_table x header []))) rest) (sym e.0) ∙ ap (λ (rows : List RowValue). runs_over (at (E (with_table x header rows))) rest) (sym e.1)
      run_has_table ls rest x header rows (inr t) = run_table x header t.0 rows (sym t.1) t.2.lines (subst (λ (cells : List (List ℕ)). AllAre (length cells) rows) (sym t.1) t.2.width)

      same_examples : (x : ExamplesValue) (l : LineValue) → x.name ≡ heading_name l → x.line ≡ l.line → examples_from x.tags l ≡ with_table x [] []
      same_examples x l e n = rw (← e, ← n) refl

      run_example : {ls rest : Lines} (x : ExamplesValue) → AreExamples ls x rest → runs_over (at (Z s)) ls ≡ runs_over (at (E x)) rest
      unfolding on_heading
      run_example {rest = rest} x i =
          run_heading_in (Z s) (k.scenarios ++ with_examples s (s.examples ++ examples_from x.tags i.line ∷ []) ∷ []) i.line ExamplesHeading tt refl i.heading (examples_begin x.tags i.line)
          ∙ run_describes (E (examples_from x.tags i.line)) (examples_take (examples_from x.tags i.line)) (stays_exampled x.tags i.line) i.description
          ∙ ap (λ (x : ExamplesValue). runs_over (at (E x)) i.after_description) (same_examples x i.line i.name i.number)
          ∙ run_has_table i.after_description rest x x.header x.rows i.table

    run_examples : {ls rest : Lines} {xs : List ExamplesValue} (s : ScenarioValue) → Many AreExamples ls xs rest → runs_over (at (Z s)) ls ≡ runs_over (at (Z (with_examples s (s.examples ++ xs)))) rest
    run_examples {rest = rest} s none = ap (λ (xs : List ExamplesValue). runs_over (at (Z (with_examples s xs))) rest) (sym (append-nil s.examples))
    run_examples {rest = rest} s (more {x = x} {xs = xs} p many) =
        run_example s x p
        ∙ run_examples (with_examples s (s.examples ++ x ∷ [])) many
        ∙ ap (λ (xs : List ExamplesValue). runs_over (at (Z (with_examples s xs))) rest) (append_assoc s.examples (x ∷ []) xs)

    -- A scenario without examples, and with these steps.
    abbrev begun : ScenarioValue → List StepValue → ScenarioValue
    begun s steps = with_examples (with_steps s steps) []

    begun_goes : (s : ScenarioValue) (steps next : List StepValue) (l : LineValue) (c : Class) → on_body steps l c ≡ Ok next → on_children (Z (begun s steps)) l c ≡ Ok (Z (begun s next))
    begun_goes s steps next l c e = scenario_goes (begun s steps) (begun s next) l c (rw e refl)

    same_scenario : (s : ScenarioValue) (l : LineValue) → s.keyword ≡ heading_keyword l → s.name ≡ heading_name l → s.line ≡ l.line → scenario_from s.tags l ≡ begun s []
    same_scenario s l w e n = rw (← w, ← e, ← n) refl

    run_scenario : {ls rest : Lines} (s : ScenarioValue) → IsScenario ls s rest → runs_over (at k) ls ≡ runs_over (at (Z s)) rest
    unfolding on_heading heading_in
    run_scenario s i =
        run_heading_in k (k.scenarios ++ scenario_from s.tags i.line ∷ []) i.line ScenarioHeading tt refl i.heading refl
        ∙ ap (λ (s : ScenarioValue). runs_over (at (Z s)) i.after_heading) (same_scenario s i.line i.keyword i.name i.number)
        ∙ run_body (λ steps. Z (begun s steps)) (begun_goes s) (λ steps. scenario_takes (begun s steps)) (λ steps text. scenario_texts (begun s steps) text) i.description i.steps
        ∙ run_examples (begun s s.steps) i.examples

  run_scenarios : {ls rest : Lines} {ss : List ScenarioValue} (k : ChildrenValue) → Many IsScenario ls ss rest → runs_over (at k) ls ≡ runs_over (at (with_scenarios k (k.scenarios ++ ss))) rest
  run_scenarios {rest = rest} k none = ap (λ (ss : List ScenarioValue). runs_over (at (with_scenarios k ss)) rest) (sym (append-nil k.scenarios))
  run_scenarios {rest = rest} k (more {x = x} {xs = xs} p many) =
      run_scenario k x p
      ∙ run_scenarios (with_scenarios k (k.scenarios ++ x ∷ [])) many
      ∙ ap (λ (ss : List ScenarioValue). runs_over (at (with_scenarios k ss)) rest) (append_assoc k.scenarios (x ∷ []) xs)

  -- the background
  stays_headed : (l : LineValue) (c : Class) → MayDescribeFeature c → IsPlainClass c × (on_children no_children l c ≡ Ok no_children)
  unfolding on_background
  stays_headed l StepLine m = (tt, refl)
  stays_headed l RowLine m = (tt, refl)
  stays_headed l (FenceLine fence) m = (tt, refl)
  stays_headed l Other m = (tt, refl)
  stays_headed l _ m = absurd m

  abbrev backed : ℕ → List StepValue → ChildrenValue
  backed n steps = record { background = Some (record { line = n; steps = steps }); scenarios = [] }

  backed_goes : (n : ℕ) (steps next : List StepValue) (l : LineValue) (c : Class) → on_body steps l c ≡ Ok next → on_children (backed n steps) l c ≡ Ok (backed n next)
  unfolding on_background
  backed_goes n steps next l c e = rw e refl

  run_background : (ls rest : Lines) (background : Option BackgroundValue) → Perhaps IsBackground ls background rest → runs_over (at no_children) ls ≡ runs_over (at (record { background = background; scenarios = [] })) rest
  unfolding on_background
  run_background ls rest None p = ap (runs_over (at no_children)) p
  run_background ls rest (Some b) i =
      run_plain no_children (backed i.line.line []) i.line BackgroundHeading i.heading.next i.heading.is tt refl refl
      ∙ run_body (backed i.line.line) (backed_goes i.line.line) (λ steps. refl) (λ steps text. refl) i.description i.steps
      ∙ ap (λ (n : ℕ). runs_over (at (backed n b.steps)) rest) (sym i.number)

  pub run_children : {ls a b rest : Lines} (background : Option BackgroundValue) (ss : List ScenarioValue) → Describes MayDescribeFeature ls a → Perhaps IsBackground a background b → Many IsScenario b ss rest → runs_over (at no_children) ls ≡ runs_over (at (record { background = background; scenarios = ss })) rest
  run_children background ss d p many = run_describes no_children refl stays_headed d ∙ run_background _ _ background p ∙ run_scenarios (record { background = background; scenarios = [] }) many

-- rules
module _ (f : FeatureValue) (r : RuleValue) where
  abbrev ruled : ChildrenValue → FeatureValue
  ruled k = with_rules f (f.rules ++ rule_with r k ∷ [])

  ruled_gets : (k : ChildrenValue) → last_children (ruled k) ≡ k
  ruled_gets k = ap (λ (o : Option RuleValue). children_in o (ruled k)) (last_or-push None f.rules (rule_with r k))

  ruled_puts : (k next : ChildrenValue) → with_children (ruled k) next ≡ ruled next
  ruled_puts k next = rw (last_or-push None f.rules (rule_with r k), with_last-push (rule_with r next) f.rules (rule_with r k)) refl

  same_rule : (l : LineValue) → r.name ≡ heading_name l → r.line ≡ l.line → rule_from r.tags l ≡ rule_with r no_children
  same_rule l e n = rw (← e, ← n) refl

  run_rule : {ls rest : Lines} → IsRule ls r rest → runs_over (Untagged (Some f)) ls ≡ runs_over (Untagged (Some (with_rules f (f.rules ++ r ∷ [])))) rest
  unfolding on_heading
  run_rule i =
      run_heading (Some f) (Some (with_rules f (f.rules ++ rule_from r.tags i.line ∷ []))) RuleHeading i.line tt i.heading refl
      ∙ ap (λ (r : RuleValue). runs_over (Untagged (Some (with_rules f (f.rules ++ r ∷ [])))) i.after_heading) (same_rule i.line i.name i.number)
      ∙ run_children ruled ruled_gets ruled_puts r.background r.scenarios i.description i.background i.scenarios

run_rules : {ls rest : Lines} {rules : List RuleValue} (f : FeatureValue) → Many IsRule ls rules rest → runs_over (Untagged (Some f)) ls ≡ runs_over (Untagged (Some (with_rules f (f.rules ++ rules)))) rest
run_rules {rest = rest} f none = ap (λ (rules : List RuleValue). runs_over (Untagged (Some (with_rules f rules))) rest) (sym (append-nil f.rules))
run_rules {rest = rest} f (more {x = r} {xs = rules} p many) =
    run_rule f r p
    ∙ run_rules (with_rules f (f.rules ++ r ∷ [])) many
    ∙ ap (λ (rules : List RuleValue). runs_over (Untagged (Some (with_rules f rules))) rest) (append_assoc f.rules (r ∷ []) rules)

-- features
module _ (f : FeatureValue) where
  abbrev alone : ChildrenValue → FeatureValue
  alone k = record { name = f.name; line = f.line; tags = f.tags; background = k.background; scenarios = k.scenarios; rules = [] }

  same_feature : (l : LineValue) → f.name ≡ heading_name l → f.line ≡ l.line → feature_from f.tags l ≡ alone no_children
  same_feature l e n = rw (← e, ← n) refl

  run_feature : {ls rest : Lines} → IsFeature ls f rest → runs_over (Untagged None) ls ≡ runs_over (Untagged (Some f)) rest
  unfolding on_heading
  run_feature i =
      let c = i.container in
      run_heading None (Some (feature_from f.tags c.line)) FeatureHeading c.line tt c.heading refl
      ∙ ap (λ (f : FeatureValue). runs_over (Untagged (Some f)) c.after_heading) (same_feature c.line c.name c.number)
      ∙ run_children alone (λ k. refl) (λ k next. refl) f.background f.scenarios c.description c.background c.scenarios
      ∙ run_rules (alone (record { background = f.background; scenarios = f.scenarios })) i.rules

-- What has a reading is run over, up to the feature that it says.
pub runs : (ls : Lines) (g : Option FeatureValue) → Reads ls g → run feature_readers (Outside feature_readers.first) ls ≡ Ok (Outside (Untagged g))
runs ls None r = run_skips (Untagged None) r ∙ run_nil (step feature_readers) (Outside (Untagged None))
runs ls (Some f) r = run_feature f r.1 ∙ run_skips (Untagged (Some f)) r.2 ∙ run_nil (step feature_readers) (Outside (Untagged (Some f)))

pub complete : (ls : Lines) (g : Option FeatureValue) → Reads ls g → reading feature_readers ls ≡ Ok g
unfolding reading finish
complete ls g r = ap (λ (r : Result (State FeatureReader) ReadFault). r >>= finish feature_readers) (runs ls g r)

pub one_reading : HasOneReading
one_reading ls one other r s = ok_same (sym (complete ls one r) ∙ complete ls other s)
