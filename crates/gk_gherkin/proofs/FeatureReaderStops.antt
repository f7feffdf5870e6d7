-- Where a run over the lines of a feature file stops, and what the fault there says.
use Rattle.gk_gherkin.proofs.Common.{◌≡◌, ℕ, true, List, [], ◌∷◌, ◌++◌, length, Option, Some, None, Result, Ok, Err, refl, sym, subst, ap, ◌∙◌, append_assoc, inl, inr, ◌≢◌, ◌⊎◌, IfOk, IfErr, arith, common_steps, AllByRecursion, codes, option_map, BackgroundHeading, Blank, Comment, ExamplesHeading, FeatureHeading, FenceLine, Other, RowLine, RuleHeading, ScenarioHeading, StepLine, TagLine, BadTag, Memory, TagsAtEnd, UnclosedText, Unexpected, Class, Fence, ReadFault, FeatureReader, NeedsAt, Tagged, Untagged, after_text, by_language, feature_readers, on, on_comment, on_heading, on_line, tag_line, takes_text, with_text, without_tags, Outside, DocStringValue, FailsAs, FailsBy, InText, State, finish, opening, outside, reading, run, step, on_body, on_row, row_from, IsText, LineValue, Lines, lines_of, class, class_of, class_of_words, tags_of, cells_of, language_of, FeatureValue, feature_value, AreTags, Describes, IsIgnored, IsIgnoredAbove, IsIgnoredClass, IsReadable, MayDescribeScenario, Reads, Skips, skip, skip_none, tagged, untagged, AnswersOrLacksMemory, BeginsNone, FaultSays, FeatureFault, IsBadTag, IsLineFault, LineSays, NeedsMemory, NoneLikeIt, TakesTags, line_of_fault, ◌>>=◌, Feature, last_or, feature_from, last_children, line_in_feature, with_children, ChildrenValue, background_with, described_in, examples_under, heading_in, in_examples, in_scenario, on_background, on_children, on_examples, on_scenario, row_in, scenario_from, with_background, with_examples, with_last, with_scenarios, with_steps, with_table, BackgroundValue, ExamplesValue, ScenarioValue, StepValue, AreExamples, IsScenario}
use Rattle.gk_gherkin.proofs.ReadingRuns.{Halts, bind_err, err_same, halts, no_err, no_ok, ok_same, one_more_line}
use Rattle.gk_gherkin.proofs.ReadingStates.{never, no_fence, refused_at, step_plain, step_refused}
use Rattle.gk_gherkin.proofs.ReadingStops.{Marks, ends_in_text, halted, marks, needed}
use Rattle.gk_gherkin.proofs.ReadingWhole.{only_memory, said}
use Rattle.gk_gherkin.proofs.LastItems.{Many-last, no_items}
use Rattle.gk_gherkin.proofs.OpenPartsSound.{BackgroundBuilt, ChildrenBuilt, StepsBuilt, background_of, body_of, some_table}
use Rattle.gk_gherkin.proofs.FeatureReaderSound.{FeatureBuilt, blank_at, comment_ok, last_built, reached_built, sound}
use Rattle.gk_gherkin.proofs.FeatureReaderComplete.{complete, runs}
use Rattle.gk_gherkin.proofs.RowStops.{Refuses, Stopped, first_of, first_row, line_of, row_says, row_stop, row_stops, row_takes, steps_stop, stopped_then}
use Rattle.gk_gherkin.proofs.FirstTags.{good_tags}

pub feature_runs : (ls : Lines) → IsReadable ls → (reader : FeatureReader) × (run feature_readers (Outside feature_readers.first) ls ≡ Ok (Outside reader))
feature_runs ls readable = (Untagged readable.0, runs ls readable.0 readable.1)

-- after a line that halts, nothing is readable
pub feature_halted : (before : Lines) (l : LineValue) (s : State FeatureReader) (e : ReadFault) → run feature_readers (Outside feature_readers.first) before ≡ Ok s → step feature_readers s l ≡ Err e → BeginsNone IsReadable class (before ++ l ∷ [])
feature_halted before l s e r h = halted feature_readers IsReadable class feature_runs before l s e r h

-- what is reached after no tags is readable
pub readable_at : (ls : Lines) (feature : Option FeatureValue) → run feature_readers (Outside feature_readers.first) ls ≡ Ok (Outside (Untagged feature)) → IsReadable ls
unfolding reading finish
readable_at ls feature r = (feature, sound ls feature (ap (λ (r : Result (State FeatureReader) ReadFault). r >>= finish feature_readers) r))

pub before_text : (ls : Lines) (reader : FeatureReader) → run feature_readers (Outside feature_readers.first) ls ≡ Ok (Outside reader) → takes_text reader ≡ true → IsReadable ls
before_text ls (Untagged feature) r t = readable_at ls feature r
before_text ls (Tagged feature tags n) r t = let no : ⊥ = cc in absurd no

pub behind_text : (ls : Lines) (reader : FeatureReader) (text : List ℕ) → run feature_readers (Outside feature_readers.first) ls ≡ Ok (Outside (after_text reader text)) → takes_text reader ≡ true → IsReadable ls
behind_text ls (Untagged feature) text r t = readable_at ls (option_map (with_text text) feature) r
behind_text ls (Tagged feature tags n) text r t = let no : ⊥ = cc in absurd no

-- lines that can stand
abbrev feature_heading : LineValue
feature_heading = line_of (codes "Feature:")

abbrev scenario_heading : LineValue
scenario_heading = line_of (codes "Scenario:")

abbrev good_tag : LineValue
good_tag = line_of (codes "@a")

feature_heading_class : class feature_heading ≡ FeatureHeading
unfolding class class_of class_of_words
feature_heading_class = refl

scenario_heading_class : class scenario_heading ≡ ScenarioHeading
unfolding class class_of class_of_words
scenario_heading_class = refl

good_tag_class : class good_tag ≡ TagLine
unfolding class class_of
good_tag_class = refl

good_tag_tags : tags_of good_tag ≡ Some (codes "@a" ∷ [])
unfolding tags_of
good_tag_tags = refl

-- the heading that may follow tags
abbrev pub heading_for : Option FeatureValue → LineValue
heading_for None = feature_heading
heading_for (Some f) = scenario_heading

abbrev after_heading : Option FeatureValue → List (List ℕ) → Option FeatureValue
after_heading None tags = Some (feature_from tags feature_heading)
after_heading (Some f) tags = Some (with_children f (with_scenarios (last_children f) ((last_children f).scenarios ++ scenario_from tags scenario_heading ∷ [])))

heading_step : (feature : Option FeatureValue) (tags : List (List ℕ)) (n : ℕ) → step feature_readers (Outside (Tagged feature tags n)) (heading_for feature) ≡ Ok (Outside (Untagged (after_heading feature tags)))
unfolding step on on_heading heading_in
heading_step None tags n = ap (λ (r : Result FeatureReader ReadFault). outside r) (ap (on (Tagged None tags n) feature_heading) feature_heading_class)
heading_step (Some f) tags n = ap (λ (r : Result FeatureReader ReadFault). outside r) (ap (on (Tagged (Some f) tags n) scenario_heading) scenario_heading_class)

pub readable_after_tags : (ls : Lines) (feature : Option FeatureValue) (tags : List (List ℕ)) (n : ℕ) → run feature_readers (Outside feature_readers.first) ls ≡ Ok (Outside (Tagged feature tags n)) → IsReadable (ls ++ heading_for feature ∷ [])
readable_after_tags ls feature tags n r = readable_at (ls ++ heading_for feature ∷ []) (after_heading feature tags) (one_more_line (step feature_readers) (Outside feature_readers.first) ls (Outside (Tagged feature tags n)) (Outside (Untagged (after_heading feature tags))) (heading_for feature) r (heading_step feature tags n))

heading_takes_tags : (reader : Option FeatureValue) → TakesTags (class (heading_for reader))
heading_takes_tags None = subst TakesTags (sym feature_heading_class) tt
heading_takes_tags (Some f) = subst TakesTags (sym scenario_heading_class) tt

fits : (before : Lines) (s : State FeatureReader) (l : LineValue) (e : ReadFault) → run feature_readers (Outside feature_readers.first) before ≡ Ok s → step feature_readers s l ≡ Err e → IsReadable before ⊎ ((extra : LineValue) × IsReadable (before ++ extra ∷ []))
fits before (Outside (Untagged feature)) l e r h = inl (readable_at before feature r)
fits before (Outside (Tagged feature tags n)) l e r h = inr (heading_for feature, readable_after_tags before feature tags n r)
fits before (InText reader text) l e r h = never feature_readers reader text l e h

-- a fault names a line, and says something of it and of those before it
abbrev Says : ReadFault → Lines → LineValue → Type 0
Says e before l = (line_of_fault e ≡ Some l.line) × LineSays e before l

examples_refuse : (last : Option ScenarioValue) (ss : List ScenarioValue) (F : List ScenarioValue → FeatureValue) (tags : List (List ℕ)) (l : LineValue) (e : ReadFault) → ((examples_under last ss tags l >>= λ ss. Ok (F ss)) >>= λ f. let r : Result (Option FeatureValue) ReadFault = Ok (Some f) in r) ≡ Err e
    → Refuses (λ o. (examples_under last ss tags o >>= λ ss. Ok (F ss)) >>= λ f. let r : Result (Option FeatureValue) ReadFault = Ok (Some f) in r) l e
examples_refuse None ss F tags l e h = (err_same h, λ o. refl)
examples_refuse (Some s) ss F tags l e h = no_err h

heading_refuses : (reader : Option FeatureValue) (tags : List (List ℕ)) (l : LineValue) (c : Class) (e : ReadFault) → on_heading reader tags l c ≡ Err e → Refuses (λ o. on_heading reader tags o c) l e
unfolding on_heading heading_in
heading_refuses None tags l FeatureHeading e h = no_err h
heading_refuses None tags l _ e h = (err_same h, λ o. refl)
heading_refuses (Some f) tags l RuleHeading e h = no_err h
heading_refuses (Some f) tags l ScenarioHeading e h = no_err h
heading_refuses (Some f) tags l ExamplesHeading e h =
    let children = last_children f in
    examples_refuse (last_or None children.scenarios) children.scenarios (λ ss. with_children f (with_scenarios children ss)) tags l e h
heading_refuses (Some f) tags l _ e h = (err_same h, λ o. refl)

body_stops : (steps : List StepValue) (ls mid : Lines) (l : LineValue) (c : Class) (e : ReadFault) → StepsBuilt (Describes MayDescribeScenario) steps ls mid → on_body steps l c ≡ Err e → Stopped (λ o. on_body steps o c) l c e
unfolding on_body
body_stops [] ls mid l RowLine e b h = no_err h
body_stops [] ls mid l (FenceLine fence) e b h = no_err h
body_stops [] ls mid l Other e b h = no_err h
body_stops steps ls mid l k e b h = steps_stop (Describes MayDescribeScenario) steps ls mid l k e b h

row_in_stops : (header : List (List ℕ)) (x : ExamplesValue) (ls mid : Lines) (l : LineValue) (e : ReadFault) → x.header ≡ header → AreExamples ls x mid → row_in header x l ≡ Err e → Stopped (row_in header x) l RowLine e
row_in_stops [] x ls mid l e is i h = inr (first_row (λ cells. with_table x cells x.rows) l e (bind_err (on_row None l) (λ (cells : List (List ℕ)). with_table x cells x.rows) e h))
row_in_stops (cell ∷ cells) x ls mid l e is i h =
    let t = some_table i.after_description mid x.header x.rows cell cells is i.table in
    let r = first_of t.2.lines in
    let width = Some (length (cell ∷ cells)) in
    let good = row_takes width r.0 t.0.cells r.2 (ap length (sym t.1 ∙ is)) in
    inr (row_stop width (λ o found. with_table x x.header (x.rows ++ row_from o found ∷ [])) l e r.0 t.0.cells r.1 good (bind_err (on_row width l) (λ (found : List (List ℕ)). with_table x x.header (x.rows ++ row_from l found ∷ [])) e h))

described_stops : (header : List (List ℕ)) (x : ExamplesValue) (l : LineValue) (c : Class) (e : ReadFault) → described_in header x l ≡ Err e → Stopped (described_in header x) l c e
described_stops [] x l c e h = no_err h
described_stops (cell ∷ cells) x l c e h = inl (err_same h, λ o. refl)

examples_stop : (x : ExamplesValue) (ls mid : Lines) (l : LineValue) (c : Class) (e : ReadFault) → AreExamples ls x mid → on_examples x l c ≡ Err e → Stopped (λ o. on_examples x o c) l c e
unfolding on_examples
examples_stop x ls mid l RowLine e i h = row_in_stops x.header x ls mid l e refl i h
examples_stop x ls mid l StepLine e i h = described_stops x.header x l StepLine e h
examples_stop x ls mid l (FenceLine fence) e i h = described_stops x.header x l (FenceLine fence) e h
examples_stop x ls mid l Other e i h = described_stops x.header x l Other e h
examples_stop x ls mid l _ e i h = inl (err_same h, λ o. refl)

scenario_stops : (last : Option ExamplesValue) (s : ScenarioValue) (ls mid : Lines) (l : LineValue) (c : Class) (e : ReadFault) → last_or None s.examples ≡ last → IsScenario ls s mid → in_examples last s l c ≡ Err e → Stopped (λ o. in_examples last s o c) l c e
scenario_stops None s ls mid l k e is i h = stopped_then (λ o. on_body s.steps o k) (with_steps s) l k e (body_stops s.steps i.after_heading mid l k e (body_of (no_items s.examples is) i) (bind_err (on_body s.steps l k) (with_steps s) e h))
scenario_stops (Some x) s ls mid l k e is i h =
    let j = Many-last s.examples i.after_steps mid x is i.examples in
    stopped_then (λ o. on_examples x o k) (λ x. with_examples s (with_last x s.examples)) l k e (examples_stop x j.0 mid l k e j.1 (bind_err (on_examples x l k) (λ (x : ExamplesValue). with_examples s (with_last x s.examples)) e h))

background_stops : (background : Option BackgroundValue) (ls mid : Lines) (l : LineValue) (c : Class) (e : ReadFault) → BackgroundBuilt background ls mid → on_background background l c ≡ Err e → Stopped (λ o. on_background background o c) l c e
unfolding on_background
background_stops None ls mid l BackgroundHeading e b h = no_err h
background_stops None ls mid l StepLine e b h = no_err h
background_stops None ls mid l RowLine e b h = no_err h
background_stops None ls mid l (FenceLine fence) e b h = no_err h
background_stops None ls mid l Other e b h = no_err h
background_stops None ls mid l _ e b h = inl (err_same h, λ o. refl)
background_stops (Some x) ls mid l k e b h =
    let i = b.2 in
    stopped_then (λ o. on_body x.steps o k) (λ steps. Some (background_with x steps)) l k e (body_stops x.steps i.after_heading mid l k e (i.after_description, i.description, i.steps) (bind_err (on_body x.steps l k) (λ (steps : List StepValue). Some (background_with x steps)) e h))

children_stop : (last : Option ScenarioValue) (children : ChildrenValue) (ls mid : Lines) (l : LineValue) (c : Class) (e : ReadFault) → last_or None children.scenarios ≡ last → ChildrenBuilt children ls mid → in_scenario last children l c ≡ Err e → Stopped (λ o. in_scenario last children o c) l c e
children_stop None children ls mid l k e is b h = stopped_then (λ o. on_background children.background o k) (with_background children) l k e (background_stops children.background ls mid l k e (background_of (no_items children.scenarios is) b) (bind_err (on_background children.background l k) (with_background children) e h))
children_stop (Some s) children ls mid l k e is b h =
    let j = Many-last children.scenarios b.after_background mid s is b.scenarios in
    stopped_then (λ o. on_scenario s o k) (λ s. with_scenarios children (with_last s children.scenarios)) l k e (scenario_stops (last_or None s.examples) s j.0 mid l k e refl j.1 (bind_err (on_scenario s l k) (λ (s : ScenarioValue). with_scenarios children (with_last s children.scenarios)) e h))

line_stops : (reader : Option FeatureValue) (ls mid : Lines) (l : LineValue) (c : Class) (e : ReadFault) → FeatureBuilt reader ls mid → on_line reader l c ≡ Err e → Stopped (λ o. on_line reader o c) l c e
unfolding on_line
line_stops None ls mid l k e b h = inl (err_same h, λ o. refl)
line_stops (Some f) ls mid l k e b h =
    let children = last_children f in
    let j = last_built f ls mid b in
    let inner = bind_err (line_in_feature f l k) (λ (f : FeatureValue). Some f) e h in
    stopped_then (λ o. line_in_feature f o k) (λ f. Some f) l k e
    (stopped_then (λ o. on_children children o k) (with_children f) l k e
    (children_stop (last_or None children.scenarios) children j.0 mid l k e refl j.1 (bind_err (on_children children l k) (with_children f) e inner)))

tags_err : (r : Result (Option FeatureValue) ReadFault) (e : ReadFault) → without_tags r ≡ Err e → r ≡ Err e
tags_err (Ok p) e h = no_err h
tags_err (Err x) e h = ap Err (err_same h)

-- a line that opens no doc string
module _ (before : Lines) (reader : FeatureReader) (reached : run feature_readers (Outside feature_readers.first) before ≡ Ok (Outside reader)) where
  says : (l : LineValue) (c : Class) (e : ReadFault) (g : LineValue → Result (Option FeatureValue) ReadFault) → class l ≡ c → opening (takes_text reader) c ≡ None → ((o : LineValue) → on reader o c ≡ without_tags (g o)) → Refuses g l e → Says e before l
  says l c e g is free same r =
      let refused : NoneLikeIt IsReadable class before l = λ other alike. feature_halted before other (Outside reader) (Unexpected other.line) reached (step_refused feature_readers reader other (Unexpected other.line) (ap (opening (takes_text reader)) (alike ∙ is) ∙ free) (ap (on reader other) (alike ∙ is) ∙ same other ∙ ap without_tags (r.1 other))) in
      subst (λ e. Says e before l) r.0 (refl, refused)

  bad_tag : (feature : Option FeatureValue) (tags : List (List ℕ)) (r : Option (List (List ℕ))) (l : LineValue) (e : ReadFault) → class l ≡ TagLine → ((o : LineValue) → on reader o TagLine ≡ tag_line (tags_of o) feature tags o) → tags_of l ≡ r → tag_line r feature tags l ≡ Err e → Says e before l
  bad_tag feature tags (Some others) l e is same w h = no_err h
  bad_tag feature tags None l e is same w h =
      let t : FeatureReader = Tagged feature (tags ++ codes "@a" ∷ []) 0 in
      let taken : on reader good_tag (class good_tag) ≡ Ok t = ap (on reader good_tag) good_tag_class ∙ same good_tag ∙ ap (λ (r : Option (List (List ℕ))). tag_line r feature tags good_tag) good_tag_tags in
      let stands = step_plain feature_readers reader t good_tag (ap (opening (takes_text reader)) good_tag_class ∙ no_fence (takes_text reader) TagLine tt) taken in
      let readable = readable_after_tags (before ++ good_tag ∷ []) feature (tags ++ codes "@a" ∷ []) 0 (one_more_line (step feature_readers) (Outside feature_readers.first) before (Outside reader) (Outside t) good_tag reached stands) in
      let bad : IsBadTag before l = record { is = is; fits = (good_tag, good_tag_class ∙ sym is, (heading_for feature ∷ [], readable)); bad = w } in
      let named : BadTag l.line ≡ e = err_same h in
      subst (λ e. Says e before l) named (refl, bad)

stopped_says : (before : Lines) (feature : Option FeatureValue) (l : LineValue) (c : Class) (e : ReadFault) → run feature_readers (Outside feature_readers.first) before ≡ Ok (Outside (Untagged feature)) → class l ≡ c → opening (takes_text (Untagged feature)) c ≡ None → ((o : LineValue) → on (Untagged feature) o c ≡ without_tags (on_line feature o c)) → Stopped (λ o. on_line feature o c) l c e → Says e before l
stopped_says before feature l c e r is bare same (inl k) = says before (Untagged feature) r l c e (λ o. on_line feature o c) is bare same k
stopped_says before feature l c e r is bare same (inr k) =
    let reader : FeatureReader = Untagged feature in
    let free : (o : LineValue) → class o ≡ RowLine → opening (takes_text reader) (class o) ≡ None = λ o o_is. ap (opening (takes_text reader)) o_is ∙ no_fence (takes_text reader) RowLine tt in
    let row : (o : LineValue) → class o ≡ RowLine → on reader o (class o) ≡ without_tags (on_line feature o c) = λ o o_is. ap (on reader o) (o_is ∙ sym k.is) ∙ same o in
    row_says IsReadable class before k.width (cells_of l) k.row l k.cells e (λ e. Says e before l) (λ bad. (refl, bad)) (λ bad. (refl, bad)) k.row_is (k.row_is ∙ sym (is ∙ k.is)) k.row_cells (is ∙ k.is)
    (λ o cells o_is h. let t = k.takes o cells h in readable_at (before ++ o ∷ []) t.0 (one_more_line (step feature_readers) (Outside feature_readers.first) before (Outside reader) (Outside (Untagged t.0)) o r (step_plain feature_readers reader (Untagged t.0) o (free o o_is) (row o o_is ∙ ap without_tags t.1))))
    (λ o e o_is h. feature_halted before o (Outside reader) e r (step_refused feature_readers reader o e (free o o_is) (row o o_is ∙ ap without_tags (k.refuses o e h))))
    refl (row_stops k.width l e k.stops)

plain_says : (before : Lines) (feature : Option FeatureValue) (l : LineValue) (c : Class) (e : ReadFault) → run feature_readers (Outside feature_readers.first) before ≡ Ok (Outside (Untagged feature)) → class l ≡ c → opening (takes_text (Untagged feature)) c ≡ None → ((o : LineValue) → on (Untagged feature) o c ≡ without_tags (on_line feature o c)) → on_line feature l c ≡ Err e → Says e before l
plain_says before feature l c e r is bare same h =
    let built = reached_built before (Outside (Untagged feature)) r in
    stopped_says before feature l c e r is bare same (line_stops feature before built.0 l c e built.1 h)

-- above the feature there is no feature heading
abbrev NoFeature : Lines → Type 0
NoFeature ls = AllByRecursion (λ other. class other ≢ FeatureHeading) ls

skips_above : {ls rest : Lines} → Skips IsIgnoredAbove ls rest → NoFeature rest → NoFeature ls
skips_above skip_none a = a
skips_above (skip n s) a = ((λ e. subst IsIgnoredClass e n.0), skips_above s a)

next_above : {ls rest k : Lines} (l : LineValue) → class l ≡ TagLine → Skips IsIgnoredAbove ls k → k ≡ l ∷ rest → NoFeature rest → NoFeature ls
next_above l is s e a = grind (arith, common_steps, skips_above)

tags_above : {ls rest : Lines} {tags : List (List ℕ)} → AreTags IsIgnoredAbove ls tags rest → NoFeature rest → NoFeature ls
tags_above untagged a = a
tags_above (tagged first behind) a = next_above first.line first.is first.next refl (tags_above behind a)

at_above : (before : Lines) (feature : Option FeatureValue) → feature ≡ None → run feature_readers (Outside feature_readers.first) before ≡ Ok (Outside (Untagged feature)) → NoFeature before
at_above before feature e r = grind (arith, common_steps, reached_built, skips_above)

tagged_above : (before : Lines) (feature : Option FeatureValue) (tags : List (List ℕ)) (n : ℕ) → feature ≡ None → run feature_readers (Outside feature_readers.first) before ≡ Ok (Outside (Tagged feature tags n)) → NoFeature before
tagged_above before feature tags n e r = grind (arith, common_steps, reached_built, tags_above, skips_above)

language_says : (before : Lines) (r : Option (List ℕ)) (s : FeatureReader) (l : LineValue) (e : ReadFault) → NoFeature before → class l ≡ Comment → language_of l ≡ r → by_language r s l ≡ Err e → Says e before l
language_says before None s l e a is w h = no_err h
language_says before (Some word) s l e a is w h = grind (arith, common_steps)

comment_says : (before : Lines) (s : FeatureReader) (feature : Option FeatureValue) (l : LineValue) (e : ReadFault) → (feature ≡ None → NoFeature before) → class l ≡ Comment → on_comment feature s l ≡ Err e → Says e before l
comment_says before s None l e a is h = grind (arith, common_steps)
comment_says before s (Some f) l e a is h = no_err h

untagged_says : (before : Lines) (feature : Option FeatureValue) (l : LineValue) (c : Class) (e : ReadFault) → run feature_readers (Outside feature_readers.first) before ≡ Ok (Outside (Untagged feature)) → class l ≡ c → opening (takes_text (Untagged feature)) c ≡ None → on (Untagged feature) l c ≡ Err e → Says e before l
unfolding on
untagged_says before feature l Blank e r is bare h = no_err h
untagged_says before feature l Comment e r is bare h = comment_says before (Untagged feature) feature l e (λ above. at_above before feature above r) is h
untagged_says before feature l TagLine e r is bare h = bad_tag before (Untagged feature) r feature [] (tags_of l) l e is (λ o. refl) refl h
untagged_says before feature l FeatureHeading e r is bare h = says before (Untagged feature) r l FeatureHeading e (λ o. on_heading feature [] o FeatureHeading) is bare (λ o. refl) (heading_refuses feature [] l FeatureHeading e (tags_err (on_heading feature [] l FeatureHeading) e h))
untagged_says before feature l RuleHeading e r is bare h = says before (Untagged feature) r l RuleHeading e (λ o. on_heading feature [] o RuleHeading) is bare (λ o. refl) (heading_refuses feature [] l RuleHeading e (tags_err (on_heading feature [] l RuleHeading) e h))
untagged_says before feature l ScenarioHeading e r is bare h = says before (Untagged feature) r l ScenarioHeading e (λ o. on_heading feature [] o ScenarioHeading) is bare (λ o. refl) (heading_refuses feature [] l ScenarioHeading e (tags_err (on_heading feature [] l ScenarioHeading) e h))
untagged_says before feature l ExamplesHeading e r is bare h = says before (Untagged feature) r l ExamplesHeading e (λ o. on_heading feature [] o ExamplesHeading) is bare (λ o. refl) (heading_refuses feature [] l ExamplesHeading e (tags_err (on_heading feature [] l ExamplesHeading) e h))
untagged_says before feature l k e r is bare h = plain_says before feature l k e r is bare (λ o. refl) (tags_err (on_line feature l k) e h)

tagged_says : (before : Lines) (feature : Option FeatureValue) (tags : List (List ℕ)) (n : ℕ) (l : LineValue) (c : Class) (e : ReadFault) → run feature_readers (Outside feature_readers.first) before ≡ Ok (Outside (Tagged feature tags n)) → class l ≡ c → on (Tagged feature tags n) l c ≡ Err e → Says e before l
unfolding on
tagged_says before feature tags n l Blank e r is h = no_err h
tagged_says before feature tags n l Comment e r is h = comment_says before (Tagged feature tags n) feature l e (λ above. tagged_above before feature tags n above r) is h
tagged_says before feature tags n l TagLine e r is h = bad_tag before (Tagged feature tags n) r feature tags (tags_of l) l e is (λ o. refl) refl h
tagged_says before feature tags n l k e r is h = says before (Tagged feature tags n) r l k e (λ o. on_heading feature tags o k) is refl (λ o. refl) (heading_refuses feature tags l k e (tags_err (on_heading feature tags l k) e h))

stop_says : (before : Lines) (s : State FeatureReader) (l : LineValue) (e : ReadFault) → run feature_readers (Outside feature_readers.first) before ≡ Ok s → step feature_readers s l ≡ Err e → Says e before l
stop_says before (Outside (Untagged feature)) l e r h = let k = refused_at feature_readers (Untagged feature) l e h in untagged_says before feature l (class l) e r refl k.0 k.1
stop_says before (Outside (Tagged feature tags n)) l e r h = let k = refused_at feature_readers (Tagged feature tags n) l e h in tagged_says before feature tags n l (class l) e r refl k.1
stop_says before (InText reader text) l e r h = never feature_readers reader text l e h

stops_at : (ls : Lines) (e : ReadFault) (k : Halts (step feature_readers) (Outside feature_readers.first) ls e) → Says e k.before k.line → IsLineFault e ls
stops_at ls e k h = record { before = k.before; line = k.line; after = k.after; whole = k.whole; number = h.0; fits = fits k.before k.state k.line e k.reached k.stops; stops = feature_halted k.before k.line k.state e k.reached k.stops; says = h.1 }

line_fault : (ls : Lines) (e : ReadFault) (k : Halts (step feature_readers) (Outside feature_readers.first) ls e) → Says e k.before k.line → FeatureFault e ls
line_fault ls (UnclosedText n) k h = absurd h.1
line_fault ls (TagsAtEnd n) k h = absurd h.1
line_fault ls Memory k h = absurd h.1
line_fault ls e k h = stops_at ls e k h

-- the line of the last tags
record IsAfterTag (done : Lines) (n : ℕ) : Type 0 where
  before : Lines
  line : LineValue
  ignored : Lines
  whole : done ≡ before ++ line ∷ ignored
  number : line.line ≡ n
  is : class line ≡ TagLine
  skipped : Skips IsIgnored ignored []

abbrev Marked : FeatureReader → Lines → Type 0
Marked (Untagged feature) done = Unit {0}
Marked (Tagged feature tags n) done = IsAfterTag done n

Skips-push : {ls : Lines} (l : LineValue) → Skips IsIgnored ls [] → IsIgnored l → Skips IsIgnored (ls ++ l ∷ []) []
Skips-push l skip_none i = skip i skip_none
Skips-push l (skip m s) i = skip m (Skips-push l s i)

after_ignored : (done : Lines) (n : ℕ) (l : LineValue) → IsIgnoredClass (class l) → IsAfterTag done n → IsAfterTag (done ++ l ∷ []) n
after_ignored done n l i b = record { before = b.before; line = b.line; ignored = b.ignored ++ l ∷ []; whole = ap (λ (ls : Lines). ls ++ l ∷ []) b.whole ∙ append_assoc b.before (b.line ∷ b.ignored) (l ∷ []); number = b.number; is = b.is; skipped = Skips-push l b.skipped i }

to : {x t : FeatureReader} (done : Lines) → ◌≡◌ {A = Result FeatureReader ReadFault} (Ok x) (Ok t) → Marked x done → Marked t done
to done e m = subst (λ t. Marked t done) (ok_same e) m

tag_marked : (r : Option (List (List ℕ))) (feature : Option FeatureValue) (tags : List (List ℕ)) (l : LineValue) (t : FeatureReader) (done : Lines) → class l ≡ TagLine → tag_line r feature tags l ≡ Ok t → Marked t (done ++ l ∷ [])
tag_marked (Some others) feature tags l t done is e = to (done ++ l ∷ []) e (record { before = done; line = l; ignored = []; whole = refl; number = refl; is = is; skipped = skip_none })
tag_marked None feature tags l t done is e = no_ok e

marked_on : (reader next : FeatureReader) (l : LineValue) (c : Class) (done : Lines) → class l ≡ c → Marked reader done → on reader l c ≡ Ok next → Marked next (done ++ l ∷ [])
unfolding on
marked_on (Untagged feature) t l Blank done is m e = to _ e tt
marked_on (Untagged feature) t l Comment done is m e = subst (λ t. Marked t (done ++ l ∷ [])) (comment_ok feature (Untagged feature) t l is e).1 tt
marked_on (Untagged feature) t l TagLine done is m e = tag_marked (tags_of l) feature [] l t done is e
marked_on (Untagged feature) t l k done is m e = grind (arith, common_steps)
marked_on (Tagged feature tags n) t l Blank done is m e = to _ e (after_ignored done n l (subst IsIgnoredClass (sym is) tt) m)
marked_on (Tagged feature tags n) t l Comment done is m e = subst (λ t. Marked t (done ++ l ∷ [])) (comment_ok feature (Tagged feature tags n) t l is e).1 (after_ignored done n l (subst IsIgnoredClass (sym is) tt) m)
marked_on (Tagged feature tags n) t l TagLine done is m e = tag_marked (tags_of l) feature tags l t done is e
marked_on (Tagged feature tags n) t l k done is m e = grind (arith, common_steps)

text_marked : (reader : FeatureReader) (text : List ℕ) (done : Lines) → takes_text reader ≡ true → Marked (after_text reader text) done
text_marked (Untagged feature) text done t = tt
text_marked (Tagged feature tags n) text done t = let no : ⊥ = cc in absurd no

abbrev Remembers : State FeatureReader → Lines → Type 0
Remembers s ls = Marks feature_readers Marked (λ reader next l done m e. marked_on reader next l (class l) done refl m e) text_marked s ls

remembers : (ls : Lines) (s : State FeatureReader) → run feature_readers (Outside feature_readers.first) ls ≡ Ok s → Remembers s ls
remembers ls s r = marks feature_readers Marked (λ reader next l done m e. marked_on reader next l (class l) done refl m e) text_marked ls s tt r

-- where a doc string is open, one may stand
pub text_takes : (ls : Lines) (reader : FeatureReader) (text : DocStringValue) → run feature_readers (Outside feature_readers.first) ls ≡ Ok (InText reader text) → takes_text reader ≡ true
text_takes ls reader text r = let m = remembers ls (InText reader text) r in m.takes

tagged_or_not : {feature other : Option FeatureValue} {tags : List (List ℕ)} {n : ℕ} {P : Type 0} → ◌≡◌ {A = Result (State FeatureReader) ReadFault} (Ok (Outside (Untagged feature))) (Ok (Outside (Tagged other tags n))) → P
tagged_or_not e = cc

end_fault : (ls : Lines) (s : State FeatureReader) (e : ReadFault) → run feature_readers (Outside feature_readers.first) ls ≡ Ok s → finish feature_readers s ≡ Err e → FeatureFault e ls
unfolding finish
end_fault ls (Outside (Untagged feature)) e r h = no_err h
end_fault ls (Outside (Tagged feature tags n)) e r h = grind (arith, common_steps, remembers, tagged_or_not, runs, fits, heading_takes_tags, readable_after_tags, err_same)
end_fault ls (InText reader text) e r h =
    let ends = ends_in_text feature_readers IsReadable class feature_runs before_text behind_text ls reader text r (remembers ls (InText reader text) r) in
    let same : UnclosedText text.line ≡ e = err_same h in
    subst (λ e. FeatureFault e ls) same ends

fault_by : (ls : Lines) (r : Result (State FeatureReader) ReadFault) (e : ReadFault) → run feature_readers (Outside feature_readers.first) ls ≡ r → (r >>= finish feature_readers) ≡ Err e → FeatureFault e ls
fault_by ls (Ok s) e same h = end_fault ls s e same h
fault_by ls (Err x) e same h =
    let named : x ≡ e = err_same h in
    let k = halts (step feature_readers) (Outside feature_readers.first) ls x same in
    subst (λ e. FeatureFault e ls) named (line_fault ls x k (stop_says k.before k.state k.line x k.reached k.stops))

-- Each fault is what it says.
pub faulty : (ls : Lines) (e : ReadFault) → reading feature_readers ls ≡ Err e → FeatureFault e ls
unfolding reading
faulty ls e h = fault_by ls (run feature_readers (Outside feature_readers.first) ls) e refl h

-- where memory is needed
behind : (l : LineValue) (ls : Lines) → IsIgnoredAbove l → NeedsMemory ls → NeedsMemory (l ∷ ls)
behind l ls i k = record { line = k.line; rest = k.rest; next = skip i k.next; needs = k.needs }

tags_first : (r : Option (List (List ℕ))) (l : LineValue) (ls : Lines) (t : FeatureReader) → class l ≡ TagLine → tags_of l ≡ r → tag_line r None [] l ≡ Ok t → NeedsMemory (l ∷ ls)
tags_first (Some tags) l ls t is w e = record { line = l; rest = ls; next = skip_none; needs = inr (is, good_tags l tags w) }
tags_first None l ls t is w e = no_ok e

here : (c : Class) (l : LineValue) (ls : Lines) → class l ≡ c → NeedsAt None l c → NeedsMemory (l ∷ ls)
here TagLine l ls is h = record { line = l; rest = ls; next = skip_none; needs = inr (is, h) }
here FeatureHeading l ls is h = record { line = l; rest = ls; next = skip_none; needs = inl is }
here _ l ls is h = absurd h

later : (c : Class) (l : LineValue) (ls : Lines) (t : FeatureReader) → class l ≡ c → on (Untagged None) l c ≡ Ok t → (Untagged None ≡ t → NeedsMemory ls) → NeedsMemory (l ∷ ls)
unfolding on on_heading on_line
later Blank l ls t is e again = behind l ls (blank_at None l is) (again (ok_same e))
later Comment l ls t is e again = let k = comment_ok None (Untagged None) t l is e in behind l ls k.0 (again k.1)
later TagLine l ls t is e again = tags_first (tags_of l) l ls t is refl e
later FeatureHeading l ls t is e again = record { line = l; rest = ls; next = skip_none; needs = inl is }
later _ l ls t is e again = no_ok e

feature_fails : (e : ReadFault) (ls : Lines) → FailsBy feature_readers e ls → FeatureFault e ls
feature_fails Memory ls h = needed feature_readers NeedsMemory (λ l ls n. here (class l) l ls refl n) (λ l ls next e again. later (class l) l ls next refl e again) refl ls h
feature_fails e ls h = faulty ls e h

-- What a fault of the reading says of the bytes.
pub feature_said : (e : ReadFault) (bytes : List ℕ) → FailsAs feature_readers e bytes → FaultSays FeatureFault e bytes
feature_said e bytes h = said feature_readers FeatureFault (λ ls h. h.says) (λ n ls h. h.says) feature_fails e bytes h

-- What the lines say is answered, unless memory ran out.
pub feature_only : (r : Result (Option Feature) ReadFault) (f : Option FeatureValue) (bytes : List ℕ) → IfOk r (λ a. IsText bytes × (reading feature_readers (lines_of bytes) ≡ Ok (option_map feature_value a))) → IfErr r (λ e. FailsAs feature_readers e bytes) → IsText bytes → Reads (lines_of bytes) f → AnswersOrLacksMemory (option_map feature_value) r f
feature_only (Ok x) f bytes g m t h = ok_same (sym g.1 ∙ complete (lines_of bytes) f h)
feature_only (Err e) f bytes g m t h = only_memory feature_readers e bytes f m t (complete (lines_of bytes) f h)

untagged_readable : (r : Result (Option FeatureValue) ReadFault) (ls : Lines) (next : FeatureReader) → without_tags r ≡ Ok next → run feature_readers (Outside feature_readers.first) ls ≡ Ok (Outside next) → IsReadable ls
untagged_readable (Ok p) ls next e r = readable_at ls p (r ∙ ap (λ (p : FeatureReader). let r : Result (State FeatureReader) ReadFault = Ok (Outside p) in r) (sym (ok_same e)))
untagged_readable (Err x) ls next e r = no_ok e

fence_readable : (ls : Lines) (reader next : FeatureReader) (l : LineValue) (fence : Fence) → on reader l (FenceLine fence) ≡ Ok next → run feature_readers (Outside feature_readers.first) ls ≡ Ok (Outside next) → IsReadable ls
unfolding on
fence_readable ls (Untagged feature) next l fence e r = untagged_readable (on_line feature l (FenceLine fence)) ls next e r
fence_readable ls (Tagged feature tags n) next l fence e r = untagged_readable (on_heading feature tags l (FenceLine fence)) ls next e r

-- a fence that opens no doc string leaves the lines readable
pub plain_fence : (ls : Lines) (reader next : FeatureReader) (l : LineValue) (fence : Fence) → class l ≡ FenceLine fence → on reader l (class l) ≡ Ok next → run feature_readers (Outside feature_readers.first) ls ≡ Ok (Outside next) → IsReadable ls
plain_fence ls reader next l fence is e r = fence_readable ls reader next l fence (ap (on reader l) (sym is) ∙ e) r
