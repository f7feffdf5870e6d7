-- Judged results are those of which the words hold.
use Rattle.gk_run.proofs.Common.{list_all, All, Bool, Decides, List, [], ap, arith, cond, false, flat_map, not, refl, ⊤, subst, suc, sym, take, true, zero, ℕ, ◌&&◌, ◌++◌, ◌↔◌, ◌∙◌, ◌∷◌, ◌≡◌, true≢false, common_steps, Decides-and, Decides-at, Decides-by_and, Decides-like, none-some, LibraryValue, Contents, State, state_of, Status, Level, all_stay_open, case_of, cases_of, first_or, is_failed_or_memory, without_first, stays_open, reached_row, unreached_row, unselected_row, ChosenValue, MemberValue, has_selected, Group, own_members, rule_groups, dry_case_of, dry_cases_of, dry_feature_of, dry_features_of, dry_rules_of, FeatureCuts, feature_of, feature_row_of, features_of, inside_by, uncut_feature, Inside, RuleCuts, rule_of, rule_stays_open, rules_of, uncut_rule, Cuts, Judged, dry_results, results_from, JudgedCase, JudgedCases, JudgedDryCase, JudgedDryFeature, JudgedDryRun, Each, JudgedFeature, JudgedFeatures, JudgedInside, IsGoodCase, IsGoodFeature, IsGoodRule, IsHeaded, JudgedHoldPartByPart, JudgedPartByPart, JudgedRule, JudgedSection, StepsHaveTheirResults, rule_rows, Ran, result_of, SectionRow, happened_in, no_events, section_events, section_of, section_state, Run, CaseRow, FeatureRow, Results, RuleRow, Cut, Events, around_of, before_passed, happened, nowhere}
use Rattle.gk_run.specs.declared.results.Status.TheVariants as statuses
use Rattle.gk_run.specs.declared.section.Level.TheVariants as levels
use Rattle.gk_run.proofs.CasesLemmas.{and_assoc, and_true}
use Rattle.gk_run.proofs.JudgedLemmas.{results_by}

-- ---- flags

-- a flag says that it holds
itself : (b : Bool) → Decides b (b ≡ true)
itself b = (λ h. h, λ h. h)

unheld : {P : Type 0} (b : Bool) → Decides b P → (P → ⊥) → b ≡ false
unheld true d n = absurd (n (d.0 refl))
unheld false d n = refl

never : {P : Type 0} (b : Bool) → Decides b P → b ≡ false → P → ⊥
never b d h p = true≢false (sym (d.1 p) ∙ h)

-- the flag at a place of a list that is walked through with one
abbrev flag_at : {R : Type 0} → (R → Bool) → Bool → ℕ → List R → Bool
flag_at keeps b zero rows = b
flag_at keeps b (suc k) [] = b
flag_at keeps b (suc k) (row ∷ rows) = flag_at keeps (b && keeps row) k rows

-- it says that the first one holds and each earlier element keeps it
flag_is : {R : Type 0} (keeps : R → Bool) (b : Bool) (k : ℕ) (rows : List R) → flag_at keeps b k rows ≡ (b && list_all keeps (take k rows))
flag_is keeps b zero rows = sym (and_true b)
flag_is keeps b (suc k) [] = sym (and_true b)
flag_is keeps b (suc k) (row ∷ rows) = flag_is keeps (b && keeps row) k rows ∙ and_assoc b (keeps row) (list_all keeps (take k rows))

-- what stays open unless the run is to stop
stays : (stop bad : Bool) → Decides (not (stop && bad)) (stop ≡ true → bad ≡ false)
stays false bad = (λ h s. absurd (true≢false (sym s)), λ h. refl)
stays true false = (λ h s. refl, λ h. refl)
stays true true = (λ h s. absurd (true≢false (sym h)), λ h. sym (h refl))

all_stay : {R : Type 0} (stop : Bool) (keeps : R → Bool) (Good : R → Type 0) → ((row : R) → Decides (keeps row) (stop ≡ true → Good row)) → (rows : List R) → Decides (list_all keeps rows) (stop ≡ true → All Good rows)
all_stay {R} stop keeps Good each rows =
    Decides-like (list_all keeps rows) (λ q s i d l. q i d l s) (λ q i d l s. q s i d l) (Decides-by_and keeps (λ (row : R). stop ≡ true → Good row) (list_all keeps) each refl (λ row others. refl) rows)

flag_stops : {R : Type 0} (stop : Bool) (keeps : R → Bool) (Good : R → Type 0) → ((row : R) → Decides (keeps row) (stop ≡ true → Good row)) → (P : Type 0) (b : Bool) → Decides b P → (rows : List R) (k : ℕ) →
    Decides (flag_at keeps b k rows) (P × (stop ≡ true → All Good (take k rows)))
flag_stops stop keeps Good each P b d rows k =
    let first = take k rows in
    Decides-at (flag_at keeps b k rows) (b && list_all keeps first) (flag_is keeps b k rows) (Decides-and b (list_all keeps first) d (all_stay stop keeps Good each first))

-- ---- lists that are walked through with a flag

each_first : {A R : Type 0} (Holds : ℕ → A → R → Type 0) (x : A) (xs : List A) (row : R) (rows : List R) → Holds 0 x row → Each (λ k y r. Holds (suc k) y r) xs rows → Each Holds (x ∷ xs) (row ∷ rows)
each_first Holds x xs row rows first h = grind (arith, common_steps)

each_rest : {A R : Type 0} (Holds : ℕ → A → R → Type 0) (x : A) (xs : List A) (row : R) (rows : List R) → Each Holds (x ∷ xs) (row ∷ rows) → Each (λ k y r. Holds (suc k) y r) xs rows
each_rest Holds x xs row rows h = record { count = omega (arith, h.count); each = λ k y r at that. h.each (suc k) y r at that }

uneven : {A : Type 0} (x : A) (xs : List A) → x ∷ xs ≡ [] → ⊥
uneven x xs e = cc

-- what comes of each element with the flag there and a cut, what comes of all, and the words of which the flag is a premise
module _ {A C R : Type 0} (of : Bool → C → A → R) (keeps : R → Bool) (uncut : C) (all : Bool → List C → List A → List R) (Words : Type 0 → A → R → Type 0)
    (none : (b : Bool) (cuts : List C) → all b cuts [] ≡ [])
    (more : (b : Bool) (cuts : List C) (x : A) (xs : List A) → (let row = of b (first_or uncut cuts) x in all b cuts (x ∷ xs) ≡ row ∷ all (b && keeps row) (without_first cuts) xs))
    (one : (b : Bool) (P : Type 0) (x : A) (row : R) → Decides b P → Words P x row ↔ ((cut : C) × (row ≡ of b cut x))) where
  walked : (b : Bool) (xs : List A) (rows : List R) (Held : ℕ → Type 0) → ((k : ℕ) → Decides (flag_at keeps b k rows) (Held k)) → Each (λ k x row. Words (Held k) x row) xs rows ↔ ((cuts : List C) × (rows ≡ all b cuts xs))
  walked b [] [] Held says = (λ h. ([], sym (none b [])), λ c. record { count = refl; each = λ k x row at that. absurd (none-some x at) })
  walked b [] (row ∷ rows) Held says = (λ h. (let e = h.count in absurd (omega (arith, e))), λ c. absurd (uneven row rows (c.1 ∙ none b c.0)))
  walked b (x ∷ xs) [] Held says =
      (λ h. (let e = h.count in absurd (omega (arith, e))), λ c. (let first = of b (first_or uncut c.0) x in absurd (uneven first (all (b && keeps first) (without_first c.0) xs) (sym (c.1 ∙ more b c.0 x xs)))))
  walked b (x ∷ xs) (row ∷ rows) Held says =
      let Holds : ℕ → A → R → Type 0 = λ k y r. Words (Held k) y r in
      let first = one b (Held 0) x row (says 0) in
      let rest = walked (b && keeps row) xs rows (λ k. Held (suc k)) (λ k. says (suc k)) in (
        λ h. (
            let c = first.0 (h.each 0 x row refl refl) in
            let cs = rest.0 (each_rest Holds x xs row rows h) in (
              c.0 ∷ cs.0,
              ap (λ (rs : List R). row ∷ rs) cs.1 ∙ ap (λ (r : R). r ∷ all (b && keeps r) cs.0 xs) c.1 ∙ sym (more b (c.0 ∷ cs.0) x xs),
            )
            ),
        λ c. (
            let e = c.1 ∙ more b c.0 x xs in
            let is : row ≡ of b (first_or uncut c.0) x = ap (first_or row) e in
            let are = ap without_first e ∙ sym (ap (λ (r : R). all (b && keeps r) (without_first c.0) xs) is) in each_first Holds x xs row rows (first.1 (first_or uncut c.0, is)) (rest.1 (without_first c.0, are))
            ),
      )

-- ---- a section

its_cut : (run : Run) (level : Level) (tags : List (List ℕ)) (outside : State) (b : Bool) (P : Type 0) (events : Events) → Decides b P → (P → (cut : Cut) × (events ≡ happened cut (section_events run level tags outside))) → ((P → ⊥) → events ≡ no_events) →
    (cut : Cut) × (events ≡ happened_in run level tags outside b cut)
its_cut run level tags outside true P events d begun unbegun = begun (d.0 refl)
its_cut run level tags outside false P events d begun unbegun = (nowhere, unbegun (never false d refl))

-- what is inside of it depends on its state, on whether it is ready, and on cuts
module _ {A X : Type 0} (run : Run) (level : Level) (tags : List (List ℕ)) (outside : State) (inside : X → State → Bool → Ran A) (Holds : State → Type 0 → A → Type 0)
    (each : (section : State) (c : Bool) (Q : Type 0) (a : A) → Decides c Q → Holds section Q a ↔ ((x : X) × (a ≡ result_of (inside x section c)))) where
  section_words : (b : Bool) (P : Type 0) (end : SectionRow A) → Decides b P → JudgedSection run level tags outside P Holds end ↔ ((cut : Cut) × (x : X) × (end ≡ result_of (section_of run level tags outside b cut (inside x))))
  section_words b P end d =
      let section = section_state run level tags outside in
      let ready = λ (es : Events). Decides-and b (before_passed es) d (itself (before_passed es)) in (
        λ w. (
            let es = w.events in
            let found = its_cut run level tags outside b P es d w.begun w.unbegun in
            let both = each section (b && before_passed es) (P × (before_passed es ≡ true)) end.inside (ready es) in
            let known = both.0 w.inside in
            let with_around : Status → SectionRow A = λ s. record { around = s; inside = end.inside } in
            let with_inside : A → SectionRow A = λ a. record { around = around_of es; inside = a } in
            let by_events : Events → SectionRow A = λ e. record { around = around_of e; inside = result_of (inside known.0 section (b && before_passed e)) } in
            (found.0, known.0, ap with_around w.around ∙ ap with_inside known.1 ∙ ap by_events found.1)
            ),
        λ c. (
            let now = happened c.0 (section_events run level tags outside) in
            let es = happened_in run level tags outside b c.0 in
            let both = each section (b && before_passed es) (P × (before_passed es ≡ true)) end.inside (ready es) in
            record {
              events = es;
              begun = λ p. (c.0, ap (λ (y : Bool). cond y now no_events) (d.1 p));
              unbegun = λ n. ap (λ (y : Bool). cond y now no_events) (unheld b d n);
              around = ap (λ (e : SectionRow A). e.around) c.2;
              inside = both.1 (c.1, ap (λ (e : SectionRow A). e.inside) c.2);
            }
            ),
      )

-- ---- cases

abbrev case_by : Run → State → Cut → MemberValue → Bool → Bool → CaseRow
case_by run section cut m selected is_open = cond selected (cond is_open (reached_row run section cut m.scenario) (unreached_row m.scenario)) (unselected_row m.scenario)

case_chosen : (run : Run) (section : State) (P : Type 0) (m : MemberValue) (row : CaseRow) → JudgedCase run section P m row → (selected : Bool) → m.selected ≡ selected → (b : Bool) → Decides b P → (cut : Cut) × (row ≡ case_by run section cut m selected b)
case_chosen run section P m row w false s b d = (nowhere, w.unselected s)
case_chosen run section P m row w true s true d = w.reached s (d.0 refl)
case_chosen run section P m row w true s false d = (nowhere, w.unreached s (never false d refl))

case_words : (run : Run) (section : State) (b : Bool) (P : Type 0) (m : MemberValue) (row : CaseRow) → Decides b P → JudgedCase run section P m row ↔ ((cut : Cut) × (row ≡ case_of run section b cut m))
case_words run section b P m row d = (
  λ w. case_chosen run section P m row w m.selected refl b d,
  λ c. (
      let by = case_by run section c.0 m in
      record {
        unselected = λ s. c.1 ∙ ap (λ (x : Bool). by x b) s;
        reached = λ s p. (c.0, c.1 ∙ ap (λ (x : Bool). by x b) s ∙ ap (by true) (d.1 p));
        unreached = λ s n. c.1 ∙ ap (λ (x : Bool). by x b) s ∙ ap (by true) (unheld b d n);
      }
      ),
)

abbrev stays_case : Run → CaseRow → Bool
stays_case run row = stays_open run row.status

stays_case_is : (run : Run) (row : CaseRow) → Decides (stays_case run row) (run.stop ≡ true → IsGoodCase row)
stays_case_is run row = stays run.stop (is_failed_or_memory row.status)

cases_words : (run : Run) (section : State) (b : Bool) (P : Type 0) (ms : List MemberValue) (rows : List CaseRow) → Decides b P → JudgedCases run section P ms rows ↔ ((cuts : List Cut) × (rows ≡ result_of (cases_of 0 run section b cuts ms)))
cases_words run section b P ms rows d =
    walked (case_of run section) (stays_case run) nowhere (λ b cuts ms. result_of (cases_of 0 run section b cuts ms)) (JudgedCase run section) (λ b cuts. refl) (λ b cuts m ms. refl) (case_words run section) b ms rows
    (λ k. P × (run.stop ≡ true → All IsGoodCase (take k rows))) (flag_stops run.stop (stays_case run) IsGoodCase (stays_case_is run) P b d rows)

cases_stay : (run : Run) (rows : List CaseRow) → Decides (all_stay_open run rows) (run.stop ≡ true → All IsGoodCase rows)
cases_stay run rows = all_stay run.stop (stays_case run) IsGoodCase (stays_case_is run) rows

-- ---- rules

abbrev RuleEnds : Type 0
RuleEnds = List (SectionRow (List CaseRow))

-- what rules come to, one after another
abbrev ends_of : Run → State → Bool → List RuleCuts → List Group → RuleEnds
ends_of run outside b cuts [] = []
ends_of run outside b cuts (g ∷ gs) =
    let end = result_of (rule_of 0 run outside b (first_or uncut_rule cuts) g) in
    end ∷ ends_of run outside (b && rule_stays_open run end) (without_first cuts) gs

abbrev messages_of : List Group → RuleEnds → Inside
messages_of groups ends = record { rules = rule_rows groups ends; cases = flat_map (λ (end : SectionRow (List CaseRow)). end.inside) ends }

rules_messages : (run : Run) (outside : State) (b : Bool) (cuts : List RuleCuts) (gs : List Group) → result_of (rules_of 0 run outside b cuts gs) ≡ messages_of gs (ends_of run outside b cuts gs)
rules_messages run outside b cuts [] = refl
rules_messages run outside b cuts (g ∷ gs) =
    let end = result_of (rule_of 0 run outside b (first_or uncut_rule cuts) g) in
    let before : Inside → Inside = λ next. record { rules = record { line = g.head.line; around = end.around } ∷ next.rules; cases = end.inside ++ next.cases } in
    ap before (rules_messages run outside (b && rule_stays_open run end) (without_first cuts) gs)

stays_rule_is : (run : Run) (end : SectionRow (List CaseRow)) → Decides (rule_stays_open run end) (run.stop ≡ true → IsGoodRule end)
stays_rule_is run end = grind (arith, common_steps, Decides-like, Decides-and, stays, cases_stay)

rule_words : (run : Run) (outside : State) (b : Bool) (P : Type 0) (g : Group) (end : SectionRow (List CaseRow)) → Decides b P → JudgedRule run outside P g end ↔ ((cuts : RuleCuts) × (end ≡ result_of (rule_of 0 run outside b cuts g)))
rule_words run outside b P g end d =
    let chosen = has_selected g.members in
    let inside : List Cut → State → Bool → Ran (List CaseRow) = λ cuts section c. cases_of 0 run section c cuts g.members in
    let both = section_words run levels.Rule g.head.tags outside inside (λ section Q rows. JudgedCases run section Q g.members rows) (λ section c Q rows e. cases_words run section c Q g.members rows e)
    (b && chosen) (P × (chosen ≡ true)) end (Decides-and b chosen d (itself chosen)) in
    (λ w. (let c = both.0 w in (record { own = c.0; cases = c.1 }, c.2)), λ c. (let cuts = c.0 in both.1 (cuts.own, cuts.cases, c.1)))

-- ---- what is inside of a feature

-- where the feature is open for its rules
open_for : (run : Run) (b : Bool) (P : Type 0) (own : List CaseRow) (ends : RuleEnds) (k : ℕ) → Decides b P →
    Decides (flag_at (rule_stays_open run) (b && all_stay_open run own) k ends) (P × (run.stop ≡ true → All IsGoodCase own × All IsGoodRule (take k ends)))
open_for run b P own ends k d =
    let opens = b && all_stay_open run own in
    Decides-like (flag_at (rule_stays_open run) opens k ends)
    (λ q. (q.0.0, λ s. (q.0.1 s, q.1 s))) (λ q. ((q.0, λ s. (q.1 s).0), λ s. (q.1 s).1))
    (flag_stops run.stop (rule_stays_open run) IsGoodRule (stays_rule_is run) (P × (run.stop ≡ true → All IsGoodCase own)) opens (Decides-and b (all_stay_open run own) d (cases_stay run own)) ends k)

rules_words : (run : Run) (section : State) (b : Bool) (P : Type 0) (own : List CaseRow) (groups : List Group) (ends : RuleEnds) → Decides b P →
    Each (λ k g end. JudgedRule run section (P × (run.stop ≡ true → All IsGoodCase own × All IsGoodRule (take k ends))) g end) groups ends ↔ ((cuts : List RuleCuts) × (ends ≡ ends_of run section (b && all_stay_open run own) cuts groups))
rules_words run section b P own groups ends d =
    walked (λ b cuts g. result_of (rule_of 0 run section b cuts g)) (rule_stays_open run) uncut_rule (ends_of run section) (JudgedRule run section) (λ b cuts. refl) (λ b cuts g gs. refl) (rule_words run section) (b && all_stay_open run own) groups ends
    (λ k. P × (run.stop ≡ true → All IsGoodCase own × All IsGoodRule (take k ends))) (λ k. open_for run b P own ends k d)

abbrev inside_with : List CaseRow → Inside → Inside
inside_with own next = record { rules = next.rules; cases = own ++ next.cases }

abbrev inside_for : Run → ChosenValue → List Cut × List RuleCuts → State → Bool → Ran Inside
inside_for run f cuts section is_open = inside_by run section is_open cuts.0 cuts.1 (own_members f) (rule_groups f)

inside_words : (run : Run) (section : State) (b : Bool) (P : Type 0) (f : ChosenValue) (inside : Inside) → Decides b P → JudgedInside run section P f inside ↔ ((cuts : List Cut × List RuleCuts) × (inside ≡ result_of (inside_for run f cuts section b)))
inside_words run section b P f inside d =
    let groups = rule_groups f in
    let cases = λ (own : List CaseRow). cases_words run section b P (own_members f) own d in
    let rules = λ (own : List CaseRow) (ends : RuleEnds). rules_words run section b P own groups ends d in (
      λ w. (
          let mine = w.own in
          let own = (cases mine).0 w.cases in
          let ruled = (rules mine w.ends).0 w.rules in
          let with_cases : List CaseRow → Inside = λ rows. record { rules = inside.rules; cases = rows } in
          let with_rules : List RuleRow → Inside = λ rows. record { rules = rows; cases = mine ++ flat_map (λ (end : SectionRow (List CaseRow)). end.inside) w.ends } in
          let by_own : List CaseRow → Inside = λ rows. inside_with rows (result_of (rules_of 0 run section (b && all_stay_open run rows) ruled.0 groups)) in (
            (own.0, ruled.0),
            ap with_cases w.case_results ∙ ap with_rules w.rule_results ∙ ap (λ (ends : RuleEnds). inside_with mine (messages_of groups ends)) ruled.1
                ∙ sym (ap (inside_with mine) (rules_messages run section (b && all_stay_open run mine) ruled.0 groups)) ∙ ap by_own own.1,
          )
          ),
      λ c. (
          let mine = result_of (cases_of 0 run section b c.0.0 (own_members f)) in
          let opens = b && all_stay_open run mine in
          let theirs = ends_of run section opens c.0.1 groups in
          let messages = c.1 ∙ ap (inside_with mine) (rules_messages run section opens c.0.1 groups) in
          let own = cases mine in
          let ruled = rules mine theirs in
          record { own = mine; ends = theirs; cases = own.1 (c.0.0, refl); rules = ruled.1 (c.0.1, refl); case_results = ap (λ (i : Inside). i.cases) messages; rule_results = ap (λ (i : Inside). i.rules) messages }
          ),
    )

-- ---- features

-- a feature's result by its heading
abbrev end_in : FeatureRow → SectionRow Inside
end_in row = record { around = row.around; inside = record { rules = row.rules; cases = row.cases } }

headed : (f : ChosenValue) (row : FeatureRow) → IsHeaded f row → row ≡ (let end = end_in row in feature_row_of f end.around end.inside)
headed f row h = grind (arith, common_steps)

heading_of : (f : ChosenValue) (row : FeatureRow) (around : Status) (inside : Inside) → row ≡ feature_row_of f around inside → IsHeaded f row
heading_of f row around inside e = subst (IsHeaded f) (sym e) (record { source = refl; name = refl; line = refl; verdict = refl })

feature_words : (run : Run) (outside : State) (b : Bool) (P : Type 0) (f : ChosenValue) (row : FeatureRow) → Decides b P → JudgedFeature run outside P f row ↔ ((cuts : FeatureCuts) × (row ≡ result_of (feature_of run outside b cuts f)))
feature_words run outside b P f row d =
    let chosen = has_selected f.members in
    let both = section_words run levels.Feature f.tags outside (inside_for run f) (λ section Q i. JudgedInside run section Q f i) (λ section c Q i e. inside_words run section c Q f i e) (b && chosen) (P × (chosen ≡ true)) (end_in row) (Decides-and b chosen d (itself chosen)) in (
      λ w. (
          let c = both.0 w.goes in
          (record { own = c.0; cases = c.1.0; rules = c.1.1 }, headed f row w.heading ∙ ap (λ (end : SectionRow Inside). feature_row_of f end.around end.inside) c.2)
          ),
      λ c. (
          let cuts = c.0 in
          let end = result_of (section_of run levels.Feature f.tags outside (b && chosen) cuts.own (inside_for run f (cuts.cases, cuts.rules))) in
          record { heading = heading_of f row end.around end.inside c.1; goes = both.1 (cuts.own, (cuts.cases, cuts.rules), ap end_in c.1) }
          ),
    )

abbrev stays_feature : Run → FeatureRow → Bool
stays_feature run row = stays_open run row.status

features_words : (run : Run) (section : State) (b : Bool) (P : Type 0) (fs : List ChosenValue) (rows : List FeatureRow) → Decides b P → JudgedFeatures run section P fs rows ↔ ((cuts : List FeatureCuts) × (rows ≡ result_of (features_of run section b cuts fs)))
features_words run section b P fs rows d =
    walked (λ b cuts f. result_of (feature_of run section b cuts f)) (stays_feature run) uncut_feature (λ b cuts fs. result_of (features_of run section b cuts fs)) (JudgedFeature run section) (λ b cuts. refl) (λ b cuts f fs. refl) (feature_words run section) b fs rows
    (λ k. P × (run.stop ≡ true → All IsGoodFeature (take k rows))) (flag_stops run.stop (stays_feature run) IsGoodFeature (λ row. stays run.stop (is_failed_or_memory row.status)) P b d rows)

-- ---- dry runs

-- lists whose elements don't depend on each other
abbrev always : {R : Type 0} → R → Bool
always row = true

dry_case_words : (library : LibraryValue) (m : MemberValue) (row : CaseRow) → JudgedDryCase library m row ↔ ((cut : Cut) × (row ≡ dry_case_of library cut m))
dry_case_words library m row = grind (arith, common_steps)

dry_cases_words : (library : LibraryValue) (ms : List MemberValue) (rows : List CaseRow) → Each (λ k m row. JudgedDryCase library m row) ms rows ↔ ((cuts : List Cut) × (rows ≡ dry_cases_of library cuts ms))
dry_cases_words library ms rows =
    walked (λ b cut m. dry_case_of library cut m) always nowhere (λ b cuts ms. dry_cases_of library cuts ms) (λ P m row. JudgedDryCase library m row) (λ b cuts. refl) (λ b cuts m ms. refl) (λ b P m row d. dry_case_words library m row) true ms rows
    (λ k. flag_at always true k rows ≡ true) (λ k. itself (flag_at always true k rows))

dry_feature_words : (library : LibraryValue) (f : ChosenValue) (row : FeatureRow) → JudgedDryFeature library f row ↔ ((cuts : FeatureCuts) × (row ≡ dry_feature_of library cuts f))
dry_feature_words library f row =
    let both = dry_cases_words library f.members row.cases in
    let of : Status → List RuleRow → List CaseRow → FeatureRow = λ around rules cases. feature_row_of f around (record { rules = rules; cases = cases }) in (
      λ w. (
          let c = both.0 w.cases in
          (record { own = nowhere; cases = c.0; rules = [] }, headed f row w.heading ∙ ap (λ (s : Status). of s row.rules row.cases) w.around ∙ ap (λ (rs : List RuleRow). of statuses.Passed rs row.cases) w.rules ∙ ap (of statuses.Passed (dry_rules_of f.rules)) c.1)
          ),
      λ c. (
          let cuts = c.0 in
          record {
            heading = heading_of f row statuses.Passed (record { rules = dry_rules_of f.rules; cases = dry_cases_of library cuts.cases f.members }) c.1;
            around = ap (λ (r : FeatureRow). r.around) c.1;
            rules = ap (λ (r : FeatureRow). r.rules) c.1;
            cases = both.1 (cuts.cases, ap (λ (r : FeatureRow). r.cases) c.1);
          }
          ),
    )

dry_words : (run : Run) (fs : List ChosenValue) (results : Results) → JudgedDryRun run fs results ↔ ((cuts : Cuts) × (results ≡ dry_results run cuts fs))
dry_words run fs results =
    let library = run.library in
    let rows = results.features in
    let both = walked (λ b cuts f. dry_feature_of library cuts f) always uncut_feature (λ b cuts fs. dry_features_of library cuts fs) (λ P f row. JudgedDryFeature library f row) (λ b cuts. refl) (λ b cuts f fs. refl) (λ b P f row d. dry_feature_words library f row) true fs rows
    (λ k. flag_at always true k rows ≡ true) (λ k. itself (flag_at always true k rows)) in
    let of : Status → List FeatureRow → Results = λ around features. record { features = features; around = around } in (
      λ w. (let c = both.0 w.inside in (record { own = nowhere; features = c.0 }, ap (λ (s : Status). of s rows) w.around ∙ ap (of statuses.Passed) c.1)),
      λ c. (let cuts = c.0 in record { around = ap (λ (r : Results). r.around) c.1; inside = both.1 (cuts.features, ap (λ (r : Results). r.features) c.1) }),
    )

-- ---- the run

abbrev RealInWords : Run → State → List ChosenValue → Results → Type 0
RealInWords run start fs results =
    JudgedSection run levels.Run [] start ⊤ (λ section Q rows. JudgedFeatures run section Q fs rows) (record { around = results.around; inside = results.features })

real_words : (run : Run) (start : State) (fs : List ChosenValue) (results : Results) → RealInWords run start fs results ↔ ((cuts : Cuts) × (results ≡ results_from run start cuts fs))
real_words run start fs results =
    let features : List FeatureCuts → State → Bool → Ran (List FeatureRow) = λ cuts section c. features_of run section c cuts fs in
    let end : SectionRow (List FeatureRow) = record { around = results.around; inside = results.features } in
    let both = section_words run levels.Run [] start features (λ section Q rows. JudgedFeatures run section Q fs rows) (λ section c Q rows e. features_words run section c Q fs rows e) true ⊤ end (λ t. tt, λ t. refl) in (
      λ w. (let c = both.0 w in (record { own = c.0; features = c.1 }, ap (λ (e : SectionRow (List FeatureRow)). record { features = e.inside; around = e.around }) c.2)),
      λ c. (let cuts = c.0 in both.1 (cuts.own, cuts.features, ap (λ (r : Results). record { around = r.around; inside = r.features }) c.1)),
    )

-- the results by whether the run is dry
judged_by : (run : Run) (contents : Contents) (fs : List ChosenValue) (results : Results) → JudgedPartByPart run contents fs results → (is_dry : Bool) → run.dry_run ≡ is_dry → Judged run contents fs results
judged_by run contents fs results w true h = let c = (dry_words run fs results).0 (w.dry h) in (c.0, c.1 ∙ sym (ap (results_by run contents c.0 fs) h))
judged_by run contents fs results w false h = let c = (real_words run (state_of contents) fs results).0 (w.real h) in (c.0, c.1 ∙ sym (ap (results_by run contents c.0 fs) h))

pub judged_in_words : JudgedHoldPartByPart
judged_in_words run contents fs results = (
  λ judged. (
      let by = results_by run contents judged.0 fs in
      record {
        dry = λ h. (dry_words run fs results).1 (judged.0, judged.1 ∙ ap by h);
        real = λ h. (real_words run (state_of contents) fs results).1 (judged.0, judged.1 ∙ ap by h);
      }
      ),
  λ w. judged_by run contents fs results w run.dry_run refl,
)

-- ---- steps

pub steps_results : StepsHaveTheirResults
steps_results [] marks = record { count = refl; each = λ k step row at that. absurd (none-some step at) }
steps_results (step ∷ steps) [] = grind (arith, common_steps, steps_results steps [])
steps_results (step ∷ steps) (mark ∷ marks) = grind (arith, common_steps, steps_results steps marks)
