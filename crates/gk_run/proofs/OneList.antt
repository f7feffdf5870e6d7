-- Without a memory mark there is one list only.
use Rattle.gk_run.proofs.Common.{Bool, List, [], ap, cond, false, map, refl, subst, sym, true, ℕ, ◌&&◌, ◌++◌, ◌||◌, ◌∙◌, ◌∷◌, ◌≡◌, true≢false, rules, arith, common_steps, list_any, list_any-append, CaseValue, LibraryValue, State, state_of, Ending, Status, Level, Run, SectionRow, happened_in, section_events, section_of, section_state, reached_row, case_of, cases_of, first_or, without_first, stays_open, ChosenValue, MemberValue, has_selected, Group, own_members, rule_groups, dry_case_of, dry_cases_of, dry_events, dry_feature_of, dry_features_of, dry_row, dry_step, around_status, is_memory_mark, verdict_status, cut_at, ended_in, event_marks, Ran, result_of, FeatureCuts, feature_of, feature_row_of, features_of, inside_by, inside_of, uncut_feature, Inside, RuleCuts, rule_of, rule_stays_open, rules_of, uncut_rule, Cuts, OneList, dry_results, has_memory, is_memory_case, is_memory_feature, is_memory_rule, results_from, uncut, CaseRow, FeatureRow, RuleRow, Results, is_memory, Cut, Events, around_events, around_of, before_passed, happened, in_after, in_before, in_cleanups, in_order, in_steps, has_event, nowhere}
use Rattle.gk_run.specs.declared.ending.Ending.TheVariants as endings
use Rattle.gk_run.specs.declared.results.Status.TheVariants as statuses
use Rattle.gk_run.specs.declared.section.Level.TheVariants as levels
use Rattle.gk_run.proofs.EventLemmas.{cut_ends, cut_is_memory, first_refused, later_refused}

pub or_left : (a b : Bool) → (a || b) ≡ false → a ≡ false
or_left false b h = refl
or_left true b h = h

pub or_right : (a b : Bool) → (a || b) ≡ false → b ≡ false
or_right false b h = h
or_right true b h = absurd (true≢false h)

-- a cut is none unless what happened has an ending in memory
uncut_by : (b : Bool) (now e : Events) (f : Events → Ending) → (b ≡ true → f now ≡ endings.Memory) → (f (cond b now e) ≡ endings.Memory → ⊥) → cond b now e ≡ e
uncut_by false now e f h free = refl
uncut_by true now e f h free = absurd (free (h refl))

case_uncut : (cut : Cut) (e : Events) → (ended_in (in_order (happened cut e)) ≡ endings.Memory → ⊥) → happened cut e ≡ e
case_uncut nowhere e free = refl
case_uncut (in_before n s) e free = grind (arith, common_steps, uncut_by, first_refused, cut_ends)
case_uncut (in_steps n s) e free = grind (arith, common_steps, uncut_by, later_refused, first_refused, cut_ends)
case_uncut (in_after n s) e free = grind (arith, common_steps, uncut_by, later_refused, first_refused, cut_ends)
case_uncut (in_cleanups n s) e free = grind (arith, common_steps, uncut_by, later_refused, cut_ends)

section_uncut : (run : Run) (level : Level) (tags : List (List ℕ)) (outside : State) (cut : Cut) →
    (let es = section_events run level tags outside in ended_in (around_events (happened cut es)) ≡ endings.Memory → ⊥) → (let es = section_events run level tags outside in happened cut es ≡ es)
section_uncut run level tags outside nowhere free = refl
section_uncut run level tags outside (in_before n s) free = grind (arith, common_steps, uncut_by, first_refused, cut_ends)
section_uncut run level tags outside (in_steps n s) free = refl
section_uncut run level tags outside (in_after n s) free = grind (arith, common_steps, uncut_by, later_refused, first_refused, cut_ends)
section_uncut run level tags outside (in_cleanups n s) free = grind (arith, common_steps, uncut_by, later_refused, cut_ends)

not_verdict : (e : Ending) → is_memory (verdict_status e) ≡ false → e ≡ endings.Memory → ⊥
not_verdict e h m = true≢false (sym (ap (λ x. is_memory (verdict_status x)) m) ∙ h)

not_around : (e : Ending) → is_memory (around_status e) ≡ false → e ≡ endings.Memory → ⊥
not_around e h m = true≢false (sym (ap (λ x. is_memory (around_status x)) m) ∙ h)

-- ---- cases

pub reached_kept : (run : Run) (section : State) (cut : Cut) (c : CaseValue) → (let row = reached_row run section cut c in is_memory row.status ≡ false) → reached_row run section cut c ≡ reached_row run section nowhere c
reached_kept run section cut c h = search (rules, case_uncut, not_verdict)

choice_kept : (b : Bool) (x x' y y' : CaseRow) → (is_memory x.status ≡ false → x ≡ x') → (is_memory y.status ≡ false → y ≡ y') → (let row : CaseRow = cond b x y in is_memory row.status ≡ false) → cond b x y ≡ cond b x' y'
choice_kept true x x' y y' f g h = f h
choice_kept false x x' y y' f g h = g h

case_kept : (run : Run) (section : State) (is_open : Bool) (cut : Cut) (m : MemberValue) → (let row = case_of run section is_open cut m in is_memory row.status ≡ false) → case_of run section is_open cut m ≡ case_of run section is_open nowhere m
case_kept run section is_open cut m h = grind (arith, common_steps, choice_kept, reached_kept)

cases_kept : (run : Run) (section : State) (is_open : Bool) (cuts : List Cut) (ms : List MemberValue) →
    list_any is_memory_case (result_of (cases_of 0 run section is_open cuts ms)) ≡ false → result_of (cases_of 0 run section is_open cuts ms) ≡ result_of (cases_of 0 run section is_open [] ms)
cases_kept run section is_open cuts [] h = refl
cases_kept run section is_open cuts (m ∷ ms) h =
    let row = case_of run section is_open (first_or nowhere cuts) m in
    let rest = result_of (cases_of 0 run section (is_open && stays_open run row.status) (without_first cuts) ms) in
    ap (λ rows. row ∷ rows) (cases_kept run section (is_open && stays_open run row.status) (without_first cuts) ms (or_right (is_memory_case row) (list_any is_memory_case rest) h))
    ∙ ap (λ (r : CaseRow). r ∷ result_of (cases_of 0 run section (is_open && stays_open run r.status) [] ms))
    (case_kept run section is_open (first_or nowhere cuts) m (or_left (is_memory_case row) (list_any is_memory_case rest) h))

-- ---- features, the run

happened_kept : (run : Run) (level : Level) (tags : List (List ℕ)) (outside : State) (is_begun : Bool) (cut : Cut) →
    is_memory (around_of (happened_in run level tags outside is_begun cut)) ≡ false → happened_in run level tags outside is_begun cut ≡ happened_in run level tags outside is_begun nowhere
happened_kept run level tags outside false cut h = refl
happened_kept run level tags outside true cut h = grind (arith, common_steps, section_uncut, not_around)

-- what a section comes to in which no memory was refused
section_kept : {A : Type 0} (run : Run) (level : Level) (tags : List (List ℕ)) (outside : State) (is_begun : Bool) (cut : Cut) (inside uncut_inside : State → Bool → Ran A) →
    (let end = result_of (section_of run level tags outside is_begun cut inside) in is_memory end.around ≡ false) →
    (let events = happened_in run level tags outside is_begun cut in let section = section_state run level tags outside in result_of (inside section (is_begun && before_passed events)) ≡ result_of (uncut_inside section (is_begun && before_passed events))) →
    result_of (section_of run level tags outside is_begun cut inside) ≡ result_of (section_of run level tags outside is_begun nowhere uncut_inside)
section_kept {A} run level tags outside is_begun cut inside uncut_inside h same = grind (arith, common_steps, happened_kept)

append_left : (xs ys : List CaseRow) → list_any is_memory_case (xs ++ ys) ≡ false → list_any is_memory_case xs ≡ false
append_left xs ys h = or_left (list_any is_memory_case xs) (list_any is_memory_case ys) (sym (list_any-append is_memory_case xs ys) ∙ h)

append_right : (xs ys : List CaseRow) → list_any is_memory_case (xs ++ ys) ≡ false → list_any is_memory_case ys ≡ false
append_right xs ys h = or_right (list_any is_memory_case xs) (list_any is_memory_case ys) (sym (list_any-append is_memory_case xs ys) ∙ h)

-- a rule
rule_kept : (run : Run) (outside : State) (is_open : Bool) (cuts : RuleCuts) (g : Group) →
    (let end = result_of (rule_of 0 run outside is_open cuts g) in is_memory end.around ≡ false) → (let end = result_of (rule_of 0 run outside is_open cuts g) in list_any is_memory_case end.inside ≡ false) →
    result_of (rule_of 0 run outside is_open cuts g) ≡ result_of (rule_of 0 run outside is_open uncut_rule g)
rule_kept run outside is_open cuts g around cases = search (rules, section_kept, cases_kept)

rules_kept : (run : Run) (outside : State) (is_open : Bool) (cuts : List RuleCuts) (gs : List Group) →
    (let inside = result_of (rules_of 0 run outside is_open cuts gs) in list_any is_memory_rule inside.rules ≡ false) → (let inside = result_of (rules_of 0 run outside is_open cuts gs) in list_any is_memory_case inside.cases ≡ false) →
    result_of (rules_of 0 run outside is_open cuts gs) ≡ result_of (rules_of 0 run outside is_open [] gs)
rules_kept run outside is_open cuts [] h k = refl
rules_kept run outside is_open cuts (g ∷ gs) h k =
    let end = result_of (rule_of 0 run outside is_open (first_or uncut_rule cuts) g) in
    let opens : SectionRow (List CaseRow) → Bool = λ e. is_open && rule_stays_open run e in
    let next = result_of (rules_of 0 run outside (opens end) (without_first cuts) gs) in
    let row : SectionRow (List CaseRow) → RuleRow = λ e. record { line = g.head.line; around = e.around } in
    let both : SectionRow (List CaseRow) → Inside → Inside = λ e n. record { rules = row e ∷ n.rules; cases = e.inside ++ n.cases } in
    ap (both end) (rules_kept run outside (opens end) (without_first cuts) gs (or_right (is_memory end.around) (list_any is_memory_rule next.rules) h) (append_right end.inside next.cases k))
    ∙ ap (λ e. both e (result_of (rules_of 0 run outside (opens e) [] gs)))
    (rule_kept run outside is_open (first_or uncut_rule cuts) g (or_left (is_memory end.around) (list_any is_memory_rule next.rules) h) (append_left end.inside next.cases k))

inside_kept : (run : Run) (section : State) (is_open : Bool) (cuts : List Cut) (rule_cuts : List RuleCuts) (own : List MemberValue) (gs : List Group) →
    (let inside = result_of (inside_by run section is_open cuts rule_cuts own gs) in list_any is_memory_rule inside.rules ≡ false) → (let inside = result_of (inside_by run section is_open cuts rule_cuts own gs) in list_any is_memory_case inside.cases ≡ false) →
    result_of (inside_by run section is_open cuts rule_cuts own gs) ≡ result_of (inside_by run section is_open [] [] own gs)
inside_kept run section is_open cuts rule_cuts own gs h k = grind (arith, common_steps, rules_kept, append_right, cases_kept, append_left)

feature_kept : (run : Run) (outside : State) (is_open : Bool) (cuts : FeatureCuts) (f : ChosenValue) →
    is_memory_feature (result_of (feature_of run outside is_open cuts f)) ≡ false → result_of (feature_of run outside is_open cuts f) ≡ result_of (feature_of run outside is_open uncut_feature f)
feature_kept run outside is_open cuts f h =
    let is_begun = is_open && has_selected f.members in
    let section = section_state run levels.Feature f.tags outside in
    let events = happened_in run levels.Feature f.tags outside is_begun cuts.own in
    let is_ready = is_begun && before_passed events in
    let inside = result_of (inside_by run section is_ready cuts.cases cuts.rules (own_members f) (rule_groups f)) in
    let row : SectionRow Inside → FeatureRow = λ end. feature_row_of f end.around end.inside in
    let others = or_right (is_memory (around_of events)) (list_any is_memory_rule inside.rules || list_any is_memory_case inside.cases) h in
    ap row (section_kept run levels.Feature f.tags outside is_begun cuts.own (inside_of run cuts f) (inside_of run uncut_feature f)
    (or_left (is_memory (around_of events)) (list_any is_memory_rule inside.rules || list_any is_memory_case inside.cases) h)
    (inside_kept run section is_ready cuts.cases cuts.rules (own_members f) (rule_groups f)
    (or_left (list_any is_memory_rule inside.rules) (list_any is_memory_case inside.cases) others) (or_right (list_any is_memory_rule inside.rules) (list_any is_memory_case inside.cases) others)))

features_kept : (run : Run) (outside : State) (is_open : Bool) (cuts : List FeatureCuts) (fs : List ChosenValue) →
    list_any is_memory_feature (result_of (features_of run outside is_open cuts fs)) ≡ false → result_of (features_of run outside is_open cuts fs) ≡ result_of (features_of run outside is_open [] fs)
features_kept run outside is_open cuts [] h = refl
features_kept run outside is_open cuts (f ∷ fs) h =
    let row = result_of (feature_of run outside is_open (first_or uncut_feature cuts) f) in
    let next : FeatureRow → Bool = λ r. is_open && stays_open run r.status in
    let rest = result_of (features_of run outside (next row) (without_first cuts) fs) in
    ap (λ rows. row ∷ rows) (features_kept run outside (next row) (without_first cuts) fs (or_right (is_memory_feature row) (list_any is_memory_feature rest) h))
    ∙ ap (λ r. r ∷ result_of (features_of run outside (next r) [] fs))
    (feature_kept run outside is_open (first_or uncut_feature cuts) f (or_left (is_memory_feature row) (list_any is_memory_feature rest) h))

run_kept : (run : Run) (start : State) (cuts : Cuts) (fs : List ChosenValue) → has_memory (results_from run start cuts fs) ≡ false → results_from run start cuts fs ≡ results_from run start uncut fs
run_kept run start cuts fs h =
    let section = section_state run levels.Run [] start in
    let es = section_events run levels.Run [] start in
    let events = happened cuts.own es in
    let features = result_of (features_of run section (before_passed events) cuts.features fs) in
    let with_features : List FeatureRow → Results = λ rows. record { features = rows; around = around_of events } in
    let whole : Events → Results = λ x. record { features = result_of (features_of run section (before_passed x) [] fs); around = around_of x } in
    ap with_features (features_kept run section (before_passed events) cuts.features fs (or_right (is_memory (around_of events)) (list_any is_memory_feature features) h))
    ∙ ap whole (section_uncut run levels.Run [] start cuts.own (not_around (ended_in (around_events events)) (or_left (is_memory (around_of events)) (list_any is_memory_feature features) h)))

-- ---- a dry run

-- a cut in steps is none unless one of them is memory
steps_uncut : (b : Bool) (n : ℕ) (s : State) (e : Events) → has_event n e.steps ≡ b → (let now : Events = cond b (record e { steps = cut_at n s e.steps; after = []; cleanups = [] }) e in list_any is_memory_mark (event_marks now.steps) ≡ false) →
    cond b (record e { steps = cut_at n s e.steps; after = []; cleanups = [] }) e ≡ e
steps_uncut false n s e place h = refl
steps_uncut true n s e place h = absurd (true≢false (sym (cut_is_memory e.steps n s place) ∙ h))

dry_uncut : (library : LibraryValue) (cut : Cut) (c : CaseValue) → (let es = dry_events library c in let e = happened cut es in list_any is_memory_mark (event_marks e.steps) ≡ false) → (let es = dry_events library c in happened cut es ≡ es)
dry_uncut library nowhere c h = refl
dry_uncut library (in_before n s) c h = refl
dry_uncut library (in_steps n s) c h = steps_uncut (has_event n (map (dry_step library) c.steps)) n s (dry_events library c) refl h
dry_uncut library (in_after n s) c h = refl
dry_uncut library (in_cleanups n s) c h = refl

not_dry_verdict : (b : Bool) → (let status : Status = cond b statuses.Memory statuses.Untested in is_memory status ≡ false) → b ≡ false
not_dry_verdict true h = absurd (true≢false h)
not_dry_verdict false h = refl

dry_row_kept : (library : LibraryValue) (cut : Cut) (c : CaseValue) → (let row = dry_row library cut c in is_memory row.status ≡ false) → dry_row library cut c ≡ dry_row library nowhere c
dry_row_kept library cut c h = grind (arith, common_steps, dry_uncut, not_dry_verdict)

dry_case_kept : (library : LibraryValue) (cut : Cut) (m : MemberValue) → (let row = dry_case_of library cut m in is_memory row.status ≡ false) → dry_case_of library cut m ≡ dry_case_of library nowhere m
dry_case_kept library cut m h = grind (arith, common_steps, choice_kept, dry_row_kept)

dry_cases_kept : (library : LibraryValue) (cuts : List Cut) (ms : List MemberValue) → list_any is_memory_case (dry_cases_of library cuts ms) ≡ false → dry_cases_of library cuts ms ≡ dry_cases_of library [] ms
dry_cases_kept library cuts [] h = refl
dry_cases_kept library cuts (m ∷ ms) h =
    let row = dry_case_of library (first_or nowhere cuts) m in
    let rest = dry_cases_of library (without_first cuts) ms in
    ap (λ rows. row ∷ rows) (dry_cases_kept library (without_first cuts) ms (or_right (is_memory_case row) (list_any is_memory_case rest) h))
    ∙ ap (λ (r : CaseRow). r ∷ dry_cases_of library [] ms) (dry_case_kept library (first_or nowhere cuts) m (or_left (is_memory_case row) (list_any is_memory_case rest) h))

dry_feature_kept : (library : LibraryValue) (cuts : FeatureCuts) (f : ChosenValue) → is_memory_feature (dry_feature_of library cuts f) ≡ false → dry_feature_of library cuts f ≡ dry_feature_of library uncut_feature f
dry_feature_kept library cuts f h = grind (arith, common_steps, dry_cases_kept, or_right)

dry_features_kept : (library : LibraryValue) (cuts : List FeatureCuts) (fs : List ChosenValue) → list_any is_memory_feature (dry_features_of library cuts fs) ≡ false → dry_features_of library cuts fs ≡ dry_features_of library [] fs
dry_features_kept library cuts [] h = refl
dry_features_kept library cuts (f ∷ fs) h =
    let row = dry_feature_of library (first_or uncut_feature cuts) f in
    let rest = dry_features_of library (without_first cuts) fs in
    ap (λ rows. row ∷ rows) (dry_features_kept library (without_first cuts) fs (or_right (is_memory_feature row) (list_any is_memory_feature rest) h))
    ∙ ap (λ (r : FeatureRow). r ∷ dry_features_of library [] fs) (dry_feature_kept library (first_or uncut_feature cuts) f (or_left (is_memory_feature row) (list_any is_memory_feature rest) h))

dry_run_kept : (run : Run) (cuts : Cuts) (fs : List ChosenValue) → has_memory (dry_results run cuts fs) ≡ false → dry_results run cuts fs ≡ dry_results run uncut fs
dry_run_kept run cuts fs h = grind (arith, common_steps, dry_features_kept)

-- ---- both

results_kept : (is_dry : Bool) (x x' y y' : Results) → (has_memory x ≡ false → x ≡ x') → (has_memory y ≡ false → y ≡ y') → (let r : Results = cond is_dry x y in has_memory r ≡ false) → cond is_dry x y ≡ cond is_dry x' y'
results_kept true x x' y y' f g h = f h
results_kept false x x' y y' f g h = g h

pub one_list : OneList
one_list run contents fs results judged h =
    let start = state_of contents in
    let cuts = judged.0 in
    judged.1
    ∙ results_kept run.dry_run (dry_results run cuts fs) (dry_results run uncut fs) (results_from run start cuts fs) (results_from run start uncut fs) (dry_run_kept run cuts fs) (run_kept run start cuts fs)
    (subst (λ r. has_memory r ≡ false) judged.1 h)
