-- Each scenario whose result is settled has its own result.
use Rattle.gk_run.proofs.Common.{AllZip, Bool, List, Option, Some, None, [], ap, cond, false, flat_map, length, map, not, option_map, refl, slice_get, subst, suc, sym, true, zero, ℕ, ◌&&◌, ◌||◌, ◌+◌, ◌++◌, ◌∙◌, ◌∷◌, ◌≡◌, inl, inr, true≢false, nat_eq, none-some, same_Some, eqb-true, arith, list_any, list_any-append, rank, FallFrom, CaseValue, LibraryValue, Contents, State, StepValue, enter, state_of, Status, Level, before_of, entered, left_by, walk, event_marks, is_memory_mark, dry_events, ⊤, case_of, cases_of, first_or, without_first, is_failed_or_memory, stays_open, all_stay_open, reached_row, unreached_row, unselected_row, CasesFallIntoRules, ChosenValue, HeadValue, MemberValue, has_selected, Group, groups_from, members_of_rank, own_members, rule_groups, dry_cases_of, dry_features_of, dry_row, FeatureCuts, feature_of, features_of, case_statuses, rule_statuses, verdict_by, uncut_feature, RuleCuts, rule_of, rule_stays_open, rules_of, uncut_rule, Cuts, Judged, uncut, dry_results, results_from, result_of, SectionRow, around_of, happened_in, no_events, section_events, section_state, Run, CaseRow, FeatureRow, Results, is_failed, is_memory, is_passed, is_untested, Cut, Events, before_passed, happened, in_after, in_before, in_cleanups, in_steps, has_event, nowhere, cut_at, ended_in, has_passed, before_list, HookValue, Ending, Mark, SectionNow, Skipped, StepRow, Untested, after_event, after_lists, before_events, cleaned, ending_of, event_of, looked_up, one_step, outcomes_of, row_of_step, rows_of_steps, steps_from, steps_of_case, verdict_status, walk_each, Event, map-append, reverse, reverse-append, mark_of, CleanupValue, Registered, Registration, cleanups_at, place_of, Stepped, stepped, FoundValue, of_step, of_cleanup, found, clean_each, cleanup_done, Outcome, Acted, around_status, after_of, members_of_groups}
use Rattle.gk_run.specs.Ending.{ended_of}
use Rattle.gk_run.specs.OwnResult.{Above, BeginsLike, HasResult, ScenariosComeToTheSameAlone, MovedScenariosComeToTheSame, anywhere, row_anywhere, step_anywhere, step_row_anywhere, deselected, IsLike, IsSameScenario, none_in, only, only_case, only_in, IsSettled, Place, ResultsAreTheSameInEachRun, ScenariosHaveTheirOwnResults, Start, above, go_inside, go_inside_rule, own_row, ran_whole, start_of, tags_of_rule}
use Rattle.gk_run.specs.declared.ending.Ending.TheVariants as endings
use Rattle.gk_run.specs.declared.section.Part.TheVariants as parts
use Rattle.gk_run.specs.declared.results.Status.TheVariants as statuses
use Rattle.gk_run.specs.declared.section.Level.TheVariants as levels
use Rattle.gk_run.proofs.EventLemmas.{cut_ends}
use Rattle.gk_run.proofs.CasesLemmas.{and_true}
use Rattle.gk_run.proofs.GroupingLemmas.{and_left, groups_all}
use Rattle.gk_run.proofs.JudgedLemmas.{results_by}
use Rattle.gk_run.proofs.OneList.{one_list, or_left, or_right, reached_kept}

-- ---- lists, place by place

zip_append : {A R : Type 0} (H : A → R → Type 0) (xs : List A) (rows : List R) (ys : List A) (more : List R) → AllZip H xs rows → AllZip H ys more → AllZip H (xs ++ ys) (rows ++ more)
zip_append H [] [] ys more h k = k
zip_append H [] (row ∷ rows) ys more h k = absurd h
zip_append H (x ∷ xs) [] ys more h k = absurd h
zip_append H (x ∷ xs) (row ∷ rows) ys more h k = (h.0, zip_append H xs rows ys more h.1 k)

zip_at : {A R : Type 0} (H : A → R → Type 0) (xs : List A) (rows : List R) (k : ℕ) (x : A) (row : R) → AllZip H xs rows → slice_get xs k ≡ Some x → slice_get rows k ≡ Some row → H x row
zip_at H [] rows k x row h at there = absurd (none-some x at)
zip_at H (y ∷ ys) [] k x row h at there = absurd h
zip_at H (y ∷ ys) (r ∷ rs) zero x row h at there = subst (λ z. H z row) (same_Some y x at) (subst (H y) (same_Some r row there) h.0)
zip_at H (y ∷ ys) (r ∷ rs) (suc k) x row h at there = zip_at H ys rs k x row h.1 at there

-- ---- a section's before list

-- one that passed whole wasn't cut
passed_by : (b : Bool) (now e : Events) → (b ≡ true → ended_in now.before ≡ endings.Memory) → before_passed (cond b now e) ≡ true → before_passed e ≡ true
passed_by false now e h p = p
passed_by true now e h p = absurd (true≢false (sym p ∙ ap has_passed (h refl)))

kept_by : (b : Bool) (now e : Events) → now.before ≡ e.before → before_passed (cond b now e) ≡ true → before_passed e ≡ true
kept_by false now e h p = p
kept_by true now e h p = sym (ap (λ es. has_passed (ended_in es)) h) ∙ p

passed_uncut : (cut : Cut) (e : Events) → before_passed (happened cut e) ≡ true → before_passed e ≡ true
passed_uncut nowhere e p = p
passed_uncut (in_before n s) e p = passed_by (has_event n e.before) (record { before = cut_at n s e.before; steps = []; after = []; cleanups = [] }) e (cut_ends e.before n s) p
passed_uncut (in_steps n s) e p = kept_by (has_event n e.steps) (record e { steps = cut_at n s e.steps; after = []; cleanups = [] }) e refl p
passed_uncut (in_after n s) e p = kept_by (has_event n e.after) (record e { after = cut_at n s e.after; cleanups = [] }) e refl p
passed_uncut (in_cleanups n s) e p = kept_by (has_event n e.cleanups) (record e { cleanups = cut_at n s e.cleanups }) e refl p

-- what is inside a section is ready only if its start is
ready_inside : (run : Run) (level : Level) (tags : List (List ℕ)) (outside : Start) (b : Bool) (cut : Cut) → (b ≡ true → outside.is_ready ≡ true) →
    (b && before_passed (happened_in run level tags outside.state b cut)) ≡ true → (let start = go_inside run level tags outside in start.is_ready) ≡ true
ready_inside run level tags outside false cut ready h = absurd (true≢false (sym h))
ready_inside run level tags outside true cut ready h =
    let e = section_events run level tags outside.state in
    ap (λ (x : Bool). x && before_passed e) (ready refl) ∙ passed_uncut cut e h

-- ---- cases

-- the row of a case from this start
abbrev IsOwn : Run → Start → MemberValue → CaseRow → Type 0
IsOwn run start m row = m.selected ≡ true → ran_whole row ≡ true → (start.is_ready ≡ true) × (row ≡ reached_row run start.state nowhere m.scenario)

not_memory : (a b : Bool) → not (a || b) ≡ true → b ≡ false
not_memory true b h = absurd (true≢false (sym h))
not_memory false true h = absurd (true≢false (sym h))
not_memory false false h = refl

case_is_own : (run : Run) (start : Start) (b : Bool) (cut : Cut) (m : MemberValue) → (b ≡ true → start.is_ready ≡ true) → (selected : Bool) → selected ≡ true →
    (let row = cond selected (cond b (reached_row run start.state cut m.scenario) (unreached_row m.scenario)) (unselected_row m.scenario) in
    ran_whole row ≡ true → (start.is_ready ≡ true) × (row ≡ reached_row run start.state nowhere m.scenario))
case_is_own run start b cut m ready false s w = absurd (true≢false (sym s))
case_is_own run start true cut m ready true s w = (let row = reached_row run start.state cut m.scenario in (ready refl, reached_kept run start.state cut m.scenario (not_memory (is_untested row.status) (is_memory row.status) w)))
case_is_own run start false cut m ready true s w = absurd (true≢false (sym w))

cases_are_own : (run : Run) (start : Start) (b : Bool) (cuts : List Cut) (ms : List MemberValue) → (b ≡ true → start.is_ready ≡ true) → AllZip (IsOwn run start) ms (result_of (cases_of 0 run start.state b cuts ms))
cases_are_own run start b cuts [] ready = tt
cases_are_own run start b cuts (m ∷ ms) ready =
    let cut = first_or nowhere cuts in
    let row = case_of run start.state b cut m in (
      λ s w. case_is_own run start b cut m ready m.selected s w,
      cases_are_own run start (b && stays_open run row.status) (without_first cuts) ms (λ h. ready (and_left b (stays_open run row.status) h)),
    )

-- ---- the cases of a feature

-- the start of a case in a feature with this start
abbrev IsOwnIn : Run → Start → List HeadValue → MemberValue → CaseRow → Type 0
IsOwnIn run feature heads m row = IsOwn run (go_inside_rule run feature (tags_of_rule heads m.scenario.rule)) m row

abbrev AreOfRank : ℕ → List MemberValue → Type 0
AreOfRank r [] = ⊤
AreOfRank r (m ∷ ms) = (rank m.scenario.rule ≡ r) × AreOfRank r ms

of_rank_by : (r : ℕ) (m : MemberValue) (b : Bool) → nat_eq (rank m.scenario.rule) r ≡ b → (others : List MemberValue) → AreOfRank r others → AreOfRank r (cond b (m ∷ others) others)
of_rank_by r m true is others h = (eqb-true (rank m.scenario.rule) r is, h)
of_rank_by r m false is others h = h

are_of_rank : (r : ℕ) (ms : List MemberValue) → AreOfRank r (members_of_rank r ms)
are_of_rank r [] = tt
are_of_rank r (m ∷ ms) = of_rank_by r m (nat_eq (rank m.scenario.rule) r) refl (members_of_rank r ms) (are_of_rank r ms)

zip_of_rank : (H K : MemberValue → CaseRow → Type 0) (r : ℕ) → ((m : MemberValue) (row : CaseRow) → rank m.scenario.rule ≡ r → H m row → K m row) → (ms : List MemberValue) (rows : List CaseRow) → AreOfRank r ms → AllZip H ms rows → AllZip K ms rows
zip_of_rank H K r on [] [] are h = tt
zip_of_rank H K r on [] (row ∷ rows) are h = absurd h
zip_of_rank H K r on (m ∷ ms) [] are h = absurd h
zip_of_rank H K r on (m ∷ ms) (row ∷ rows) are h = (on m row are.0 h.0, zip_of_rank H K r on ms rows are.1 h.1)

in_no_rule : (heads : List HeadValue) (rule : Option ℕ) → rank rule ≡ 0 → tags_of_rule heads rule ≡ None
in_no_rule heads None h = refl
in_no_rule heads (Some k) h = absurd (omega (arith, h))

in_rule : (heads : List HeadValue) (rule : Option ℕ) (n : ℕ) (head : HeadValue) → rank rule ≡ suc n → slice_get heads n ≡ Some head → tags_of_rule heads rule ≡ Some head.tags
in_rule heads None n head h at = absurd (omega (arith, h))
in_rule heads (Some k) n head h at =
    let tags : Option HeadValue → Option (List (List ℕ)) = λ o. option_map (λ (it : HeadValue). it.tags) o in
    let same : k ≡ n = omega (arith, h) in
    ap (λ (i : ℕ). tags (slice_get heads i)) same ∙ ap tags at

rules_are_own : (run : Run) (feature : Start) (all heads : List HeadValue) (members : List MemberValue) (n : ℕ) (b : Bool) (cuts : List RuleCuts) →
    ((k i : ℕ) → i ≡ n + k → slice_get all i ≡ slice_get heads k) → (b ≡ true → feature.is_ready ≡ true) →
    (let gs = groups_from (suc n) heads members in let inside = result_of (rules_of 0 run feature.state b cuts gs) in AllZip (IsOwnIn run feature all) (members_of_groups gs) inside.cases)
rules_are_own run feature all [] members n b cuts same ready = tt
rules_are_own run feature all (head ∷ heads) members n b cuts same ready =
    let these = members_of_rank (suc n) members in
    let g : Group = record { head = head; members = these } in
    let others = groups_from (suc (suc n)) heads members in
    let mine = first_or uncut_rule cuts in
    let is_begun = b && has_selected these in
    let rule = go_inside run levels.Rule head.tags feature in
    let end = result_of (rule_of 0 run feature.state b mine g) in
    let opens = b && rule_stays_open run end in
    let next = result_of (rules_of 0 run feature.state opens (without_first cuts) others) in
    zip_append (IsOwnIn run feature all) these end.inside (members_of_groups others) next.cases
    (zip_of_rank (IsOwn run rule) (IsOwnIn run feature all) (suc n)
    (λ m row is h. subst (λ (tags : Option (List (List ℕ))). IsOwn run (go_inside_rule run feature tags) m row) (sym (in_rule all m.scenario.rule n head is (same 0 n (omega arith)))) h)
    these end.inside (are_of_rank (suc n) members)
    (cases_are_own run rule (is_begun && before_passed (happened_in run levels.Rule head.tags feature.state is_begun mine.own)) mine.cases these
    (λ h. ready_inside run levels.Rule head.tags feature is_begun mine.own (λ s. ready (and_left b (has_selected these) s)) h)))
    (rules_are_own run feature all heads members (suc n) opens (without_first cuts) (λ k i e. same (suc k) i (omega (arith, e))) (λ h. ready (and_left b (rule_stays_open run end) h)))

feature_is_own : (run : Run) (suite : Start) (b : Bool) (cuts : FeatureCuts) (f : ChosenValue) → CasesFallIntoRules f → (b ≡ true → suite.is_ready ≡ true) →
    (let row = result_of (feature_of run suite.state b cuts f) in AllZip (IsOwnIn run (go_inside run levels.Feature f.tags suite) f.rules) f.members row.cases)
feature_is_own run suite b cuts f falls ready =
    let feature = go_inside run levels.Feature f.tags suite in
    let is_begun = b && has_selected f.members in
    let is_ready = is_begun && before_passed (happened_in run levels.Feature f.tags suite.state is_begun cuts.own) in
    let known : is_ready ≡ true → feature.is_ready ≡ true = λ h. ready_inside run levels.Feature f.tags suite is_begun cuts.own (λ s. ready (and_left b (has_selected f.members) s)) h in
    let first = result_of (cases_of 0 run feature.state is_ready cuts.cases (own_members f)) in
    let opens = is_ready && all_stay_open run first in
    let next = result_of (rules_of 0 run feature.state opens cuts.rules (rule_groups f)) in
    subst (λ (ms : List MemberValue). AllZip (IsOwnIn run feature f.rules) ms (first ++ next.cases)) (groups_all f falls)
    (zip_append (IsOwnIn run feature f.rules) (own_members f) first (members_of_groups (rule_groups f)) next.cases
    (zip_of_rank (IsOwn run feature) (IsOwnIn run feature f.rules) 0
    (λ m row is h. subst (λ (tags : Option (List (List ℕ))). IsOwn run (go_inside_rule run feature tags) m row) (sym (in_no_rule f.rules m.scenario.rule is)) h)
    (own_members f) first (are_of_rank 0 f.members) (cases_are_own run feature is_ready cuts.cases (own_members f) known))
    (rules_are_own run feature f.rules f.rules f.members 0 opens cuts.rules (λ k i e. (let same : i ≡ k = omega (arith, e) in ap (slice_get f.rules) same)) (λ h. known (and_left is_ready (all_stay_open run first) h))))

-- ---- features, the run

abbrev HasOwnCases : Run → Start → ChosenValue → FeatureRow → Type 0
HasOwnCases run suite f row = CasesFallIntoRules f → AllZip (IsOwnIn run (go_inside run levels.Feature f.tags suite) f.rules) f.members row.cases

features_are_own : (run : Run) (suite : Start) (b : Bool) (cuts : List FeatureCuts) (fs : List ChosenValue) → (b ≡ true → suite.is_ready ≡ true) → AllZip (HasOwnCases run suite) fs (result_of (features_of run suite.state b cuts fs))
features_are_own run suite b cuts [] ready = tt
features_are_own run suite b cuts (f ∷ fs) ready =
    let row = result_of (feature_of run suite.state b (first_or uncut_feature cuts) f) in (
      λ falls. feature_is_own run suite b (first_or uncut_feature cuts) f falls ready,
      features_are_own run suite (b && stays_open run row.status) (without_first cuts) fs (λ h. ready (and_left b (stays_open run row.status) h)),
    )

-- the start of a run
abbrev outset : State → Start
outset s = record { state = s; is_ready = true }

run_is_own : (run : Run) (contents : Contents) (cuts : Cuts) (features : List ChosenValue) (at : Place) (f : ChosenValue) (c : CaseValue) (row : CaseRow) →
    HasResult features (results_from run (state_of contents) cuts features) at f c row → ran_whole row ≡ true → row ≡ own_row run (state_of contents) (above f c) c
run_is_own run contents cuts features at f c row has whole =
    let suite = go_inside run levels.Run [] (outset (state_of contents)) in
    let is_ready = before_passed (happened_in run levels.Run [] (state_of contents) true cuts.own) in
    let rows = result_of (features_of run suite.state is_ready cuts.features features) in
    let all = features_are_own run suite is_ready cuts.features features (λ h. ready_inside run levels.Run [] (outset (state_of contents)) true cuts.own (λ t. refl) h) in
    let ends = has.feature_result in
    let cases = zip_at (HasOwnCases run suite) features rows at.feature f ends all has.feature has.in_results has.falls in
    let feature = go_inside run levels.Feature f.tags suite in
    let own = zip_at (IsOwnIn run feature f.rules) f.members ends.cases at.scenario (record { scenario = c; selected = true }) row cases has.scenario has.in_feature refl whole in
    let start = start_of run (state_of contents) (above f c) in
    own.1 ∙ sym (ap (λ (b : Bool). cond b (reached_row run start.state nowhere c) (unreached_row c)) own.0)

-- ---- dry runs: no scenario runs whole

abbrev NotWhole : MemberValue → CaseRow → Type 0
NotWhole m row = m.selected ≡ true → ran_whole row ≡ true → ⊥

dry_not_whole : (b : Bool) → (let status : Status = cond b statuses.Memory statuses.Untested in not (is_untested status || is_memory status)) ≡ true → ⊥
dry_not_whole true h = true≢false (sym h)
dry_not_whole false h = true≢false (sym h)

dry_case : (library : LibraryValue) (cut : Cut) (m : MemberValue) (selected : Bool) → selected ≡ true → ran_whole (cond selected (dry_row library cut m.scenario) (unselected_row m.scenario)) ≡ true → ⊥
dry_case library cut m true s w = (let e = happened cut (dry_events library m.scenario) in dry_not_whole (list_any is_memory_mark (event_marks e.steps)) w)
dry_case library cut m false s w = true≢false (sym s)

dry_cases_unrun : (library : LibraryValue) (cuts : List Cut) (ms : List MemberValue) → AllZip NotWhole ms (dry_cases_of library cuts ms)
dry_cases_unrun library cuts [] = tt
dry_cases_unrun library cuts (m ∷ ms) = (λ s w. dry_case library (first_or nowhere cuts) m m.selected s w, dry_cases_unrun library (without_first cuts) ms)

dry_unrun : (library : LibraryValue) (cuts : List FeatureCuts) (fs : List ChosenValue) → AllZip (λ (f : ChosenValue) (row : FeatureRow). AllZip NotWhole f.members row.cases) fs (dry_features_of library cuts fs)
dry_unrun library cuts [] = tt
dry_unrun library cuts (f ∷ fs) = (let mine = first_or uncut_feature cuts in dry_cases_unrun library mine.cases f.members, dry_unrun library (without_first cuts) fs)

dry_has_none : (run : Run) (cuts : Cuts) (features : List ChosenValue) (at : Place) (f : ChosenValue) (c : CaseValue) (row : CaseRow) → HasResult features (dry_results run cuts features) at f c row → ran_whole row ≡ true → ⊥
dry_has_none run cuts features at f c row has whole =
    let ends = has.feature_result in
    let cases = zip_at (λ (f : ChosenValue) (row : FeatureRow). AllZip NotWhole f.members row.cases) features (dry_features_of run.library cuts.features features) at.feature f ends (dry_unrun run.library cuts.features features) has.feature has.in_results in
    zip_at NotWhole f.members ends.cases at.scenario (record { scenario = c; selected = true }) row cases has.scenario has.in_feature refl whole

-- ---- runs in which memory was refused nowhere, and that don't stop before a selected scenario

abbrev IsPlainRow : Run → Start → MemberValue → CaseRow → Type 0
IsPlainRow run start m row = m.selected ≡ true → row ≡ cond start.is_ready (reached_row run start.state nowhere m.scenario) (unreached_row m.scenario)

abbrev IsPlainIn : Run → Start → List HeadValue → MemberValue → CaseRow → Type 0
IsPlainIn run feature heads m row = IsPlainRow run (go_inside_rule run feature (tags_of_rule heads m.scenario.rule)) m row

or_first : (a b : Bool) → a ≡ true → (a || b) ≡ true
or_first a b h = ap (λ (x : Bool). x || b) h

or_second : (a b : Bool) → b ≡ true → (a || b) ≡ true
or_second false b h = h
or_second true b h = refl

or_either : {P : Type 0} (a b : Bool) → (a || b) ≡ true → (a ≡ true → P) → (b ≡ true → P) → P
or_either true b h f g = f refl
or_either false b h f g = g h

or_none : (a b : Bool) → a ≡ false → b ≡ false → (a || b) ≡ false
or_none a b h k = ap (λ (x : Bool). x || b) h ∙ k

still : (a b : Bool) → b ≡ true → (a && b) ≡ a
still a b h = ap (λ (x : Bool). a && x) h ∙ and_true a

by_stop : {P : Type 0} (stop : Bool) → (stop ≡ true → P) → (stop ≡ false → P) → P
by_stop true f g = f refl
by_stop false f g = g refl

-- what doesn't hold where that would
unless : (a b : Bool) → (a ≡ true → b ≡ true) → b ≡ false → a ≡ false
unless false b on h = refl
unless true b on h = absurd (true≢false (sym (on refl) ∙ h))

-- at most one case is selected
abbrev IsSole : List MemberValue → Type 0
IsSole [] = ⊤
IsSole (m ∷ ms) = (has_selected ms ≡ true → m.selected ≡ false) × IsSole ms

-- the run isn't to stop, or at most one case is selected
abbrev IsCalm : Run → List MemberValue → Type 0
IsCalm run ms = run.stop ≡ true → IsSole ms

has_left : (xs ys : List MemberValue) → has_selected xs ≡ true → has_selected (xs ++ ys) ≡ true
has_left xs ys h = list_any-append (λ (m : MemberValue). m.selected) xs ys ∙ or_first (has_selected xs) (has_selected ys) h

has_right : (xs ys : List MemberValue) → has_selected ys ≡ true → has_selected (xs ++ ys) ≡ true
has_right xs ys h = list_any-append (λ (m : MemberValue). m.selected) xs ys ∙ or_second (has_selected xs) (has_selected ys) h

sole_left : (xs ys : List MemberValue) → IsSole (xs ++ ys) → IsSole xs
sole_left [] ys h = tt
sole_left (m ∷ xs) ys h = (λ k. h.0 (has_left xs ys k), sole_left xs ys h.1)

sole_right : (xs ys : List MemberValue) → IsSole (xs ++ ys) → IsSole ys
sole_right [] ys h = h
sole_right (m ∷ xs) ys h = sole_right xs ys h.1

-- before a selected case there is none
sole_before : (xs ys : List MemberValue) → IsSole (xs ++ ys) → has_selected ys ≡ true → has_selected xs ≡ false
sole_before [] ys h k = refl
sole_before (m ∷ xs) ys h k = or_none m.selected (has_selected xs) (h.0 (has_right xs ys k)) (sole_before xs ys h.1 k)

chosen_by_rank : (m : MemberValue) (others all : List MemberValue) (b : Bool) → (has_selected others ≡ true → has_selected all ≡ true) → has_selected (cond b (m ∷ others) others) ≡ true → (m.selected || has_selected all) ≡ true
chosen_by_rank m others all true on h = or_either m.selected (has_selected others) h (or_first m.selected (has_selected all)) (λ k. or_second m.selected (has_selected all) (on k))
chosen_by_rank m others all false on h = or_second m.selected (has_selected all) (on h)

-- who selects a case of a rank selects one
chosen_of_rank : (r : ℕ) (ms : List MemberValue) → has_selected (members_of_rank r ms) ≡ true → has_selected ms ≡ true
chosen_of_rank r [] h = h
chosen_of_rank r (m ∷ ms) h = chosen_by_rank m (members_of_rank r ms) ms (nat_eq (rank m.scenario.rule) r) (chosen_of_rank r ms) h

-- ---- what isn't to stop

no_stop : (run : Run) → run.stop ≡ false → (status : Status) → stays_open run status ≡ true
no_stop run h status = ap (λ (stop : Bool). not (stop && is_failed_or_memory status)) h

all_open : (run : Run) → run.stop ≡ false → (rows : List CaseRow) → all_stay_open run rows ≡ true
all_open run h [] = refl
all_open run h (row ∷ rows) = ap (λ (b : Bool). b && all_stay_open run rows) (no_stop run h row.status) ∙ all_open run h rows

rule_open : (run : Run) → run.stop ≡ false → (end : SectionRow (List CaseRow)) → rule_stays_open run end ≡ true
rule_open run h end = ap (λ (x : Bool). x && all_stay_open run end.inside) (no_stop run h end.around) ∙ all_open run h end.inside

-- ---- where no case is selected, nothing fails

open_by : (stop bad : Bool) → bad ≡ false → not (stop && bad) ≡ true
open_by false bad h = refl
open_by true bad h = ap not h

quiet_case : (run : Run) (section : State) (b : Bool) (m : MemberValue) → m.selected ≡ false → case_of run section b nowhere m ≡ unselected_row m.scenario
quiet_case run section b m h = ap (λ (x : Bool). cond x (cond b (reached_row run section nowhere m.scenario) (unreached_row m.scenario)) (unselected_row m.scenario)) h

quiet_stays : (run : Run) (section : State) (b : Bool) (m : MemberValue) → m.selected ≡ false → (let row = case_of run section b nowhere m in stays_open run row.status) ≡ true
quiet_stays run section b m h = ap (λ (row : CaseRow). stays_open run row.status) (quiet_case run section b m h) ∙ open_by run.stop false refl

quiet_cases_stay : (run : Run) (section : State) (b : Bool) (ms : List MemberValue) → has_selected ms ≡ false → all_stay_open run (result_of (cases_of 0 run section b [] ms)) ≡ true
quiet_cases_stay run section b [] h = refl
quiet_cases_stay run section b (m ∷ ms) h =
    let row = case_of run section b nowhere m in
    let opens = b && stays_open run row.status in
    ap (λ (x : Bool). x && all_stay_open run (result_of (cases_of 0 run section opens [] ms))) (quiet_stays run section b m (or_left m.selected (has_selected ms) h)) ∙ quiet_cases_stay run section opens ms (or_right m.selected (has_selected ms) h)

quiet_around : (b has : Bool) (e : Events) → has ≡ false → around_of (cond (b && has) e no_events) ≡ statuses.Passed
quiet_around false has e h = refl
quiet_around true has e h = ap (λ (x : Bool). around_of (cond x e no_events)) h

quiet_rule : (run : Run) (section : State) (b : Bool) (g : Group) → has_selected g.members ≡ false → (let end = result_of (rule_of 0 run section b uncut_rule g) in end.around) ≡ statuses.Passed
quiet_rule run section b g h = quiet_around b (has_selected g.members) (section_events run levels.Rule g.head.tags section) h

quiet_rule_stays : (run : Run) (section : State) (b : Bool) (g : Group) → has_selected g.members ≡ false → rule_stays_open run (result_of (rule_of 0 run section b uncut_rule g)) ≡ true
quiet_rule_stays run section b g h =
    let is_begun = b && has_selected g.members in
    let is_ready = is_begun && before_passed (happened_in run levels.Rule g.head.tags section is_begun nowhere) in
    let rows = result_of (cases_of 0 run (section_state run levels.Rule g.head.tags section) is_ready [] g.members) in
    ap (λ (status : Status). stays_open run status && all_stay_open run rows) (quiet_rule run section b g h)
    ∙ ap (λ (x : Bool). x && all_stay_open run rows) (open_by run.stop false refl)
    ∙ quiet_cases_stay run (section_state run levels.Rule g.head.tags section) is_ready g.members h

-- of a status that neither what passed nor what is skipped has
module _ (test : Status → Bool) (on_passed : test statuses.Passed ≡ false) (on_skipped : test statuses.Skipped ≡ false) where
  quiet_statuses : (run : Run) (section : State) (b : Bool) (ms : List MemberValue) → has_selected ms ≡ false → list_any test (case_statuses (result_of (cases_of 0 run section b [] ms))) ≡ false
  quiet_statuses run section b [] h = refl
  quiet_statuses run section b (m ∷ ms) h =
      let row = case_of run section b nowhere m in
      let opens = b && stays_open run row.status in
      let others = result_of (cases_of 0 run section opens [] ms) in
      or_none (test row.status) (list_any test (case_statuses others)) (ap (λ (r : CaseRow). test r.status) (quiet_case run section b m (or_left m.selected (has_selected ms) h)) ∙ on_skipped)
      (quiet_statuses run section opens ms (or_right m.selected (has_selected ms) h))

  both_statuses : (xs ys : List CaseRow) → list_any test (case_statuses xs) ≡ false → list_any test (case_statuses ys) ≡ false → list_any test (case_statuses (xs ++ ys)) ≡ false
  both_statuses [] ys h k = k
  both_statuses (x ∷ xs) ys h k =
      or_none (test x.status) (list_any test (case_statuses (xs ++ ys))) (or_left (test x.status) (list_any test (case_statuses xs)) h) (both_statuses xs ys (or_right (test x.status) (list_any test (case_statuses xs)) h) k)

  quiet_rules : (run : Run) (section : State) (b : Bool) (heads : List HeadValue) (r : ℕ) (members : List MemberValue) → has_selected members ≡ false →
      (let inside = result_of (rules_of 0 run section b [] (groups_from r heads members)) in (list_any test (rule_statuses inside.rules) ≡ false) × (list_any test (case_statuses inside.cases) ≡ false))
  quiet_rules run section b [] r members h = (refl, refl)
  quiet_rules run section b (head ∷ heads) r members h =
      let these = members_of_rank r members in
      let g : Group = record { head = head; members = these } in
      let none = unless (has_selected these) (has_selected members) (chosen_of_rank r members) h in
      let end = result_of (rule_of 0 run section b uncut_rule g) in
      let opens = b && rule_stays_open run end in
      let next = result_of (rules_of 0 run section opens [] (groups_from (suc r) heads members)) in
      let others = quiet_rules run section opens heads (suc r) members h in
      let is_begun = b && has_selected these in
      let is_ready = is_begun && before_passed (happened_in run levels.Rule head.tags section is_begun nowhere) in (
        or_none (test end.around) (list_any test (rule_statuses next.rules)) (ap test (quiet_rule run section b g none) ∙ on_passed) others.0,
        both_statuses end.inside next.cases (quiet_statuses run (section_state run levels.Rule head.tags section) is_ready these none) others.1,
      )

  quiet_inside : (run : Run) (suite : State) (b : Bool) (f : ChosenValue) → has_selected f.members ≡ false →
      (let row = result_of (feature_of run suite b uncut_feature f) in (list_any test (row.around ∷ rule_statuses row.rules) || list_any test (case_statuses row.cases)) ≡ false)
  quiet_inside run suite b f h =
      let row = result_of (feature_of run suite b uncut_feature f) in
      let section = section_state run levels.Feature f.tags suite in
      let is_begun = b && has_selected f.members in
      let is_ready = is_begun && before_passed (happened_in run levels.Feature f.tags suite is_begun nowhere) in
      let first = result_of (cases_of 0 run section is_ready [] (own_members f)) in
      let opens = is_ready && all_stay_open run first in
      let next = result_of (rules_of 0 run section opens [] (rule_groups f)) in
      let rules = quiet_rules run section opens f.rules 1 f.members h in
      let around = ap test (quiet_around b (has_selected f.members) (section_events run levels.Feature f.tags suite) h) ∙ on_passed in
      or_none (test row.around || list_any test (rule_statuses row.rules)) (list_any test (case_statuses row.cases)) (or_none (test row.around) (list_any test (rule_statuses row.rules)) around rules.0)
      (both_statuses first next.cases (quiet_statuses run section is_ready (own_members f) (unless (has_selected (own_members f)) (has_selected f.members) (chosen_of_rank 0 f.members) h)) rules.1)

calm_verdict : (memory failed untested passed : Bool) → memory ≡ false → failed ≡ false → is_failed_or_memory (verdict_by memory failed untested passed) ≡ false
calm_verdict true failed untested passed h k = absurd (true≢false h)
calm_verdict false true untested passed h k = absurd (true≢false k)
calm_verdict false false true passed h k = refl
calm_verdict false false false true h k = refl
calm_verdict false false false false h k = refl

quiet_feature_stays : (run : Run) (suite : State) (b : Bool) (f : ChosenValue) → has_selected f.members ≡ false → (let row = result_of (feature_of run suite b uncut_feature f) in stays_open run row.status) ≡ true
quiet_feature_stays run suite b f h =
    let row = result_of (feature_of run suite b uncut_feature f) in
    let statuses = case_statuses row.cases in
    open_by run.stop (is_failed_or_memory row.status)
    (calm_verdict (list_any is_memory (row.around ∷ rule_statuses row.rules) || list_any is_memory statuses) (list_any is_failed (row.around ∷ rule_statuses row.rules) || list_any is_failed statuses) (list_any is_untested statuses) (list_any is_passed statuses)
    (quiet_inside is_memory refl refl run suite b f h) (quiet_inside is_failed refl refl run suite b f h))

-- ---- its rows

plain_case : (run : Run) (start : Start) (b : Bool) (m : MemberValue) (selected : Bool) → selected ≡ true → b ≡ start.is_ready →
    (let row = cond selected (cond b (reached_row run start.state nowhere m.scenario) (unreached_row m.scenario)) (unselected_row m.scenario) in row ≡ cond start.is_ready (reached_row run start.state nowhere m.scenario) (unreached_row m.scenario))
plain_case run start b m true s ready = ap (λ (x : Bool). cond x (reached_row run start.state nowhere m.scenario) (unreached_row m.scenario)) ready
plain_case run start b m false s ready = absurd (true≢false (sym s))

plain_cases : (run : Run) (start : Start) (b : Bool) (ms : List MemberValue) → IsCalm run ms → (has_selected ms ≡ true → b ≡ start.is_ready) → AllZip (IsPlainRow run start) ms (result_of (cases_of 0 run start.state b [] ms))
plain_cases run start b [] calm ready = tt
plain_cases run start b (m ∷ ms) calm ready =
    let row = case_of run start.state b nowhere m in (
      λ s. plain_case run start b m m.selected s (ready (or_first m.selected (has_selected ms) s)),
      plain_cases run start (b && stays_open run row.status) ms (λ s. (let sole = calm s in sole.1))
          (λ k. still b (stays_open run row.status) (by_stop run.stop (λ s. (let sole = calm s in quiet_stays run start.state b m (sole.0 k))) (λ s. no_stop run s row.status)) ∙ ready (or_second m.selected (has_selected ms) k)),
    )

-- a section in which a case is selected
plain_section : (b has : Bool) (e : Events) → has ≡ true → ((b && has) && before_passed (cond (b && has) e no_events)) ≡ (b && before_passed e)
plain_section false has e h = refl
plain_section true has e h = ap (λ (x : Bool). x && before_passed (cond x e no_events)) h

plain_inside : (run : Run) (level : Level) (tags : List (List ℕ)) (outside : Start) (b has : Bool) → has ≡ true → b ≡ outside.is_ready →
    ((b && has) && before_passed (happened_in run level tags outside.state (b && has) nowhere)) ≡ (let start = go_inside run level tags outside in start.is_ready)
plain_inside run level tags outside b has chosen ready =
    let e = section_events run level tags outside.state in
    plain_section b has e chosen ∙ ap (λ (x : Bool). x && before_passed e) ready

plain_rules : (run : Run) (feature : Start) (all heads : List HeadValue) (members : List MemberValue) (n : ℕ) (b : Bool) → ((k i : ℕ) → i ≡ n + k → slice_get all i ≡ slice_get heads k) →
    (let gs = groups_from (suc n) heads members in IsCalm run (members_of_groups gs)) → (let gs = groups_from (suc n) heads members in has_selected (members_of_groups gs) ≡ true → b ≡ feature.is_ready) →
    (let gs = groups_from (suc n) heads members in let inside = result_of (rules_of 0 run feature.state b [] gs) in AllZip (IsPlainIn run feature all) (members_of_groups gs) inside.cases)
plain_rules run feature all [] members n b same calm ready = tt
plain_rules run feature all (head ∷ heads) members n b same calm ready =
    let these = members_of_rank (suc n) members in
    let g : Group = record { head = head; members = these } in
    let others = groups_from (suc (suc n)) heads members in
    let rest = members_of_groups others in
    let is_begun = b && has_selected these in
    let rule = go_inside run levels.Rule head.tags feature in
    let end = result_of (rule_of 0 run feature.state b uncut_rule g) in
    let opens = b && rule_stays_open run end in
    let next = result_of (rules_of 0 run feature.state opens [] others) in
    zip_append (IsPlainIn run feature all) these end.inside rest next.cases
    (zip_of_rank (IsPlainRow run rule) (IsPlainIn run feature all) (suc n)
    (λ m row is k. subst (λ (tags : Option (List (List ℕ))). IsPlainRow run (go_inside_rule run feature tags) m row) (sym (in_rule all m.scenario.rule n head is (same 0 n (omega arith)))) k)
    these end.inside (are_of_rank (suc n) members)
    (plain_cases run rule (is_begun && before_passed (happened_in run levels.Rule head.tags feature.state is_begun nowhere)) these (λ s. sole_left these rest (calm s))
    (λ k. plain_inside run levels.Rule head.tags feature b (has_selected these) k (ready (has_left these rest k)))))
    (plain_rules run feature all heads members (suc n) opens (λ k i e. same (suc k) i (omega (arith, e))) (λ s. sole_right these rest (calm s))
    (λ k. still b (rule_stays_open run end) (by_stop run.stop (λ s. quiet_rule_stays run feature.state b g (sole_before these rest (calm s) k)) (λ s. rule_open run s end)) ∙ ready (has_right these rest k)))

plain_feature : (run : Run) (suite : Start) (b : Bool) (f : ChosenValue) → CasesFallIntoRules f → IsCalm run f.members → (has_selected f.members ≡ true → b ≡ suite.is_ready) →
    (let row = result_of (feature_of run suite.state b uncut_feature f) in AllZip (IsPlainIn run (go_inside run levels.Feature f.tags suite) f.rules) f.members row.cases)
plain_feature run suite b f falls calm ready =
    let feature = go_inside run levels.Feature f.tags suite in
    let is_begun = b && has_selected f.members in
    let is_ready = is_begun && before_passed (happened_in run levels.Feature f.tags suite.state is_begun nowhere) in
    let own = own_members f in
    let ruled = members_of_groups (rule_groups f) in
    let whole : own ++ ruled ≡ f.members = groups_all f falls in
    let known : has_selected (own ++ ruled) ≡ true → is_ready ≡ feature.is_ready = λ k. (let has = sym (ap has_selected whole) ∙ k in plain_inside run levels.Feature f.tags suite b (has_selected f.members) has (ready has)) in
    let sole : run.stop ≡ true → IsSole (own ++ ruled) = λ s. subst IsSole (sym whole) (calm s) in
    let first = result_of (cases_of 0 run feature.state is_ready [] own) in
    let opens = is_ready && all_stay_open run first in
    let next = result_of (rules_of 0 run feature.state opens [] (rule_groups f)) in
    subst (λ (ms : List MemberValue). AllZip (IsPlainIn run feature f.rules) ms (first ++ next.cases)) whole
    (zip_append (IsPlainIn run feature f.rules) own first ruled next.cases
    (zip_of_rank (IsPlainRow run feature) (IsPlainIn run feature f.rules) 0
    (λ m row is k. subst (λ (tags : Option (List (List ℕ))). IsPlainRow run (go_inside_rule run feature tags) m row) (sym (in_no_rule f.rules m.scenario.rule is)) k)
    own first (are_of_rank 0 f.members) (plain_cases run feature is_ready own (λ s. sole_left own ruled (sole s)) (λ k. known (has_left own ruled k))))
    (plain_rules run feature f.rules f.rules f.members 0 opens (λ k i e. (let same : i ≡ k = omega (arith, e) in ap (slice_get f.rules) same)) (λ s. sole_right own ruled (sole s))
    (λ k. still is_ready (all_stay_open run first) (by_stop run.stop (λ s. quiet_cases_stay run feature.state is_ready own (sole_before own ruled (sole s) k)) (λ s. all_open run s first)) ∙ known (has_right own ruled k))))

abbrev HasPlainCases : Run → Start → ChosenValue → FeatureRow → Type 0
HasPlainCases run suite f row = CasesFallIntoRules f → AllZip (IsPlainIn run (go_inside run levels.Feature f.tags suite) f.rules) f.members row.cases

abbrev members_of_all : List ChosenValue → List MemberValue
members_of_all fs = flat_map (λ (f : ChosenValue). f.members) fs

plain_features : (run : Run) (suite : Start) (b : Bool) (fs : List ChosenValue) → IsCalm run (members_of_all fs) → (has_selected (members_of_all fs) ≡ true → b ≡ suite.is_ready) → AllZip (HasPlainCases run suite) fs (result_of (features_of run suite.state b [] fs))
plain_features run suite b [] calm ready = tt
plain_features run suite b (f ∷ fs) calm ready =
    let row = result_of (feature_of run suite.state b uncut_feature f) in
    let rest = members_of_all fs in (
      λ falls. plain_feature run suite b f falls (λ s. sole_left f.members rest (calm s)) (λ k. ready (has_left f.members rest k)),
      plain_features run suite (b && stays_open run row.status) fs (λ s. sole_right f.members rest (calm s))
          (λ k. still b (stays_open run row.status) (by_stop run.stop (λ s. quiet_feature_stays run suite.state b f (sole_before f.members rest (calm s) k)) (λ s. no_stop run s row.status)) ∙ ready (has_right f.members rest k)),
    )

plain_run : (run : Run) (contents : Contents) (features : List ChosenValue) → IsCalm run (members_of_all features) → (at : Place) (f : ChosenValue) (c : CaseValue) (row : CaseRow) →
    HasResult features (results_from run (state_of contents) uncut features) at f c row → row ≡ own_row run (state_of contents) (above f c) c
plain_run run contents features calm at f c row has =
    let suite = go_inside run levels.Run [] (outset (state_of contents)) in
    let rows = result_of (features_of run suite.state suite.is_ready [] features) in
    let ends = has.feature_result in
    let cases = zip_at (HasPlainCases run suite) features rows at.feature f ends (plain_features run suite suite.is_ready features calm (λ k. refl)) has.feature has.in_results has.falls in
    let feature = go_inside run levels.Feature f.tags suite in
    zip_at (IsPlainIn run feature f.rules) f.members ends.cases at.scenario (record { scenario = c; selected = true }) row cases has.scenario has.in_feature refl

-- ---- both

own_by : (run : Run) (contents : Contents) (cuts : Cuts) (features : List ChosenValue) (at : Place) (f : ChosenValue) (c : CaseValue) (row : CaseRow) (is_dry : Bool) →
    HasResult features (results_by run contents cuts features is_dry) at f c row → ran_whole row ≡ true → row ≡ own_row run (state_of contents) (above f c) c
own_by run contents cuts features at f c row true has whole = absurd (dry_has_none run cuts features at f c row has whole)
own_by run contents cuts features at f c row false has whole = run_is_own run contents cuts features at f c row has whole

settled : (run : Run) (contents : Contents) (features : List ChosenValue) (results : Results) (at : Place) (f : ChosenValue) (c : CaseValue) (row : CaseRow) →
    Judged run contents features results → HasResult features results at f c row → IsSettled run results row → row ≡ own_row run (state_of contents) (above f c) c
settled run contents features results at f c row judged has (inl whole) =
    own_by run contents judged.0 features at f c row run.dry_run (subst (λ (r : Results). HasResult features r at f c row) judged.1 has) whole
settled run contents features results at f c row judged has (inr plain) =
    plain_run run contents features (λ s. absurd (true≢false (sym s ∙ plain.goes_on))) at f c row
    (subst (λ (r : Results). HasResult features r at f c row) (one_list run contents features results judged plain.unrefused ∙ ap (results_by run contents uncut features) plain.runs) has)

pub own_results : ScenariosHaveTheirOwnResults
own_results = settled

-- ---- two runs

abbrev go_by : LibraryValue → Level → List StepValue → Start → Start
go_by library level before outside =
    let events = walk library (before_of level) (enter outside.state) before in
    let opened = left_by (entered outside.state) events in
    record { state = opened.state; is_ready = outside.is_ready && has_passed (ended_in events) }

abbrev go_rule_by : LibraryValue → Start → Option (List StepValue) → Start
go_rule_by library feature None = feature
go_rule_by library feature (Some before) = go_by library levels.Rule before feature

rule_by : (run : Run) (feature : Start) (rule : Option (List (List ℕ))) → go_inside_rule run feature rule ≡ go_rule_by run.library feature (option_map (before_list run.hooks levels.Rule) rule)
rule_by run feature None = refl
rule_by run feature (Some tags) = refl

-- a scenario's own result by the lists that are walked through before it
abbrev own_row_by : LibraryValue → List HookValue → State → List StepValue → Option (List StepValue) → CaseValue → CaseRow
own_row_by library hooks s feature rule c =
    let run : Run = record { library = library; hooks = hooks; dry_run = false; stop = false } in
    let start = go_rule_by library (go_by library levels.Feature feature (go_by library levels.Run (before_list hooks levels.Run []) (outset s))) rule in
    cond start.is_ready (reached_row run start.state nowhere c) (unreached_row c)

own_is : (run : Run) (s : State) (a : Above) (c : CaseValue) → own_row run s a c ≡ own_row_by run.library run.hooks s (before_list run.hooks levels.Feature a.feature) (option_map (before_list run.hooks levels.Rule) a.rule) c
own_is run s a c = ap (λ (start : Start). cond start.is_ready (reached_row run start.state nowhere c) (unreached_row c)) (rule_by run (go_inside run levels.Feature a.feature (go_inside run levels.Run [] (outset s))) a.rule)

own_same : (run other : Run) (contents other_contents : Contents) (a above_other : Above) (c other_c : CaseValue) → IsLike run contents other other_contents → BeginsLike run.hooks a above_other → IsSameScenario c other_c →
    own_row other (state_of other_contents) above_other other_c ≡ own_row run (state_of contents) a c
own_same run other contents other_contents a above_other c other_c like begins same =
    let s = state_of contents in
    let feature = before_list run.hooks levels.Feature a.feature in
    let rules : List HookValue → Option (List (List ℕ)) → Option (List StepValue) = λ hooks rule. option_map (before_list hooks levels.Rule) rule in
    own_is other (state_of other_contents) above_other other_c
    ∙ ap (λ (x : State). own_row_by other.library other.hooks x (before_list other.hooks levels.Feature above_other.feature) (rules other.hooks above_other.rule) other_c) like.state
    ∙ ap (λ (library : LibraryValue). own_row_by library other.hooks s (before_list other.hooks levels.Feature above_other.feature) (rules other.hooks above_other.rule) other_c) like.library
    ∙ ap (λ (hooks : List HookValue). own_row_by run.library hooks s (before_list hooks levels.Feature above_other.feature) (rules hooks above_other.rule) other_c) like.hooks
    ∙ ap (λ (steps : List StepValue). own_row_by run.library run.hooks s steps (rules run.hooks above_other.rule) other_c) begins.feature
    ∙ ap (λ (steps : Option (List StepValue)). own_row_by run.library run.hooks s feature steps other_c) begins.rule
    ∙ ap (λ (x : CaseValue). own_row_by run.library run.hooks s feature (rules run.hooks a.rule) x) same
    ∙ sym (own_is run s a c)

pub same_in_each : ResultsAreTheSameInEachRun
same_in_each run other_run contents other_contents features other_features results other_results at other_at f other_f c other_c row other_row like begins same judged has says other_judged other_has other_says =
    own_results other_run other_contents other_features other_results other_at other_f other_c other_row other_judged other_has other_says
    ∙ own_same run other_run contents other_contents (above f c) (above other_f other_c) c other_c like begins same
    ∙ sym (own_results run contents features results at f c row judged has says)

-- ---- a scenario at other lines

-- a cleanup, wherever it was registered
abbrev cleanup_anywhere : CleanupValue → CleanupValue
cleanup_anywhere c = record c { at = record { part = parts.Steps; line = 0 } }

-- two sections that differ at most in where their cleanups were registered
record IsLikewise (a b : SectionNow) : Type 0 where
  state : a.state ≡ b.state
  cleanups : map cleanup_anywhere a.cleanups ≡ map cleanup_anywhere b.cleanups

likewise_both : (xs ys us vs : List CleanupValue) → map cleanup_anywhere xs ≡ map cleanup_anywhere us → map cleanup_anywhere ys ≡ map cleanup_anywhere vs → map cleanup_anywhere (xs ++ ys) ≡ map cleanup_anywhere (us ++ vs)
likewise_both xs ys us vs p q =
    map-append cleanup_anywhere xs ys ∙ ap (λ (cs : List CleanupValue). cs ++ map cleanup_anywhere ys) p ∙ ap (λ (cs : List CleanupValue). map cleanup_anywhere us ++ cs) q ∙ sym (map-append cleanup_anywhere us vs)

likewise_left : (a b : SectionNow) (events : List Event) → IsLikewise a b → IsLikewise (left_by a events) (left_by b events)
likewise_left a b [] h = h
likewise_left a b (of_step stage step mark used registered s ∷ events) h =
    likewise_left (after_event a (of_step stage step mark used registered s)) (after_event b (of_step stage step mark used registered s)) events
    (record { state = refl; cleanups = likewise_both a.cleanups registered b.cleanups registered h.cleanups refl })
likewise_left a b (of_cleanup level cleanup outcome s ∷ events) h =
    likewise_left (after_event a (of_cleanup level cleanup outcome s)) (after_event b (of_cleanup level cleanup outcome s)) events (record { state = refl; cleanups = h.cleanups })

at_any_place : (here there : Registration) (registered : List Registered) → map cleanup_anywhere (cleanups_at here registered) ≡ map cleanup_anywhere (cleanups_at there registered)
at_any_place here there [] = refl
at_any_place here there (r ∷ registered) = ap (λ (cs : List CleanupValue). cleanup_anywhere (record { found = r.found; block = r.block; at = here }) ∷ cs) (at_any_place here there registered)

-- a step at another line does the same
record IsSameStep (moved this : Stepped) : Type 0 where
  mark : moved.mark ≡ this.mark
  state : moved.state ≡ this.state
  registered : map cleanup_anywhere moved.registered ≡ map cleanup_anywhere this.registered

same_step : (library : LibraryValue) (s : State) (step : StepValue) (x : Option FoundValue) → IsSameStep (stepped library steps_of_case s (step_anywhere step) x) (stepped library steps_of_case s step x)
same_step library s step None = record { mark = refl; state = refl; registered = refl }
same_step library s step (Some f) = record { mark = refl; state = refl; registered = at_any_place (place_of steps_of_case (step_anywhere step)) (place_of steps_of_case step) _ }

marks_anywhere : (library : LibraryValue) (ended : Ending) (s : State) (steps : List StepValue) → event_marks (steps_from library ended s (map step_anywhere steps)) ≡ event_marks (steps_from library ended s steps)
marks_anywhere library ended s [] = refl
marks_anywhere library endings.Passed s (step ∷ steps) =
    let this = one_step library steps_of_case s step in
    let moved = one_step library steps_of_case s (step_anywhere step) in
    let same = same_step library s step (found library step.step_type step.text) in
    let later : Mark → State → List Mark = λ mark state. mark ∷ event_marks (steps_from library (ending_of mark) state (map step_anywhere steps)) in
    ap (λ (mark : Mark). later mark moved.state) same.mark ∙ ap (later this.mark) same.state ∙ ap (λ (marks : List Mark). this.mark ∷ marks) (marks_anywhere library (ending_of this.mark) this.state steps)
marks_anywhere library endings.Failed s (step ∷ steps) = ap (λ (marks : List Mark). looked_up library Skipped step ∷ marks) (marks_anywhere library endings.Failed s steps)
marks_anywhere library endings.Skipped s (step ∷ steps) = ap (λ (marks : List Mark). Skipped ∷ marks) (marks_anywhere library endings.Skipped s steps)
marks_anywhere library endings.Memory s (step ∷ steps) = ap (λ (marks : List Mark). looked_up library Skipped step ∷ marks) (marks_anywhere library endings.Memory s steps)

unrun_likewise : (a b : SectionNow) (s : State) → IsLikewise a b → IsLikewise (record { state = s; cleanups = a.cleanups ++ [] }) (record { state = s; cleanups = b.cleanups ++ [] })
unrun_likewise a b s h = record { state = refl; cleanups = likewise_both a.cleanups [] b.cleanups [] h.cleanups refl }

left_anywhere : (library : LibraryValue) (ended : Ending) (s : State) (a b : SectionNow) (steps : List StepValue) → IsLikewise a b → IsLikewise (left_by a (steps_from library ended s (map step_anywhere steps))) (left_by b (steps_from library ended s steps))
left_anywhere library ended s a b [] h = h
left_anywhere library endings.Passed s a b (step ∷ steps) h =
    let this = one_step library steps_of_case s step in
    let moved = one_step library steps_of_case s (step_anywhere step) in
    let same = same_step library s step (found library step.step_type step.text) in
    let first = after_event a (event_of steps_of_case (step_anywhere step) moved) in
    let second = after_event b (event_of steps_of_case step this) in
    let later : Mark → State → List Event = λ mark state. steps_from library (ending_of mark) state (map step_anywhere steps) in
    subst (λ (events : List Event). IsLikewise (left_by first events) (left_by second (steps_from library (ending_of this.mark) this.state steps))) (sym (ap (λ (mark : Mark). later mark moved.state) same.mark ∙ ap (later this.mark) same.state))
    (left_anywhere library (ending_of this.mark) this.state first second steps (record { state = same.state; cleanups = likewise_both a.cleanups moved.registered b.cleanups this.registered h.cleanups same.registered }))
left_anywhere library endings.Failed s a b (step ∷ steps) h = left_anywhere library endings.Failed s _ _ steps (unrun_likewise a b s h)
left_anywhere library endings.Skipped s a b (step ∷ steps) h = left_anywhere library endings.Skipped s _ _ steps (unrun_likewise a b s h)
left_anywhere library endings.Memory s a b (step ∷ steps) h = left_anywhere library endings.Memory s _ _ steps (unrun_likewise a b s h)

-- after lists are walked from the state alone
each_likewise : (library : LibraryValue) (level : Level) (a b : SectionNow) (lists : List (List StepValue)) → IsLikewise a b → walk_each library level a lists ≡ walk_each library level b lists
each_likewise library level a b [] h = refl
each_likewise library level a b (steps ∷ others) h =
    let from : List Event → List Event = λ this. this ++ walk_each library level (left_by a this) others in
    ap (λ (s : State). from (walk library (after_of level) s steps)) h.state
    ∙ ap (λ (events : List Event). walk library (after_of level) b.state steps ++ events) (each_likewise library level (left_by a (walk library (after_of level) b.state steps)) (left_by b (walk library (after_of level) b.state steps)) others (likewise_left a b (walk library (after_of level) b.state steps) h))

reverse_map : {A B : Type 0} (f : A → B) (xs : List A) → reverse (map f xs) ≡ map f (reverse xs)
reverse_map f [] = refl
reverse_map {A} {B} f (x ∷ xs) =
    reverse-append (f x ∷ []) (map f xs) ∙ ap (λ (ys : List B). ys ++ f x ∷ []) (reverse_map f xs) ∙ sym (ap (map f) (reverse-append (x ∷ []) xs) ∙ map-append f (reverse xs) (x ∷ []))

-- cleanups end the same, wherever they were registered
clean_anywhere : (library : LibraryValue) (level : Level) (s : State) (cs : List CleanupValue) → outcomes_of (clean_each library level s cs) ≡ outcomes_of (clean_each library level s (map cleanup_anywhere cs))
clean_anywhere library level s [] = refl
clean_anywhere library level s (c ∷ cs) = let done = cleanup_done library c s in ap (λ (outcomes : List Outcome). done.outcome ∷ outcomes) (clean_anywhere library level done.state cs)

cleaned_likewise : (library : LibraryValue) (level : Level) (a b : SectionNow) → IsLikewise a b → outcomes_of (cleaned library level a) ≡ outcomes_of (cleaned library level b)
cleaned_likewise library level a b h =
    let ran : State → List CleanupValue → List Outcome = λ s cs. outcomes_of (clean_each library level s cs) in
    clean_anywhere library level a.state (reverse a.cleanups)
    ∙ ap (ran a.state) (sym (reverse_map cleanup_anywhere a.cleanups) ∙ ap reverse h.cleanups ∙ reverse_map cleanup_anywhere b.cleanups)
    ∙ ap (λ (s : State). ran s (map cleanup_anywhere (reverse b.cleanups))) h.state
    ∙ sym (clean_anywhere library level b.state (reverse b.cleanups))

marks_by_outcomes : (library : LibraryValue) (level : Level) (s : State) (cs : List CleanupValue) → event_marks (clean_each library level s cs) ≡ map (λ (o : Outcome). Acted o) (outcomes_of (clean_each library level s cs))
marks_by_outcomes library level s [] = refl
marks_by_outcomes library level s (c ∷ cs) = let done = cleanup_done library c s in ap (λ (marks : List Mark). Acted done.outcome ∷ marks) (marks_by_outcomes library level done.state cs)

marks_likewise : (library : LibraryValue) (level : Level) (a b : SectionNow) → IsLikewise a b → event_marks (cleaned library level a) ≡ event_marks (cleaned library level b)
marks_likewise library level a b h =
    marks_by_outcomes library level a.state (reverse a.cleanups) ∙ ap (λ (outcomes : List Outcome). map (λ (o : Outcome). Acted o) outcomes) (cleaned_likewise library level a b h) ∙ sym (marks_by_outcomes library level b.state (reverse b.cleanups))

rows_anywhere : (steps : List StepValue) (marks : List Mark) → rows_of_steps (map step_anywhere steps) marks ≡ map step_row_anywhere (rows_of_steps steps marks)
rows_anywhere [] marks = refl
rows_anywhere (step ∷ steps) [] = ap (λ (rows : List StepRow). step_row_anywhere (row_of_step step Untested) ∷ rows) (rows_anywhere steps [])
rows_anywhere (step ∷ steps) (mark ∷ marks) = ap (λ (rows : List StepRow). step_row_anywhere (row_of_step step mark) ∷ rows) (rows_anywhere steps marks)

marks_both : (xs ys us vs : List Event) → event_marks xs ≡ event_marks us → event_marks ys ≡ event_marks vs → event_marks (xs ++ ys) ≡ event_marks (us ++ vs)
marks_both xs ys us vs p q =
    map-append mark_of xs ys ∙ ap (λ (marks : List Mark). marks ++ event_marks ys) p ∙ ap (λ (marks : List Mark). event_marks us ++ marks) q ∙ sym (map-append mark_of us vs)

reached_anywhere : (run : Run) (s : State) (c : CaseValue) → row_anywhere (reached_row run s nowhere c) ≡ reached_row run s nowhere (anywhere c)
reached_anywhere run s c =
    let library = run.library in
    let lists = after_lists run.hooks levels.Scenario c.own_tags in
    let before = before_events library run.hooks levels.Scenario c.own_tags s in
    let opened = left_by (entered s) before in
    let steps = steps_from library (ended_in before) opened.state c.steps in
    let others = steps_from library (ended_in before) opened.state (map step_anywhere c.steps) in
    let stepped = left_by opened steps in
    let moved = left_by opened others in
    let after = walk_each library levels.Scenario stepped lists in
    let moved_after = walk_each library levels.Scenario moved lists in
    let cleanups = cleaned library levels.Scenario (left_by stepped after) in
    let moved_cleanups = cleaned library levels.Scenario (left_by moved moved_after) in
    let marks = marks_anywhere library (ended_in before) opened.state c.steps in
    let like = left_anywhere library (ended_in before) opened.state opened opened c.steps (record { state = refl; cleanups = refl }) in
    let same_after = each_likewise library levels.Scenario moved stepped lists like in
    let left : IsLikewise (left_by moved moved_after) (left_by stepped after) =
    subst (λ (events : List Event). IsLikewise (left_by moved events) (left_by stepped after)) (sym same_after) (likewise_left moved stepped after like) in
    let closing = marks_both moved_after moved_cleanups after cleanups (ap event_marks same_after) (marks_likewise library levels.Scenario (left_by moved moved_after) (left_by stepped after) left) in
    let all = marks_both before (others ++ (moved_after ++ moved_cleanups)) before (steps ++ (after ++ cleanups)) refl (marks_both others (moved_after ++ moved_cleanups) steps (after ++ cleanups) marks closing) in
    let row : List Mark → List Mark → List Outcome → List StepRow → CaseRow =
    λ all around outcomes rows. record { keyword = c.keyword; name = c.name; line = 0; status = verdict_status (ended_of all); around = around_status (ended_of around); cleanups = outcomes; steps = rows } in
    let rows = rows_of_steps (map step_anywhere c.steps) (event_marks others) in
    let around = event_marks (before ++ (moved_after ++ moved_cleanups)) in
    let mine = event_marks (before ++ (steps ++ (after ++ cleanups))) in
    let mine_around = event_marks (before ++ (after ++ cleanups)) in
    sym
    (ap (λ (ms : List Mark). row ms around (outcomes_of moved_cleanups) rows) all
    ∙ ap (λ (ms : List Mark). row mine ms (outcomes_of moved_cleanups) rows) (marks_both before (moved_after ++ moved_cleanups) before (after ++ cleanups) refl closing)
    ∙ ap (λ (os : List Outcome). row mine mine_around os rows) (cleaned_likewise library levels.Scenario (left_by moved moved_after) (left_by stepped after) left)
    ∙ ap (row mine mine_around (outcomes_of cleanups)) (ap (rows_of_steps (map step_anywhere c.steps)) marks ∙ rows_anywhere c.steps (event_marks steps)))

unreached_anywhere : (c : CaseValue) → row_anywhere (unreached_row c) ≡ unreached_row (anywhere c)
unreached_anywhere c =
    let with_rows : List StepRow → CaseRow = λ rows. record { keyword = c.keyword; name = c.name; line = 0; status = statuses.Untested; around = statuses.Passed; cleanups = []; steps = rows } in
    sym (ap with_rows (rows_anywhere c.steps []))

either_anywhere : (run : Run) (s : State) (c : CaseValue) (b : Bool) → row_anywhere (cond b (reached_row run s nowhere c) (unreached_row c)) ≡ cond b (reached_row run s nowhere (anywhere c)) (unreached_row (anywhere c))
either_anywhere run s c true = reached_anywhere run s c
either_anywhere run s c false = unreached_anywhere c

own_anywhere : (run : Run) (s : State) (a : Above) (c : CaseValue) → row_anywhere (own_row run s a c) ≡ own_row run s a (anywhere c)
own_anywhere run s a c = let start = start_of run s a in either_anywhere run start.state c start.is_ready

pub moved : MovedScenariosComeToTheSame
moved run other_run contents other_contents features other_features results other_results at other_at f other_f c other_c row other_row like begins same judged has says other_judged other_has other_says =
    ap row_anywhere (own_results other_run other_contents other_features other_results other_at other_f other_c other_row other_judged other_has other_says)
    ∙ own_anywhere other_run (state_of other_contents) (above other_f other_c) other_c
    ∙ ap (own_row other_run (state_of other_contents) (above other_f other_c)) same
    ∙ own_same run other_run contents other_contents (above f c) (above other_f other_c) (anywhere c) (anywhere c) like begins refl
    ∙ sym (own_anywhere run (state_of contents) (above f c) c)
    ∙ sym (ap row_anywhere (own_results run contents features results at f c row judged has says))

-- ---- alone

zip_find : {A R : Type 0} (H : A → R → Type 0) (xs : List A) (rows : List R) (k : ℕ) (x : A) → AllZip H xs rows → slice_get xs k ≡ Some x → (row : R) × (slice_get rows k ≡ Some row) × H x row
zip_find H [] rows k x h at = absurd (none-some x at)
zip_find H (y ∷ ys) [] k x h at = absurd h
zip_find H (y ∷ ys) (r ∷ rs) zero x h at = (r, refl, subst (λ z. H z r) (same_Some y x at) h.0)
zip_find H (y ∷ ys) (r ∷ rs) (suc k) x h at = zip_find H ys rs k x h.1 at

only_case_at : (k : ℕ) (ms : List MemberValue) (m : MemberValue) → slice_get ms k ≡ Some m → slice_get (only_case k ms) k ≡ Some (record m { selected = true })
only_case_at k [] m at = absurd (none-some m at)
only_case_at zero (x ∷ ms) m at = ap (option_map (λ (y : MemberValue). record y { selected = true })) at
only_case_at (suc k) (x ∷ ms) m at = only_case_at k ms m at

only_at : (i k : ℕ) (fs : List ChosenValue) (f : ChosenValue) → slice_get fs i ≡ Some f → slice_get (only i k fs) i ≡ Some (only_in k f)
only_at i k [] f at = absurd (none-some f at)
only_at zero k (x ∷ fs) f at = ap (option_map (only_in k)) at
only_at (suc i) k (x ∷ fs) f at = only_at i k fs f at

abbrev rules_in : List MemberValue → List (Option ℕ)
rules_in ms = map (λ (m : MemberValue). m.scenario.rule) ms

rules_of_none : (ms : List MemberValue) → rules_in (map deselected ms) ≡ rules_in ms
rules_of_none [] = refl
rules_of_none (m ∷ ms) = ap (λ (rules : List (Option ℕ)). m.scenario.rule ∷ rules) (rules_of_none ms)

rules_of_only : (k : ℕ) (ms : List MemberValue) → rules_in (only_case k ms) ≡ rules_in ms
rules_of_only k [] = refl
rules_of_only zero (m ∷ ms) = ap (λ (rules : List (Option ℕ)). m.scenario.rule ∷ rules) (rules_of_none ms)
rules_of_only (suc k) (m ∷ ms) = ap (λ (rules : List (Option ℕ)). m.scenario.rule ∷ rules) (rules_of_only k ms)

-- only one is selected
none_selected : (ms : List MemberValue) → has_selected (map deselected ms) ≡ false
none_selected [] = refl
none_selected (m ∷ ms) = none_selected ms

sole_none : (ms : List MemberValue) → has_selected ms ≡ false → IsSole ms
sole_none [] h = tt
sole_none (m ∷ ms) h = (λ k. or_left m.selected (has_selected ms) h, sole_none ms (or_right m.selected (has_selected ms) h))

sole_case : (k : ℕ) (ms : List MemberValue) → IsSole (only_case k ms)
sole_case k [] = tt
sole_case zero (m ∷ ms) = (λ h. absurd (true≢false (sym h ∙ none_selected ms)), sole_none (map deselected ms) (none_selected ms))
sole_case (suc k) (m ∷ ms) = (λ h. refl, sole_case k ms)

sole_first : (xs ys : List MemberValue) → IsSole xs → has_selected ys ≡ false → IsSole (xs ++ ys)
sole_first [] ys h k = sole_none ys k
sole_first (m ∷ xs) ys h k = (λ has. h.0 (or_either (has_selected xs) (has_selected ys) (sym (list_any-append (λ (x : MemberValue). x.selected) xs ys) ∙ has) (λ l. l) (λ r. absurd (true≢false (sym r ∙ k)))), sole_first xs ys h.1 k)

sole_last : (xs ys : List MemberValue) → has_selected xs ≡ false → IsSole ys → IsSole (xs ++ ys)
sole_last [] ys h k = k
sole_last (m ∷ xs) ys h k = (λ has. or_left m.selected (has_selected xs) h, sole_last xs ys (or_right m.selected (has_selected xs) h) k)

none_of_all : (fs : List ChosenValue) → has_selected (members_of_all (map none_in fs)) ≡ false
none_of_all [] = refl
none_of_all (f ∷ fs) =
    let first = map deselected f.members in
    let rest = members_of_all (map none_in fs) in
    list_any-append (λ (m : MemberValue). m.selected) first rest ∙ or_none (has_selected first) (has_selected rest) (none_selected f.members) (none_of_all fs)

sole_only : (i k : ℕ) (fs : List ChosenValue) → IsSole (members_of_all (only i k fs))
sole_only i k [] = tt
sole_only zero k (f ∷ fs) = sole_first (only_case k f.members) (members_of_all (map none_in fs)) (sole_case k f.members) (none_of_all fs)
sole_only (suc i) k (f ∷ fs) = sole_last (map deselected f.members) (members_of_all (only i k fs)) (none_selected f.members) (sole_only i k fs)

-- without refused memory, a selected scenario before which the run doesn't stop has a result, which is its own
plain_result : (run : Run) (contents : Contents) (features : List ChosenValue) → IsCalm run (members_of_all features) → (at : Place) (f : ChosenValue) (c : CaseValue) →
    slice_get features at.feature ≡ Some f → slice_get f.members at.scenario ≡ Some (record { scenario = c; selected = true }) → CasesFallIntoRules f →
    HasResult features (results_from run (state_of contents) uncut features) at f c (own_row run (state_of contents) (above f c) c)
plain_result run contents features calm at f c stands member falls =
    let suite = go_inside run levels.Run [] (outset (state_of contents)) in
    let rows = result_of (features_of run suite.state suite.is_ready [] features) in
    let ends = zip_find (HasPlainCases run suite) features rows at.feature f (plain_features run suite suite.is_ready features calm (λ k. refl)) stands in
    let feature = go_inside run levels.Feature f.tags suite in
    let found = zip_find (IsPlainIn run feature f.rules) f.members (let row = ends.0 in row.cases) at.scenario (record { scenario = c; selected = true }) (ends.2 falls) member in
    record { feature = stands; scenario = member; falls = falls; feature_result = ends.0; in_results = ends.1; in_feature = found.1 ∙ ap (λ (row : CaseRow). Some row) (found.2 refl) }

pub alone_as_in_suite : ScenariosComeToTheSameAlone
alone_as_in_suite run other_run contents other_contents features results other_results at f c row like judged has says other_judged runs unrefused =
    let others = only at.feature at.scenario features in
    let alone = only_in at.scenario f in
    let falls = subst (FallFrom (length f.rules) 0) (sym (rules_of_only at.scenario f.members)) has.falls in
    let known = plain_result other_run other_contents others (λ s. sole_only at.feature at.scenario features) at alone c (only_at at.feature at.scenario features f has.feature) (only_case_at at.scenario f.members (record { scenario = c; selected = true }) has.scenario) falls in
    let is = one_list other_run other_contents others other_results other_judged unrefused ∙ ap (results_by other_run other_contents uncut others) runs in
    let same =
    own_same run other_run contents other_contents (above f c) (above alone c) c c like (record { feature = refl; rule = refl }) refl
    ∙ sym (own_results run contents features results at f c row judged has says)
    in
    subst (λ (r : Results). HasResult others r at alone c row) (sym is) (subst (λ (x : CaseRow). HasResult others (results_from other_run (state_of other_contents) uncut others) at alone c x) same known)
