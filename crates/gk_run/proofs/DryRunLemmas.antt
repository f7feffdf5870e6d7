-- What the loops of a dry run come to.
use Rattle.gk_run.proofs.Common.{Bool, List, [], ap, append_assoc, cond, false, inl, inr, is_some, map, refl, subst, suc, sym, true, ◌++◌, ◌||◌, ◌∙◌, ◌∷◌, ◌≡◌, append-nil, arith, common_steps, list_any, StepValue, CaseValue, LibraryValue, Mark, Skipped, Undefined, Untested, Status, nothing_yet, state_of, cut_at, event_marks, row_of_case, unrun_row, unselected_row, same_marks, case_statuses, IsLookedUp, row_of_step, looked_up, ChosenValue, MemberValue, AreDrySteps, IsDryStep, dry_case_of, dry_cases_of, dry_events, dry_feature_of, dry_row, dry_rules_of, dry_step, dry_verdict, is_memory_mark, FeatureCuts, feature_verdict, rule_statuses, CaseRow, FeatureRow, RuleRow, StepRow, Cut, Events, happened, in_steps, nowhere}
use Rattle.gk_run.specs.declared.results.Status.TheVariants as statuses
use Rattle.gk_run.proofs.EventLemmas.{cut_is_memory}

-- ---- the steps of a case

no_memory_mark : (b : Bool) → is_memory_mark (cond b Untested Undefined) ≡ false
no_memory_mark true = refl
no_memory_mark false = refl

looked_more : (library : LibraryValue) (step : StepValue) (steps : List StepValue) (m : Mark) → m ≡ looked_up library Untested step → (more : List StepRow) (e : Bool) → AreDrySteps library false steps more e →
    AreDrySteps library false (step ∷ steps) (row_of_step step m ∷ more) e
looked_more library step steps m is more true h =
    (suc h.0, h.1, ap (λ x. row_of_step step x ∷ more) is ∙ ap (λ rs. row_of_step step (looked_up library Untested step) ∷ rs) h.2)
looked_more library step steps m is more false h = ap (λ x. row_of_step step x ∷ more) is ∙ ap (λ rs. row_of_step step (looked_up library Untested step) ∷ rs) h

by_look : (library : LibraryValue) (next : Bool) (step : StepValue) (steps : List StepValue) (m : Mark) → IsLookedUp library Untested step m → next ≡ is_memory_mark m → (more : List StepRow) (e : Bool) → AreDrySteps library next steps more e →
    AreDrySteps library false (step ∷ steps) (row_of_step step m ∷ more) e
by_look library next step steps m (inl is) n more e h = grind (arith, common_steps)
by_look library next step steps m (inr is) n more e h = grind (arith, common_steps, no_memory_mark, is_some, looked_more)

one_more : (library : LibraryValue) (refused next : Bool) (step : StepValue) (steps : List StepValue) (m : Mark) → IsDryStep library refused step m → next ≡ (refused || is_memory_mark m) →
    (more : List StepRow) (e : Bool) → AreDrySteps library next steps more e → AreDrySteps library refused (step ∷ steps) (row_of_step step m ∷ more) e
one_more library true next step steps m t n more e h = grind (arith, common_steps)
one_more library false next step steps m t n more e h = by_look library next step steps m t n more e h

-- whatever the steps that are left come to, all come to, with these rows before theirs
abbrev pub GoesDrySteps : LibraryValue → Bool → List StepValue → List StepRow → List StepValue → Type 0
GoesDrySteps library refused left rows all = (more : List StepRow) (e : Bool) → AreDrySteps library refused left more e → AreDrySteps library false all (rows ++ more) e

pub dry_steps_first : (library : LibraryValue) (all : List StepValue) → GoesDrySteps library false all [] all
dry_steps_first library all more e h = h

pub dry_steps_on : (library : LibraryValue) (all : List StepValue) (refused next : Bool) (step : StepValue) (left : List StepValue) (m : Mark) (rows pushed : List StepRow) → IsDryStep library refused step m →
    next ≡ (refused || is_memory_mark m) → pushed ≡ rows ++ row_of_step step m ∷ [] → GoesDrySteps library refused (step ∷ left) rows all → GoesDrySteps library next left pushed all
dry_steps_on library all refused next step left m rows pushed t n push whole more e h =
    subst (λ rs. AreDrySteps library false all rs e) (sym (ap (λ rs. rs ++ more) push ∙ append_assoc rows (row_of_step step m ∷ []) more))
    (whole (row_of_step step m ∷ more) e (one_more library refused next step left m t n more e h))

nothing_left : (library : LibraryValue) (refused : Bool) → AreDrySteps library refused [] [] refused
nothing_left library true = (refl, refl)
nothing_left library false = refl

pub dry_steps_last : (library : LibraryValue) (all : List StepValue) (refused : Bool) (left : List StepValue) (rows : List StepRow) → left ≡ [] → GoesDrySteps library refused left rows all → AreDrySteps library false all rows refused
dry_steps_last library all refused [] rows none whole = subst (λ rs. AreDrySteps library false all rs refused) (append-nil rows) (whole [] refused (nothing_left library refused))
dry_steps_last library all refused (step ∷ left) rows none whole = let no : ⊥ = cc in absurd no

-- ---- a case

no_memory : (library : LibraryValue) (steps : List StepValue) → list_any is_memory_mark (event_marks (map (dry_step library) steps)) ≡ false
no_memory library [] = refl
no_memory library (step ∷ steps) = grind (arith, common_steps, no_memory library steps)

-- the row of a case with these results of its steps
abbrev dry_row_by : CaseValue → Status → List StepRow → CaseRow
dry_row_by c status rows = record { keyword = c.keyword; name = c.name; line = c.line; status = status; around = statuses.Passed; cleanups = []; steps = rows }

-- the verdict by whether memory was refused
abbrev verdict_of : Bool → Status
verdict_of refused = cond refused statuses.Memory statuses.Untested

pub dry_is : (library : LibraryValue) (c : CaseValue) (rows : List StepRow) (refused : Bool) (status : Status) → status ≡ cond refused statuses.Memory statuses.Untested → AreDrySteps library false c.steps rows refused →
    (cut : Cut) × (record { keyword = c.keyword; name = c.name; line = c.line; status = status; around = statuses.Passed; cleanups = []; steps = rows } ≡ dry_row library cut c)
dry_is library c rows false status s h = grind (arith, common_steps, no_memory)
dry_is library c rows true status s h =
    let n = h.0 in
    let there = state_of nothing_yet in
    let e = dry_events library c in
    let steps = cut_at n there e.steps in
    let now : Events = record { before = []; steps = steps; after = []; cleanups = [] } in
    let is : now ≡ happened (in_steps n there) e = ap (λ (b : Bool). cond b now e) (sym h.1) in (
      in_steps n there,
      ap (λ x. dry_row_by c x rows) (s ∙ ap verdict_of (sym (cut_is_memory e.steps n there h.1)))
          ∙ ap (dry_row_by c (verdict_of (list_any is_memory_mark (event_marks steps)))) h.2
          ∙ ap (λ (x : Events). row_of_case c (dry_verdict x) x) is,
    )

pub dry_unselected : (library : LibraryValue) (m : MemberValue) (row : CaseRow) → m.selected ≡ false → row ≡ unrun_row m.scenario statuses.Skipped (same_marks Skipped m.scenario) → row ≡ dry_case_of library nowhere m
dry_unselected library m row h e = let c = m.scenario in e ∙ ap (λ (b : Bool). cond b (dry_row library nowhere c) (unselected_row c)) (sym h)

pub dry_selected : (library : LibraryValue) (m : MemberValue) (row : CaseRow) → m.selected ≡ true → (cut : Cut) × (row ≡ dry_row library cut m.scenario) → (cut : Cut) × (row ≡ dry_case_of library cut m)
dry_selected library m row h t = (t.0, t.1 ∙ ap (λ (b : Bool). cond b (dry_row library t.0 m.scenario) (unselected_row m.scenario)) (sym h))

-- ---- the cases of a feature

-- however what is left is cut, the whole has cuts with these rows before the others
abbrev pub GoesDryCases : LibraryValue → List MemberValue → List CaseRow → List MemberValue → Type 0
GoesDryCases library all rows left = (cuts : List Cut) → (whole : List Cut) × (rows ++ dry_cases_of library cuts left ≡ dry_cases_of library whole all)

pub dry_cases_first : (library : LibraryValue) (all : List MemberValue) → GoesDryCases library all [] all
dry_cases_first library all cuts = (cuts, refl)

pub dry_cases_on : (library : LibraryValue) (all : List MemberValue) (rows pushed : List CaseRow) (row : CaseRow) (m : MemberValue) (left : List MemberValue) → (cut : Cut) × (row ≡ dry_case_of library cut m) → pushed ≡ rows ++ row ∷ [] →
    GoesDryCases library all rows (m ∷ left) → GoesDryCases library all pushed left
dry_cases_on library all rows pushed row m left one push goes cuts =
    let whole = goes (one.0 ∷ cuts) in (
      whole.0,
      ap (λ rs. rs ++ dry_cases_of library cuts left) push
          ∙ append_assoc rows (row ∷ []) (dry_cases_of library cuts left)
          ∙ ap (λ (x : CaseRow). rows ++ x ∷ dry_cases_of library cuts left) one.1
          ∙ whole.1,
    )

pub dry_cases_last : (library : LibraryValue) (all : List MemberValue) (rows : List CaseRow) (left : List MemberValue) → left ≡ [] → GoesDryCases library all rows left → (cuts : List Cut) × (rows ≡ dry_cases_of library cuts all)
dry_cases_last library all rows [] none goes = let whole = goes [] in (whole.0, sym (append-nil rows) ∙ whole.1)
dry_cases_last library all rows (m ∷ left) none goes = let no : ⊥ = cc in absurd no

pub dry_feature_is : (library : LibraryValue) (f : ChosenValue) (status : Status) (rules : List RuleRow) (rows : List CaseRow) → status ≡ feature_verdict statuses.Passed (rule_statuses rules) (case_statuses rows) →
    rules ≡ dry_rules_of f.rules → (cuts : List Cut) × (rows ≡ dry_cases_of library cuts f.members) →
    (cuts : FeatureCuts) × (record { source = f.source; name = f.name; line = f.line; status = status; around = statuses.Passed; rules = rules; cases = rows } ≡ dry_feature_of library cuts f)
dry_feature_is library f status rules rows verdict known_rules known =
    let row : Status → List RuleRow → List CaseRow → FeatureRow = λ s rrs rs. record { source = f.source; name = f.name; line = f.line; status = s; around = statuses.Passed; rules = rrs; cases = rs } in (
      record { own = nowhere; cases = known.0; rules = [] },
      ap (λ (s : Status). row s rules rows) verdict
          ∙ ap (λ rrs. row (feature_verdict statuses.Passed (rule_statuses rrs) (case_statuses rows)) rrs rows) known_rules
          ∙ ap (λ rs. row (feature_verdict statuses.Passed (rule_statuses (dry_rules_of f.rules)) (case_statuses rs)) (dry_rules_of f.rules) rs) known.1,
    )
