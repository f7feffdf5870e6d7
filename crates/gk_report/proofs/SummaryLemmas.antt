-- Counting one status after the other counts all.
use Rattle.gk_report.proofs.Common.{◌≡◌, ℕ, ◌+◌, Bool, true, false, cond, ◌||◌, min, nat_lt, ◌<◌, List, [], ◌∷◌, ◌++◌, map, flat_map, fold, count_by, refl, ap, sym, ◌∙◌, append_assoc, common_steps, list_any, fold-append, or-false, Status, Counts, Summary, CaseRow, FeatureRow, greatest, count_of, counts_of, feature_statuses, case_statuses, scenario_statuses, statuses_of_case, statuses_of_feature, step_statuses, summary_of, status_of, one_status_more, one_case_more, one_feature_more, status_by, IsStatusOf}
use native.Mathlib.Omega.{arith}
use Rattle.std.proofs.lemmas.List.{append-nil}
use Rattle.gk_run.specs.declared.results.Status.TheVariants as statuses

six : {a a' b b' c c' d d' e e' f f' : ℕ} → a ≡ a' → b ≡ b' → c ≡ c' → d ≡ d' → e ≡ e' → f ≡ f' →
    let x : Counts = record { passed = a; failed = b; skipped = c; undefined = d; untested = e; memory = f } in
    let y : Counts = record { passed = a'; failed = b'; skipped = c'; undefined = d'; untested = e'; memory = f' } in
    x ≡ y
six ha hb hc hd he hf = cc

pub status_more : (xs : List Status) (s : Status) → one_status_more (counts_of xs) s ≡ counts_of (xs ++ s ∷ [])
status_more xs statuses.Passed = grind (arith, common_steps, six)
status_more xs statuses.Failed = grind (arith, common_steps, six)
status_more xs statuses.Skipped = grind (arith, common_steps, six)
status_more xs statuses.Undefined = grind (arith, common_steps, six)
status_more xs statuses.Untested = grind (arith, common_steps, six)
status_more xs statuses.Memory = grind (arith, common_steps, six)

pub statuses_more : (xs ys : List Status) → fold one_status_more (counts_of xs) ys ≡ counts_of (xs ++ ys)
statuses_more xs [] = ap counts_of (sym (append-nil xs))
statuses_more xs (y ∷ ys) = grind (arith, common_steps, statuses_more (xs ++ y ∷ []) ys)

-- a summary of these lists of statuses
over : List Status → List Status → List Status → Summary
over fs cs ss = record { features = counts_of fs; scenarios = counts_of cs; steps = counts_of ss }

cases_more : (fs cs ss : List Status) (rows : List CaseRow) →
    fold one_case_more (over fs cs ss) rows ≡ over fs (cs ++ map (λ (c : CaseRow). c.status) rows) (ss ++ flat_map statuses_of_case rows)
unfolding over
cases_more fs cs ss [] = ap (λ xs. over fs xs ss) (sym (append-nil cs)) ∙ ap (over fs (cs ++ [])) (sym (append-nil ss))
cases_more fs cs ss (c ∷ rows) = grind (arith, common_steps, status_more, statuses_more, cases_more fs (cs ++ c.status ∷ []) (ss ++ statuses_of_case c) rows, over, flat_map, append_assoc)

features_more : (fs cs ss : List Status) (rows : List FeatureRow) →
    fold one_feature_more (over fs cs ss) rows ≡ over (fs ++ feature_statuses rows) (cs ++ scenario_statuses rows) (ss ++ step_statuses rows)
unfolding over
features_more fs cs ss [] = grind (arith, common_steps)
features_more fs cs ss (f ∷ rows) = grind (arith, common_steps, status_more, cases_more, features_more (fs ++ f.status ∷ []) (cs ++ case_statuses f.cases) (ss ++ statuses_of_feature f) rows, over, append_assoc)

-- Adding the features one after another gives the summary of all.
pub all_added : (rows : List FeatureRow) → fold one_feature_more (summary_of []) rows ≡ summary_of rows
unfolding over
all_added rows = features_more [] [] [] rows

-- One feature more.
pub feature_added : (rows : List FeatureRow) (f : FeatureRow) → one_feature_more (summary_of rows) f ≡ summary_of (rows ++ f ∷ [])
feature_added rows f =
    ap (λ s. one_feature_more s f) (sym (all_added rows)) ∙ sym (fold-append one_feature_more (summary_of []) rows (f ∷ [])) ∙ all_added (rows ++ f ∷ [])

both_ways : (a b : Bool) → (a ≡ true → b ≡ true) → (b ≡ true → a ≡ true) → a ≡ b
both_ways true true f g = refl
both_ways false false f g = refl
both_ways true false f g = sym (f refl)
both_ways false true f g = g refl

any_counted : (p : Status → Bool) (n : ℕ) (xs : List Status) → nat_lt 0 (fold (λ a x. a + cond (p x) 1 0) n xs) ≡ (nat_lt 0 n || list_any p xs)
any_counted p n [] = sym (or-false (nat_lt 0 n))
any_counted p n (x ∷ xs) = grind (arith, common_steps, any_counted p (n + cond (p x) 1 0) xs)

least_above : (g n : ℕ) → 0 < g → nat_lt 0 (min g n) ≡ nat_lt 0 n
least_above g n h = grind (arith, common_steps)

any_count : (p : Status → Bool) (xs : List Status) → nat_lt 0 (count_of p xs) ≡ list_any p xs
any_count p xs =
    let above : 0 < greatest = omega arith in
    least_above greatest (count_by p xs) above ∙ any_counted p 0 xs

-- The status by the counts is that of the rows.
pub status_counted : (rows : List FeatureRow) (around : Status) → status_by (summary_of rows) around ≡ status_of rows around
status_counted rows around = grind (arith, common_steps, nat_lt, any_count)

-- So a number that is the status by the counts is that of whatever rows they count.
pub status_from : (s : Summary) (around : Status) (number : ℕ) → number ≡ status_by s around → IsStatusOf s around number
status_from s around number e rows same = e ∙ ap (λ x. status_by x around) same ∙ status_counted rows around
