-- The rows that cases come from, and the cells under headers.
use Rattle.gk_select.proofs.Common.{◌≡◌, ℕ, ◌+◌, ◌<◌, ◌≤◌, suc, zero, Bool, true, false, List, [], ◌∷◌, ◌++◌, length, map, flat_map, drop, get_or, Option, Some, None, refl, sym, ap, arith, add-one, append_assoc, rules, common_steps, zip, slice_get, enumerate_from, if◌then◌else◌, AllZip, RowValue, ExamplesValue, ScenarioValue, RuleValue, FeatureValue, CaseValue, InheritedValue, inherited_in_feature, inherited_in_rule, is_outline, row_case, plain_case, examples_cases, scenario_cases, rule_cases, cases, ExampleRowValue, IsRowOf, numbered_row, rows_of_examples, rows_of_scenario, outline_rows, RowsAreAtCases}

zip_append : (cs ds : List CaseValue) (rows more : List (Option ExampleRowValue)) → AllZip IsRowOf cs rows → AllZip IsRowOf ds more → AllZip IsRowOf (cs ++ ds) (rows ++ more)
zip_append [] ds [] more h k = k
zip_append [] ds (row ∷ rows) more h k = absurd h
zip_append (c ∷ cs) ds [] more h k = absurd h
zip_append (c ∷ cs) ds (row ∷ rows) more h k = (h.0, zip_append cs ds rows more h.1 k)

of_rows : (i : InheritedValue) (s : ScenarioValue) (k : ℕ) (e : ExamplesValue) (n : ℕ) (rows : List RowValue) →
    AllZip IsRowOf (map (λ (r : ℕ × RowValue). row_case i s k e r.0 r.1) (enumerate_from n rows)) (map (λ (r : ℕ × RowValue). Some (numbered_row e.header r)) (enumerate_from n rows))
of_rows i s k e n [] = tt
of_rows i s k e n (row ∷ rows) = (refl, of_rows i s k e (n + 1) rows)

of_examples : (i : InheritedValue) (s : ScenarioValue) (k : ℕ) (es : List ExamplesValue) → AllZip IsRowOf (flat_map (examples_cases i s) (enumerate_from k es)) (flat_map rows_of_examples es)
of_examples i s k [] = tt
of_examples i s k (e ∷ es) = zip_append (examples_cases i s (k, e)) _ (rows_of_examples e) _ (of_rows i s k e 1 e.rows) (of_examples i s (k + 1) es)

by_kind : (b : Bool) (cs : List CaseValue) (c : CaseValue) (rows : List (Option ExampleRowValue)) → AllZip IsRowOf cs rows → AllZip IsRowOf (if b then cs else (c ∷ [])) (if b then rows else (None ∷ []))
by_kind true cs c rows h = h
by_kind false cs c rows h = (tt, tt)

of_scenarios : (i : InheritedValue) (ss : List ScenarioValue) → AllZip IsRowOf (flat_map (scenario_cases i) ss) (flat_map rows_of_scenario ss)
of_scenarios i [] = tt
of_scenarios i (s ∷ ss) =
    zip_append (scenario_cases i s) _ (rows_of_scenario s) _ (by_kind (is_outline s) _ (plain_case i s) _ (of_examples i s 1 s.examples)) (of_scenarios i ss)

of_rules : (f : FeatureValue) (n : ℕ) (rs : List RuleValue) → AllZip IsRowOf (flat_map (rule_cases f) (enumerate_from n rs)) (flat_map (λ (r : RuleValue). flat_map rows_of_scenario r.scenarios) rs)
of_rules f n [] = tt
of_rules f n (r ∷ rs) = zip_append (rule_cases f (n, r)) _ (flat_map rows_of_scenario r.scenarios) _ (of_scenarios (inherited_in_rule f n r) r.scenarios) (of_rules f (n + 1) rs)

pub at_cases : RowsAreAtCases
unfolding cases outline_rows
at_cases f = zip_append (flat_map (scenario_cases (inherited_in_feature f)) f.scenarios) _ (flat_map rows_of_scenario f.scenarios) _ (of_scenarios (inherited_in_feature f) f.scenarios) (of_rules f 0 f.rules)

-- The element at a place, as a loop has it.
pub at_place : {A B : Type 0} (f : A → B) (xs : List A) (i : ℕ) (x : A) → i < length xs → x ≡ get_or xs i x → slice_get (map f xs) i ≡ Some (f x)
at_place f [] i x less is = absurd (omega arith)
at_place f (y ∷ ys) zero x less is = ap (λ z. Some (f z)) (sym is)
at_place f (y ∷ ys) (suc i) x less is = at_place f ys i x (omega arith) is

some_is : {A : Type 0} (x y : A) → ◌≡◌ {A = Option A} (Some x) (Some y) → x ≡ y
some_is x y e = cc

-- The pair at a place, and those behind it.
turn : {X Y : Type 0} (hs : List X) (ts : List Y) (i : ℕ) (x : X) (y : Y) → slice_get hs i ≡ Some x → slice_get ts i ≡ Some y → zip (drop i hs) (drop i ts) ≡ (x, y) ∷ zip (drop (suc i) hs) (drop (suc i) ts)
turn [] ts i x y h t = let no : ⊥ = cc h in absurd no
turn (a ∷ hs) [] i x y h t = let no : ⊥ = cc t in absurd no
turn (a ∷ hs) (b ∷ ts) zero x y h t = rw (some_is a x h, some_is b y t) refl
turn (a ∷ hs) (b ∷ ts) (suc i) x y h t = turn hs ts i x y h t

none_under : {X Y : Type 0} (hs : List X) (i : ℕ) → ◌≡◌ {A = List (X × Y)} (zip (drop i hs) []) []
none_under [] zero = refl
none_under [] (suc i) = refl
none_under (h ∷ hs) zero = refl
none_under (h ∷ hs) (suc i) = none_under hs i

none_left : {X Y : Type 0} (hs : List X) (ts : List Y) (i : ℕ) → length ts ≤ i → zip (drop i hs) (drop i ts) ≡ []
none_left [] [] zero short = refl
none_left [] [] (suc i) short = refl
none_left [] (t ∷ ts) zero short = refl
none_left [] (t ∷ ts) (suc i) short = refl
none_left (h ∷ hs) [] zero short = refl
none_left (h ∷ hs) [] (suc i) short = none_under hs i
none_left (h ∷ hs) (t ∷ ts) zero short = absurd (omega (arith, short))
none_left (h ∷ hs) (t ∷ ts) (suc i) short = none_left hs ts i (omega (arith, short))

-- One cell more under its header.
pub one_cell : {X Y : Type 0} (more done : List (X × Y)) (p : X × Y) (hs : List X) (ts : List Y) (i : ℕ) → more ≡ done ++ p ∷ [] → slice_get hs i ≡ Some p.0 → slice_get ts i ≡ Some p.1 →
    (all : List (X × Y)) → done ++ zip (drop i hs) (drop i ts) ≡ all → more ++ zip (drop (i + 1) hs) (drop (i + 1) ts) ≡ all
one_cell {X = X} {Y = Y} more done p hs ts i grown h t all before = search (rules, append_assoc, add-one, turn)

-- There is no cell under this header.
pub no_cell : {X Y : Type 0} (done : List (X × Y)) (hs : List X) (ts : List Y) (i : ℕ) → length ts ≤ i →
    (all : List (X × Y)) → done ++ zip (drop i hs) (drop i ts) ≡ all → done ++ zip (drop (i + 1) hs) (drop (i + 1) ts) ≡ all
no_cell {X = X} {Y = Y} done hs ts i short all before = grind (arith, common_steps, none_left)
