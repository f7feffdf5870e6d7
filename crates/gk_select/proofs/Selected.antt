-- The choice among the cases of a feature, made without the cases.
use Rattle.gk_select.proofs.Common.{◌≡◌, ◌<◌, ℕ, ◌+◌, Bool, List, [], ◌∷◌, ◌++◌, ◌&&◌, length, drop, get_or, map, flat_map, Result, Ok, Err, IfErr, refl, sym, ap, subst, ◌∙◌, arith, append_assoc, common_steps, cases_Bool, get_or-map, length-append, length-map, map-append, length-flat_map-take, enumerate_from, RowValue, ExamplesValue, ScenarioValue, RuleValue, FeatureValue, ChoiceValue, is_chosen, is_at_lines, chosen_by, InheritedValue, inherited_in_feature, inherited_in_rule, row_case, examples_cases, scenario_cases, rule_cases, cases, rules_hold, rows_selected, examples_selected, scenario_selected, rules_selected}

rows_are : (choice : ChoiceValue) (i : InheritedValue) (s : ScenarioValue) (k : ℕ) (e : ExamplesValue) (n : ℕ) (rows : List RowValue) →
    rows_selected choice (rules_hold choice (i.tags ++ s.tags ++ e.tags)) rows ≡ map (chosen_by choice) (map (λ (r : ℕ × RowValue). row_case i s k e r.0 r.1) (enumerate_from n rows))
unfolding is_chosen
rows_are choice i s k e n [] = refl
rows_are choice i s k e n (row ∷ rows) = ap (λ (bs : List Bool). (rules_hold choice (i.tags ++ s.tags ++ e.tags) && is_at_lines choice.lines row.line) ∷ bs) (rows_are choice i s k e (n + 1) rows)

examples_are : (choice : ChoiceValue) (i : InheritedValue) (s : ScenarioValue) (k : ℕ) (es : List ExamplesValue) →
    flat_map (examples_selected choice i.tags s.tags) es ≡ map (chosen_by choice) (flat_map (examples_cases i s) (enumerate_from k es))
examples_are choice i s k [] = refl
examples_are choice i s k (e ∷ es) =
    rw (rows_are choice i s k e 1 e.rows, examples_are choice i s (k + 1) es) refl
    ∙ sym (map-append (chosen_by choice) (examples_cases i s (k, e)) (flat_map (examples_cases i s) (enumerate_from (k + 1) es)))

scenario_is : (choice : ChoiceValue) (i : InheritedValue) (s : ScenarioValue) → scenario_selected choice i.tags s ≡ map (chosen_by choice) (scenario_cases i s)
unfolding is_chosen
scenario_is choice i s = grind (arith, common_steps, cases_Bool, examples_are)

scenarios_are : (choice : ChoiceValue) (i : InheritedValue) (ss : List ScenarioValue) → flat_map (scenario_selected choice i.tags) ss ≡ map (chosen_by choice) (flat_map (scenario_cases i) ss)
scenarios_are choice i [] = refl
scenarios_are choice i (s ∷ ss) = rw (scenario_is choice i s, scenarios_are choice i ss) refl ∙ sym (map-append (chosen_by choice) (scenario_cases i s) (flat_map (scenario_cases i) ss))

rules_are : (choice : ChoiceValue) (f : FeatureValue) (n : ℕ) (rules : List RuleValue) → rules_selected choice f.tags rules ≡ map (chosen_by choice) (flat_map (rule_cases f) (enumerate_from n rules))
rules_are choice f n [] = refl
rules_are choice f n (r ∷ rules) = grind (arith, common_steps, scenarios_are choice (inherited_in_rule f n r), rules_are choice f (n + 1) rules, map-append, flat_map)

pub all_selected : (choice : ChoiceValue) (f : FeatureValue) → flat_map (scenario_selected choice f.tags) f.scenarios ++ rules_selected choice f.tags f.rules ≡ map (chosen_by choice) (cases f)
unfolding cases
all_selected choice f = grind (arith, common_steps, scenarios_are choice (inherited_in_feature f), rules_are, map-append, flat_map)

-- The values of one part more.
pub one_part : {A B C : Type 0} (F : B → List C) (v : A → B) (xs ys : List A) (i : ℕ) (x : A) → xs ≡ ys → i < length xs → x ≡ get_or xs i x → (old new whole : List C)
    → new ≡ old ++ F (v x) → old ++ flat_map F (map v (drop i ys)) ≡ whole → new ++ flat_map F (map v (drop (i + 1) ys)) ≡ whole
one_part {A} F v xs ys i x same less is old new whole grown before =
    let split : drop i xs ≡ get_or xs i x ∷ drop (i + 1) xs = grind (arith, common_steps) in
    let rest = flat_map F (map v (drop (i + 1) xs)) in
    subst (λ (zs : List A). new ++ flat_map F (map v (drop (i + 1) zs)) ≡ whole) same (
    ap (λ l. l ++ rest) grown ∙ append_assoc old (F (v x)) rest ∙ ap (λ (z : A). old ++ (F (v z) ++ rest)) is
    ∙ ap (λ (l : List A). old ++ flat_map F (map v l)) (sym split) ∙ ap (λ (zs : List A). old ++ flat_map F (map v (drop i zs))) same ∙ before
    )

-- If one part has values, so have all together.
pub some_part : {A B C : Type 0} (F : B → List C) (v : A → B) (xs ys : List A) (i : ℕ) (x : A) → xs ≡ ys → i < length xs → x ≡ get_or xs i x → 0 < length (F (v x)) → 0 < length (flat_map F (map v ys))
some_part {A} F v xs ys i x same less is has =
    let there : length (F (v x)) ≡ length (F (get_or (map v xs) i (v x))) = ap (λ b. length (F b)) (ap v is ∙ sym (get_or-map v xs i x (v x) less)) in
    let most = length-flat_map-take F (map v xs) i (v x) (subst (λ n. i < n) (sym (length-map xs v)) less) in
    subst (λ (zs : List A). 0 < length (flat_map F (map v zs))) same (omega (arith, has, there, most))

-- If a scenario in no rule has a case, so has the feature.
pub some_own : (choice : ChoiceValue) (f : FeatureValue) → 0 < length (flat_map (scenario_selected choice f.tags) f.scenarios) → 0 < length (cases f)
some_own choice f has =
    let own = flat_map (scenario_selected choice f.tags) f.scenarios in
    omega (arith, has, length-append own (rules_selected choice f.tags f.rules), ap length (all_selected choice f), length-map (cases f) (chosen_by choice))

-- What holds anyway holds at an error.
pub if_err : {T E P : Type 0} (r : Result T E) → P → IfErr r (λ e. P)
if_err (Ok x) p = tt
if_err (Err e) p = p
