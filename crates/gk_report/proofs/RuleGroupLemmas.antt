-- How the scenarios of a feature stand by its rules.
use Rattle.gk_report.proofs.Common.{nat_lt, All, filter, last_or, IsNonDecreasingBy, ◌≡◌, ℕ, ◌+◌, ◌≤◌, ◌<◌, Bool, true, false, cond, not, List, [], ◌∷◌, ◌++◌, length, get_or, map, flat_map, Option, Some, None, refl, ap, sym, ◌∙◌, subst, arith, append-nil, common_steps, ltb-true, ltb-false, lt-ltb, le-ltb, not-false, not-true, take-append-drop, get_or-take, get_or-drop, length-take, length-drop, All-nil, All-cons, All-tail, All-weaker, IsNonDecreasingBy-drop, prefix_len_passes, prefix_len_stops, prefix_len-le-length, CaseRow, RuleRow, begins_above, count_before, cases_before, cases_behind, RuleGroup, groups_by_line, rule_containing, AreInFileOrder, RulesFollowTheirScenarios}
use Rattle.gk_report.proofs.RuleLemmas.{before_next}

each_has_one : (rules : List RuleRow) (cases : List CaseRow) → map (λ (g : RuleGroup). g.rule) (groups_by_line rules cases) ≡ rules
each_has_one [] cases = refl
each_has_one (r ∷ rules) cases = ap (λ rs. r ∷ rs) (each_has_one rules (cases_behind rules cases))

all_before_none : (cases : List CaseRow) → cases_before [] cases ≡ cases
all_before_none [] = refl
all_before_none (c ∷ cs) = before_next [] c cs refl ∙ ap (λ xs. c ∷ xs) (all_before_none cs)

all_stand : (rules : List RuleRow) (cases : List CaseRow) → cases_before rules cases ++ flat_map (λ (g : RuleGroup). g.cases) (groups_by_line rules (cases_behind rules cases)) ≡ cases
all_stand [] cases = append-nil (cases_before [] cases) ∙ all_before_none cases
all_stand (r ∷ rules) cases = ap (λ xs. cases_before (r ∷ rules) cases ++ xs) (all_stand rules (cases_behind (r ∷ rules) cases)) ∙ take-append-drop (count_before (r ∷ rules) cases) cases

-- A scenario that is above the first of rules in file order is in none of them.
none_above : (rules : List RuleRow) (line : ℕ) → All (λ (r : RuleRow). line ≤ r.line) rules → filter (λ (r : RuleRow). nat_lt r.line line) rules ≡ []
none_above [] line h = refl
none_above (r ∷ rules) line h =
    ap (λ b. cond b (r ∷ filter (λ (s : RuleRow). nat_lt s.line line) rules) (filter (λ (s : RuleRow). nat_lt s.line line) rules)) (le-ltb r.line line (h 0 r (omega arith)))
    ∙ none_above rules line (All-tail (λ (s : RuleRow). line ≤ s.line) r rules h)

above_first : (rules : List RuleRow) (line : ℕ) → IsNonDecreasingBy (λ (r : RuleRow). r.line) rules → begins_above rules line ≡ false → filter (λ (r : RuleRow). nat_lt r.line line) rules ≡ []
above_first [] line rising e = refl
above_first (r ∷ rules) line rising e = none_above (r ∷ rules) line (λ k d lt. omega (arith, ltb-false r.line line e, rising 0 k d (omega arith) lt))

-- The scenarios in front of the first rule are above it.
before_above : (rules : List RuleRow) (cases : List CaseRow) → All (λ (c : CaseRow). begins_above rules c.line ≡ false) (cases_before rules cases)
before_above rules cases k d lt = grind (arith, common_steps, length-take, get_or-take, not-true, prefix_len_passes)

own_in_none : (rules : List RuleRow) (cases : List CaseRow) → AreInFileOrder rules cases → All (λ c. rule_containing rules c ≡ None) (cases_before rules cases)
own_in_none rules cases order =
    All-weaker (λ (c : CaseRow). begins_above rules c.line ≡ false) (λ c. rule_containing rules c ≡ None) (λ c e. ap (last_or None) (above_first rules c.line order.rising_rules e)) (cases_before rules cases) (before_above rules cases)

-- In file order the scenarios behind those in front of a rule are below it.
behind_below : (r : RuleRow) (rules : List RuleRow) (cases : List CaseRow) → IsNonDecreasingBy (λ (c : CaseRow). c.line) cases → All (λ (c : CaseRow). r.line < c.line) (cases_behind (r ∷ rules) cases)
behind_below r rules cases rising k d lt =
    let n = count_before (r ∷ rules) cases in
    let long = length-drop n cases in
    let inside : n < length cases = omega (arith, lt, long) in
    let first = ltb-true r.line (get_or cases n d).line (not-false _ (prefix_len_stops (λ (c : CaseRow). not (begins_above (r ∷ rules) c.line)) cases d inside)) in
    let later = rising n (n + k) d (omega arith) (omega (arith, lt, long)) in
    subst (λ (c : CaseRow). r.line < c.line) (sym (get_or-drop n cases k d)) (omega (arith, first, later))

-- A rule above the others keeps nothing from them.
last_of_more : (xs : List RuleRow) (o : Option RuleRow) (q : RuleRow) → last_or None xs ≡ Some q → last_or o xs ≡ Some q
last_of_more [] o q e = absurd cc
last_of_more (x ∷ xs) o q e = e

one_more : (b : Bool) (r q : RuleRow) (xs : List RuleRow) → last_or None xs ≡ Some q → last_or None (cond b (r ∷ xs) xs) ≡ Some q
one_more true r q xs e = last_of_more xs (Some r) q e
one_more false r q xs e = e

abbrev InGroup : List RuleRow → RuleGroup → Type 0
InGroup rules g = All (λ c. rule_containing rules c ≡ Some g.rule) g.cases

in_group_more : (r : RuleRow) (rules : List RuleRow) (g : RuleGroup) → InGroup rules g → InGroup (r ∷ rules) g
in_group_more r rules g h = grind (arith, common_steps, All-weaker, one_more)

-- The scenarios of the first of rules are in it.
first_group : (r : RuleRow) (rules : List RuleRow) (cs : List CaseRow) → IsNonDecreasingBy (λ (s : RuleRow). s.line) rules → All (λ (c : CaseRow). r.line < c.line) cs →
    All (λ c. rule_containing (r ∷ rules) c ≡ Some r) (cases_before rules cs)
first_group r rules cs rising below k d lt =
    let n = count_before rules cs in
    let within : k < n = omega (arith, lt, length-take n cs) in
    let inside : k < length cs = omega (arith, within, prefix_len-le-length (λ (c : CaseRow). not (begins_above rules c.line)) cs) in
    let c = get_or cs k d in
    let above = subst (λ (x : CaseRow). begins_above rules x.line ≡ false) (get_or-take n cs k d within) (before_above rules cs k d lt) in
    subst (λ (x : CaseRow). rule_containing (r ∷ rules) x ≡ Some r) (sym (get_or-take n cs k d within))
    (ap (λ b. last_or None (cond b (r ∷ filter (λ (s : RuleRow). nat_lt s.line c.line) rules) (filter (λ (s : RuleRow). nat_lt s.line c.line) rules))) (lt-ltb r.line c.line (below k d inside))
    ∙ ap (last_or (Some r)) (above_first rules c.line rising above))

groups_in_rules : (r : RuleRow) (rules : List RuleRow) (cs : List CaseRow) → IsNonDecreasingBy (λ (s : RuleRow). s.line) rules → IsNonDecreasingBy (λ (c : CaseRow). c.line) cs →
    All (λ (c : CaseRow). r.line < c.line) cs → All (InGroup (r ∷ rules)) (groups_by_line (r ∷ rules) cs)
groups_in_rules r [] cs rising order below = grind (arith, common_steps, All-cons, All-nil)
groups_in_rules r (s ∷ rules) cs rising order below =
    let rest = cases_behind (s ∷ rules) cs in
    let n = count_before (s ∷ rules) cs in
    let others = groups_in_rules s rules rest (IsNonDecreasingBy-drop (λ (x : RuleRow). x.line) 1 (s ∷ rules) rising) (IsNonDecreasingBy-drop (λ (c : CaseRow). c.line) n cs order) (behind_below s rules cs order) in
    All-cons (InGroup (r ∷ s ∷ rules)) _ (groups_by_line (s ∷ rules) rest) (first_group r (s ∷ rules) cs rising below)
    (All-weaker (InGroup (s ∷ rules)) (InGroup (r ∷ s ∷ rules)) (in_group_more r (s ∷ rules)) (groups_by_line (s ∷ rules) rest) others)

others_in_rules : (rules : List RuleRow) (cases : List CaseRow) → AreInFileOrder rules cases → All (InGroup rules) (groups_by_line rules (cases_behind rules cases))
others_in_rules [] cases order = All-nil (InGroup [])
others_in_rules (r ∷ rules) cases order =
    groups_in_rules r rules (cases_behind (r ∷ rules) cases) (IsNonDecreasingBy-drop (λ (s : RuleRow). s.line) 1 (r ∷ rules) order.rising_rules)
    (IsNonDecreasingBy-drop (λ (c : CaseRow). c.line) (count_before (r ∷ rules) cases) cases order.rising_cases) (behind_below r rules cases order.rising_cases)

pub scenarios_by_rules : RulesFollowTheirScenarios
scenarios_by_rules = record { each = each_has_one; whole = all_stand; own = own_in_none; others = others_in_rules }
