-- The results of a feature stand in file order.
use Rattle.gk_run.proofs.Common.{Bool, List, [], ap, cond, false, map, refl, suc, true, ℕ, ◌&&◌, ◌++◌, ◌∙◌, ◌∷◌, ◌≡◌, arith, common_steps, State, all_stay_open, case_of, cases_of, first_or, without_first, stays_open, reached_row, unreached_row, unselected_row, HeadValue, MemberValue, has_selected, Group, groups_from, members_of_groups, own_members, rule_groups, ResultsStandInFileOrder, RuleCuts, rule_of, rule_stays_open, rules_of, uncut_rule, result_of, happened_in, section_state, Run, CaseRow, RuleRow, Cut, before_passed, nowhere}
use Rattle.gk_run.specs.declared.section.Level.TheVariants as levels
use Rattle.gk_run.proofs.GroupingLemmas.{groups_all}

-- the lines of cases
abbrev lines_in : List MemberValue → List ℕ
lines_in ms = map (λ (m : MemberValue). m.scenario.line) ms

-- the lines of their results
abbrev lines_messages : List CaseRow → List ℕ
lines_messages rows = map (λ (row : CaseRow). row.line) rows

either_line : (b : Bool) (x y : CaseRow) (line : ℕ) → x.line ≡ line → y.line ≡ line → (let row = cond b x y in row.line) ≡ line
either_line true x y line this that = this
either_line false x y line this that = that

case_line : (run : Run) (section : State) (is_open : Bool) (cut : Cut) (m : MemberValue) → (let row = case_of run section is_open cut m in row.line) ≡ m.scenario.line
case_line run section is_open cut m =
    let c = m.scenario in
    let reached = reached_row run section cut c in
    either_line m.selected (cond is_open reached (unreached_row c)) (unselected_row c) c.line (either_line is_open reached (unreached_row c) c.line refl refl) refl

case_lines : (run : Run) (section : State) (is_open : Bool) (cuts : List Cut) (ms : List MemberValue) → lines_messages (result_of (cases_of 0 run section is_open cuts ms)) ≡ lines_in ms
case_lines run section is_open cuts [] = refl
case_lines run section is_open cuts (m ∷ ms) =
    let row = case_of run section is_open (first_or nowhere cuts) m in
    let opens = is_open && stays_open run row.status in
    ap (λ (line : ℕ). line ∷ lines_messages (result_of (cases_of 0 run section opens (without_first cuts) ms))) (case_line run section is_open (first_or nowhere cuts) m)
    ∙ ap (λ (lines : List ℕ). m.scenario.line ∷ lines) (case_lines run section opens (without_first cuts) ms)

-- the lines of cases that come one after another
lines_joined : (rows more : List CaseRow) (ms others : List MemberValue) → lines_messages rows ≡ lines_in ms → lines_messages more ≡ lines_in others → lines_messages (rows ++ more) ≡ lines_in (ms ++ others)
lines_joined rows more ms others these those = grind (arith, common_steps)

lines_in_rules : (run : Run) (outside : State) (is_open : Bool) (cuts : List RuleCuts) (gs : List Group) → (let inside = result_of (rules_of 0 run outside is_open cuts gs) in lines_messages inside.cases) ≡ lines_in (members_of_groups gs)
lines_in_rules run outside is_open cuts [] = refl
lines_in_rules run outside is_open cuts (g ∷ gs) =
    let these = first_or uncut_rule cuts in
    let is_begun = is_open && has_selected g.members in
    let end = result_of (rule_of 0 run outside is_open these g) in
    let next = result_of (rules_of 0 run outside (is_open && rule_stays_open run end) (without_first cuts) gs) in
    lines_joined end.inside next.cases g.members (members_of_groups gs)
    (case_lines run (section_state run levels.Rule g.head.tags outside) (is_begun && before_passed (happened_in run levels.Rule g.head.tags outside is_begun these.own)) these.cases g.members)
    (lines_in_rules run outside (is_open && rule_stays_open run end) (without_first cuts) gs)

rule_lines : (run : Run) (outside : State) (is_open : Bool) (cuts : List RuleCuts) (gs : List Group) →
    (let inside = result_of (rules_of 0 run outside is_open cuts gs) in map (λ (rule : RuleRow). rule.line) inside.rules) ≡ map (λ (g : Group). g.head.line) gs
rule_lines run outside is_open cuts [] = refl
rule_lines run outside is_open cuts (g ∷ gs) =
    let end = result_of (rule_of 0 run outside is_open (first_or uncut_rule cuts) g) in
    ap (λ (lines : List ℕ). g.head.line ∷ lines) (rule_lines run outside (is_open && rule_stays_open run end) (without_first cuts) gs)

head_lines : (r : ℕ) (heads : List HeadValue) (ms : List MemberValue) → map (λ (g : Group). g.head.line) (groups_from r heads ms) ≡ map (λ (head : HeadValue). head.line) heads
head_lines r [] ms = refl
head_lines r (head ∷ heads) ms = ap (λ (lines : List ℕ). head.line ∷ lines) (head_lines (suc r) heads ms)

pub in_file_order : ResultsStandInFileOrder
in_file_order run outside is_open cuts f falls =
    let is_begun = is_open && has_selected f.members in
    let section = section_state run levels.Feature f.tags outside in
    let is_ready = is_begun && before_passed (happened_in run levels.Feature f.tags outside is_begun cuts.own) in
    let rows = result_of (cases_of 0 run section is_ready cuts.cases (own_members f)) in
    let opens = is_ready && all_stay_open run rows in
    let inside = result_of (rules_of 0 run section opens cuts.rules (rule_groups f)) in
    record {
      rules = rule_lines run section opens cuts.rules (rule_groups f) ∙ head_lines 1 f.rules f.members;
      cases = lines_joined rows inside.cases (own_members f) (members_of_groups (rule_groups f)) (case_lines run section is_ready cuts.cases (own_members f)) (lines_in_rules run section opens cuts.rules (rule_groups f)) ∙ ap lines_in (groups_all f falls);
    }
