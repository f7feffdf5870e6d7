-- The lines of the rules and the cases of a feature that the grammar reads rise.
use Rattle.gk_select.proofs.Common.{ℕ, suc, ◌+◌, ◌≤◌, List, [], ◌∷◌, map, flat_map, sym, subst, arith, inl, inr, cases_Bool, enumerate_from, lines, Class, LineValue, Lines, lines_of, without_mark, RowValue, ExamplesValue, ScenarioValue, RuleValue, FeatureValue, ContainerValue, rule_container, feature_container, IsIgnored, IsIgnoredAbove, Many, none, more, AreExamples, IsScenario, IsContainer, IsRule, IsFeature, RuleHeading, FeatureHeading, CaseValue, InheritedValue, inherited_in_feature, inherited_in_rule, is_outline, row_case, examples_cases, scenario_cases, rule_cases, cases, case_lines, rule_lines, feature_lines, IsInFileOrder, CasesAreInFileOrder}
use Rattle.gk_select.proofs.RisingLines.{Between, between_ends, between_less, between_append, between_map, between_rises, between_increases, Rise, numbered_rise, describes_rise, steps_rise, background_rise, heading_rise, Ends, ends_less, ends_append, no_ends, row_line, examples_end}

abbrev case_line : CaseValue → ℕ
case_line c = c.line

abbrev rule_line : RuleValue → ℕ
rule_line r = r.line

-- The cases of rows have their lines.
rows_between : (i : InheritedValue) (s : ScenarioValue) (e : ℕ) (examples : ExamplesValue) (k n m : ℕ) (rows : List RowValue) → Between row_line n rows m
    → Between case_line n (map (λ (r : ℕ × RowValue). row_case i s e examples r.0 r.1) (enumerate_from k rows)) m
rows_between i s e examples k n m [] b = b
rows_between i s e examples k n m (row ∷ rows) b = (b.0, rows_between i s e examples (k + 1) (suc row.line) m rows b.1)

all_examples_end : (i : InheritedValue) (s : ScenarioValue) (k n : ℕ) {ls rest : Lines} {examples : List ExamplesValue} → Many AreExamples ls examples rest → Rise n ls
    → Ends case_line n (flat_map (examples_cases i s) (enumerate_from k examples)) rest
all_examples_end i s k n (none {ls = ls}) r = no_ends case_line n ls r
all_examples_end i s k n (more {ls = ls} {mid = mid} {rest = rest} {x = e} {xs = es} first behind) r =
    let rows = examples_end n ls e mid first r in
    let own : Ends case_line n (examples_cases i s (k, e)) mid = record { end = rows.end; between = rows_between i s k e 1 n rows.end e.rows rows.between; after = rows.after } in
    ends_append case_line n (examples_cases i s (k, e)) (flat_map (examples_cases i s) (enumerate_from (k + 1) es)) mid rest own (all_examples_end i s (k + 1) rows.end behind rows.after)

scenario_end : (i : InheritedValue) (n : ℕ) (ls : Lines) (s : ScenarioValue) (rest : Lines) → IsScenario ls s rest → Rise n ls → Ends case_line n (scenario_cases i s) rest
scenario_end i n ls s rest is r =
    let head = heading_rise IsIgnored _ n ls s.tags is.line is.after_heading is.heading r in
    let below = steps_rise (suc is.line.line) is.after_description s.steps is.after_steps is.steps (describes_rise (suc is.line.line) is.description head.1) in
    let rows = all_examples_end i s 1 (suc is.line.line) is.examples below in
    let ended = between_ends case_line (suc is.line.line) rows.end _ rows.between in
    elim (cases_Bool (is_outline s)) [
      | inl t ↦ rw t (ends_less case_line n (suc is.line.line) _ rest (omega (arith, head.0)) rows)
      | inr f ↦ rw f (record { end = rows.end; between = (omega (arith, head.0, is.number), omega (arith, ended, is.number)); after = rows.after })
    ]

scenarios_end : (i : InheritedValue) (n : ℕ) {ls rest : Lines} {scenarios : List ScenarioValue} → Many IsScenario ls scenarios rest → Rise n ls → Ends case_line n (flat_map (scenario_cases i) scenarios) rest
scenarios_end i n (none {ls = ls}) r = no_ends case_line n ls r
scenarios_end i n (more {ls = ls} {mid = mid} {rest = rest} {x = s} {xs = ss} first behind) r =
    let own = scenario_end i n ls s mid first r in
    ends_append case_line n (scenario_cases i s) (flat_map (scenario_cases i) ss) mid rest own (scenarios_end i own.end behind own.after)

container_end : (Ignored : LineValue → Type 0) (kind : Class) (i : InheritedValue) (n : ℕ) (ls : Lines) (c : ContainerValue) (rest : Lines) → IsContainer Ignored kind ls c rest → Rise n ls
    → (n ≤ c.line) × Ends case_line (suc c.line) (flat_map (scenario_cases i) c.scenarios) rest
container_end Ignored kind i n ls c rest is r =
    let head = heading_rise Ignored kind n ls c.tags is.line is.after_heading is.heading r in
    let start = suc is.line.line in
    let below = background_rise start is.after_description c.background is.after_background is.background (describes_rise start is.description head.1) in
    let own = scenarios_end i start is.scenarios below in
    (omega (arith, head.0, is.number), subst (λ (k : ℕ). Ends case_line (suc k) (flat_map (scenario_cases i) c.scenarios) rest) (sym is.number) own)

-- The lines of rules, those of their cases and both together rise from n on.
record RulesEnd (f : FeatureValue) (k n : ℕ) (rules : List RuleValue) : Type 0 where
  end : ℕ
  heads : Between rule_line n rules end
  members : Between case_line n (flat_map (rule_cases f) (enumerate_from k rules)) end
  together : Between (λ (x : ℕ). x) n (flat_map (rule_lines f) (enumerate_from k rules)) end

rules_end : (f : FeatureValue) (k n : ℕ) {ls rest : Lines} {rules : List RuleValue} → Many IsRule ls rules rest → Rise n ls → RulesEnd f k n rules
rules_end f k n none r = record { end = n; heads = omega arith; members = omega arith; together = omega arith }
rules_end f k n (more {ls = ls} {mid = mid} {x = rule} {xs = rules} first behind) r =
    let found = container_end IsIgnored RuleHeading (inherited_in_rule f k rule) n ls (rule_container rule) mid first r in
    let own = found.1 in
    let others = rules_end f (k + 1) own.end behind own.after in
    let here = rule_cases f (k, rule) in
    let start = suc rule.line in
    record {
      end = others.end;
      heads = (found.0, between_less rule_line start own.end others.end rules (between_ends case_line start own.end here own.between) others.heads);
      members = between_append case_line n own.end others.end here (flat_map (rule_cases f) (enumerate_from (k + 1) rules)) (between_less case_line n start own.end here (omega (arith, found.0)) own.between) others.members;
      together = (found.0, between_append (λ (x : ℕ). x) start own.end others.end (case_lines here) (flat_map (rule_lines f) (enumerate_from (k + 1) rules)) (between_map case_line start own.end here own.between) others.together);
    }

feature_in_order : (n : ℕ) (ls : Lines) (f : FeatureValue) (rest : Lines) → IsFeature ls f rest → Rise n ls → IsInFileOrder f
unfolding cases
feature_in_order n ls f rest is r =
    let found = container_end IsIgnoredAbove FeatureHeading (inherited_in_feature f) n ls (feature_container f) is.after_scenarios is.container r in
    let own = found.1 in
    let others = rules_end f 0 own.end is.rules own.after in
    let here = flat_map (scenario_cases (inherited_in_feature f)) f.scenarios in
    let start = suc f.line in
    record {
      rising_rules = between_rises rule_line own.end others.end f.rules others.heads;
      rising_cases = between_rises case_line start others.end _ (between_append case_line start own.end others.end here (flat_map (rule_cases f) (enumerate_from 0 f.rules)) own.between others.members);
      rising = between_increases n others.end (feature_lines f) (found.0, between_append (λ (x : ℕ). x) start own.end others.end (case_lines here) (flat_map (rule_lines f) (enumerate_from 0 f.rules)) (between_map case_line start own.end here own.between) others.together);
    }

pub in_file_order : CasesAreInFileOrder
in_file_order bytes f reads = feature_in_order 1 (lines_of bytes) f reads.0 reads.1 (numbered_rise 1 (lines (without_mark bytes)))
