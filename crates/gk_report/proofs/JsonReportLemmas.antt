-- No value of the report has a float, and what writing one value after another gives.
use Rattle.gk_report.proofs.Common.{◌≡◌, ℕ, Bool, true, false, ◌||◌, not, List, [], ◌∷◌, ◌++◌, length, map, Option, Some, None, codes, refl, ap, sym, ◌∙◌, subst, suc, append_assoc, arith, common_steps, decimal, Log, Logs, map_begins, map_ends, Data, string, object, no_members, member, items_of, items_len, members_len, SendsValue, SendsMembers, has_float, items_have_float, compact_text, items_text, serde_json_on_literals, Reason, Status, StepRow, CaseRow, RuleRow, FeatureRow, Counts, Summary, status_by, printed_cases, number_data, status_data, array_data, reason_and, step_data, case_data, rule_data, rules_data, rules_and, feature_object, counts_data, step_counts_data, summary_data, comma_unless, joined, objects_text, rules_member, object_start, object_end, AddsMembers, undefined_and, counts_data_of, step_members, count_members, tail_of, json_tail}

none_of_both : (a b : Bool) → a ≡ false → b ≡ false → (a || b) ≡ false
none_of_both false b p q = q
none_of_both true b p q = p

step_whole : (s : StepRow) → has_float (step_data s) ≡ false
step_whole s = grind (arith, common_steps)

steps_whole : (ss : List StepRow) → items_have_float (items_of (map step_data ss)) ≡ false
steps_whole [] = refl
steps_whole (s ∷ ss) = none_of_both _ _ (step_whole s) (steps_whole ss)

pub case_whole : (c : CaseRow) → has_float (case_data c) ≡ false
case_whole c = none_of_both _ _ (steps_whole c.steps) refl

each_rule_whole : (rs : List RuleRow) → items_have_float (items_of (map rule_data rs)) ≡ false
each_rule_whole [] = refl
each_rule_whole (r ∷ rs) = each_rule_whole rs

pub rules_data_whole : (rs : List RuleRow) → has_float (rules_data rs) ≡ false
rules_data_whole rs = each_rule_whole rs

pub summary_whole : (s : Summary) → has_float (summary_data s) ≡ false
summary_whole s = refl

-- The length of an array of what a view shows.
pub items_len_by : {A B : Type 0} (f : B → Data) (view : A → B) (xs : List A) → items_len (items_of (map f (map view xs))) ≡ length xs
items_len_by f view [] = refl
items_len_by f view (x ∷ xs) = ap suc (items_len_by f view xs)

step_len : (why : Option Reason) (k l : List ℕ) (d e : Data) → step_members why ≡ suc (suc (members_len (reason_and why (member k d (member l e no_members)))))
step_len None k l d e = refl
step_len (Some r) k l d e = refl

-- A step's object, written member by member.
pub step_sent : (s : StepRow) (old first one two three four five end : Log) (n : ℕ) → n ≡ step_members s.reason → Logs old first (map_begins (Some n)) →
    AddsMembers (member (codes "keyword") (string s.keyword)) first one →
    AddsMembers (member (codes "line") (number_data s.line)) one two →
    AddsMembers (reason_and s.reason) two three →
    AddsMembers (member (codes "status") (status_data s.status)) three four →
    AddsMembers (member (codes "text") (string s.text)) four five →
    Logs five end map_ends → SendsValue (step_data s) old end
step_sent s old first one two three four five end n is begun keyword line reason status text e =
    let last = member (codes "text") (string s.text) no_members in
    let later = member (codes "status") (status_data s.status) last in
    let others = reason_and s.reason later in (
      first,
      subst (λ k. Logs old first (map_begins (Some k))) (is ∙ step_len s.reason (codes "status") (codes "text") (status_data s.status) (string s.text)) begun,
      keyword (member (codes "line") (number_data s.line) others) end (line others end (reason later end (status last end (text no_members end e)))),
    )

-- A scenario's object, written member by member.
pub case_sent : (c : CaseRow) (old first one two three four five six end : Log) → Logs old first (map_begins (Some 6)) →
    AddsMembers (member (codes "around") (status_data c.around)) first one →
    AddsMembers (member (codes "keyword") (string c.keyword)) one two →
    AddsMembers (member (codes "line") (number_data c.line)) two three →
    AddsMembers (member (codes "name") (string c.name)) three four →
    AddsMembers (member (codes "status") (status_data c.status)) four five →
    AddsMembers (member (codes "steps") (array_data (map step_data c.steps))) five six →
    Logs six end map_ends → SendsValue (case_data c) old end
case_sent c old first one two three four five six end begun around keyword line name status steps e =
    let last = member (codes "steps") (array_data (map step_data c.steps)) no_members in
    let fifth = member (codes "status") (status_data c.status) last in
    let fourth = member (codes "name") (string c.name) fifth in
    let third = member (codes "line") (number_data c.line) fourth in
    let second = member (codes "keyword") (string c.keyword) third in
    (first, begun, around second end (keyword third end (line fourth end (name fifth end (status last end (steps no_members end e))))))

-- A rule's object, written member by member.
pub rule_sent : (r : RuleRow) (old first one two end : Log) → Logs old first (map_begins (Some 2)) →
    AddsMembers (member (codes "around") (status_data r.around)) first one →
    AddsMembers (member (codes "line") (number_data r.line)) one two →
    Logs two end map_ends → SendsValue (rule_data r) old end
rule_sent r old first one two end begun around line e = (first, begun, around (member (codes "line") (number_data r.line) no_members) end (line no_members end e))

counts_by : (of_steps : Bool) (c : Counts) (old first end : Log) (n : ℕ) → n ≡ count_members of_steps → Logs old first (map_begins (Some n)) →
    SendsMembers (
    member (codes "failed") (number_data c.failed) (
    member (codes "memory") (number_data c.memory) (
    member (codes "passed") (number_data c.passed) (
    member (codes "skipped") (number_data c.skipped) (
    undefined_and of_steps c.undefined (
    member (codes "untested") (number_data c.untested) no_members)))))) first end →
    SendsValue (counts_data_of of_steps c) old end
counts_by true c old first end n is begun sent = (first, subst (λ k. Logs old first (map_begins (Some k))) is begun, sent)
counts_by false c old first end n is begun sent = (first, subst (λ k. Logs old first (map_begins (Some k))) is begun, sent)

-- An object of counts, of steps or not, written member by member.
pub counts_sent : (of_steps : Bool) (c : Counts) (old first one two three four five six end : Log) (n : ℕ) → n ≡ count_members of_steps → Logs old first (map_begins (Some n)) →
    AddsMembers (member (codes "failed") (number_data c.failed)) first one →
    AddsMembers (member (codes "memory") (number_data c.memory)) one two →
    AddsMembers (member (codes "passed") (number_data c.passed)) two three →
    AddsMembers (member (codes "skipped") (number_data c.skipped)) three four →
    AddsMembers (undefined_and of_steps c.undefined) four five →
    AddsMembers (member (codes "untested") (number_data c.untested)) five six →
    Logs six end map_ends → SendsValue (counts_data_of of_steps c) old end
counts_sent of_steps c old first one two three four five six end n is begun failed memory passed skipped undefined untested e =
    let last = member (codes "untested") (number_data c.untested) no_members in
    let fifth = undefined_and of_steps c.undefined last in
    let fourth = member (codes "skipped") (number_data c.skipped) fifth in
    let third = member (codes "passed") (number_data c.passed) fourth in
    let second = member (codes "memory") (number_data c.memory) third in
    counts_by of_steps c old first end n is begun (failed second end (memory third end (passed fourth end (skipped fifth end (undefined last end (untested no_members end e))))))

-- The object of all counts, written member by member.
pub summary_sent : (s : Summary) (old first one two three end : Log) → Logs old first (map_begins (Some 3)) →
    AddsMembers (member (codes "features") (counts_data_of false s.features)) first one →
    AddsMembers (member (codes "scenarios") (counts_data_of false s.scenarios)) one two →
    AddsMembers (member (codes "steps") (counts_data_of true s.steps)) two three →
    Logs three end map_ends → SendsValue (summary_data s) old end
summary_sent s old first one two three end begun features scenarios steps e =
    let last = member (codes "steps") (step_counts_data s.steps) no_members in
    let second = member (codes "scenarios") (counts_data s.scenarios) last in
    (first, begun, features second end (scenarios last end (steps no_members end e)))

-- What stands after the features, by the texts of its values.
pub tail_from : (around : Status) (s : Summary) (text run counts : List ℕ) (number : ℕ) → text ≡ tail_of run number counts →
    run ≡ compact_text (status_data around) → number ≡ status_by s around → counts ≡ compact_text (summary_data s) → text ≡ json_tail around (status_by s around) s
unfolding tail_of json_tail
tail_from around s text run counts number e a b c = grind (arith, common_steps)

-- Values with commas between them and the closing bracket.
joined_items : (first : Bool) (ds : List Data) → items_text (not first) (items_of ds) ≡ joined first ds ++ 93 ∷ []
joined_items true [] = refl
joined_items false [] = refl
joined_items true (d ∷ ds) = ap (λ xs. compact_text d ++ xs) (joined_items false ds) ∙ sym (append_assoc (compact_text d) (joined false ds) (93 ∷ []))
joined_items false (d ∷ ds) = ap (λ xs. 44 ∷ (compact_text d ++ xs)) (joined_items false ds) ∙ ap (λ xs. 44 ∷ xs) (sym (append_assoc (compact_text d) (joined false ds) (93 ∷ [])))

-- What is pushed before the scenarios.
pub start_written : (comma around line name rules old : List ℕ) {a b c d e f g : List ℕ} → a ≡ old ++ comma → b ≡ a ++ codes "{\"around\":" → c ≡ b ++ around →
    d ≡ c ++ (codes ",\"line\":" ++ (line ++ codes ",\"name\":")) → e ≡ d ++ name → f ≡ e ++ rules → g ≡ f ++ codes ",\"scenarios\":[" →
    g ≡ old ++ (comma ++ codes "{\"around\":" ++ around ++ codes ",\"line\":" ++ line ++ codes ",\"name\":" ++ name ++ rules ++ codes ",\"scenarios\":[")
start_written comma around line name rules old ha hb hc hd he hf hg = rw (hg, hf, he, hd, hc, hb, ha) (simp append_assoc)

-- What is pushed after them.
pub end_written : (source status old : List ℕ) {a b c d e : List ℕ} → a ≡ old ++ codes "],\"source\":" → b ≡ a ++ source → c ≡ b ++ codes ",\"status\":" → d ≡ c ++ status → e ≡ d ++ codes "}" →
    e ≡ old ++ (codes "],\"source\":" ++ source ++ codes ",\"status\":" ++ status ++ codes "}")
end_written source status old ha hb hc hd he = rw (he, hd, hc, hb, ha) (simp append_assoc)

object_of : Bool → FeatureRow → List RuleRow → Data
object_of no_skipped f rules = object (
    member (codes "around") (status_data f.around) (
    member (codes "line") (number_data f.line) (
    member (codes "name") (string f.name) (
    rules_and rules (
    member (codes "scenarios") (array_data (map case_data (printed_cases no_skipped f.cases))) (
    member (codes "source") (string f.source) (
    member (codes "status") (status_data f.status) no_members)))))))

nested : FeatureRow → List ℕ → List ℕ → List ℕ
nested f rules items =
    codes "{\"around\":" ++ (compact_text (status_data f.around) ++ (codes ",\"line\":" ++ (decimal f.line ++ (codes ",\"name\":" ++ (compact_text (string f.name) ++ (rules
    ++ (codes ",\"scenarios\":[" ++ (items ++ (codes ",\"source\":" ++ (compact_text (string f.source) ++ (codes ",\"status\":" ++ (compact_text (status_data f.status) ++ codes "}"))))))))))))

nested_by : (no_skipped : Bool) (f : FeatureRow) (rules : List RuleRow) →
    compact_text (object_of no_skipped f rules) ≡ nested f (rules_member rules) (items_text false (items_of (map case_data (printed_cases no_skipped f.cases))))
unfolding object_of nested serde_json_on_literals
nested_by no_skipped f [] = refl
nested_by no_skipped f (r ∷ rules) = refl

regrouped : (comma around line name rules items source status : List ℕ) →
    comma ++ (codes "{\"around\":" ++ (around ++ (codes ",\"line\":" ++ (line ++ (codes ",\"name\":" ++ (name ++ (rules
    ++ (codes ",\"scenarios\":[" ++ ((items ++ 93 ∷ []) ++ (codes ",\"source\":" ++ (source ++ (codes ",\"status\":" ++ (status ++ codes "}")))))))))))))
    ≡ (comma ++ codes "{\"around\":" ++ around ++ codes ",\"line\":" ++ line ++ codes ",\"name\":" ++ name ++ rules ++ codes ",\"scenarios\":[")
    ++ (items ++ (codes "],\"source\":" ++ source ++ codes ",\"status\":" ++ status ++ codes "}"))
regrouped comma around line name rules items source status = simp append_assoc

-- The object of a feature is what stands before its scenarios, their objects, and what stands after them.
pub object_parts : (no_skipped first : Bool) (f : FeatureRow) → feature_object no_skipped first f ≡ object_start first f ++ (objects_text no_skipped true f.cases ++ object_end f)
unfolding object_of nested object_start object_end
object_parts no_skipped first f =
    let ds = map case_data (printed_cases no_skipped f.cases) in
    ap (λ xs. comma_unless first ++ xs) (nested_by no_skipped f f.rules ∙ ap (nested f (rules_member f.rules)) (joined_items true ds))
    ∙ regrouped (comma_unless first) (compact_text (status_data f.around)) (decimal f.line) (compact_text (string f.name)) (rules_member f.rules) (joined true ds) (compact_text (string f.source)) (compact_text (status_data f.status))
