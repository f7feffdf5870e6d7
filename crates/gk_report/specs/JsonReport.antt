-- The JSON format: compact text, with the keys of each object in byte order.
use Rattle.std.specs.Prelude.{ℕ, Bool, false, cond, not, List, [], ◌∷◌, ◌++◌, length, map, filter, Option, Some, None, Result, OnOk, codes}
use Rattle.std.specs.Fmt.{decimal}
use Rattle.serde.specs.Event.{Log}
use Rattle.serde_json.specs.Data.{Data, number, unsigned, string, array, object, Members, no_members, member}
use Rattle.serde_json.specs.Events.{SendsMembers, SendsValue}
use Rattle.serde_json.specs.View.{items_of}
use Rattle.serde_json.specs.Written.{compact_text}
use Rattle.gk_run.specs.declared.results.Status.{Status}
use Rattle.gk_run.specs.declared.results.Reason.{Reason}
use Rattle.gk_run.specs.Results.{StepRow, CaseRow, RuleRow, FeatureRow, case_row}
use Rattle.gk_report.specs.declared.json_report.ObjectsLeft.{ObjectsLeft}
use Rattle.gk_report.specs.declared.summary.Counts.{Counts}
use Rattle.gk_report.specs.declared.summary.Summary.{Summary}
use Rattle.gk_report.specs.ReportTexts.{status_text, reason_text, line_feed, is_hidden, printed_cases}

-- A number.
abbrev pub number_data : ℕ → Data
number_data n = number (unsigned n)

-- A status as a string.
abbrev pub status_data : Status → Data
status_data status = string (status_text status)

-- An array of values.
abbrev pub array_data : List Data → Data
array_data values = array (items_of values)

-- The members of a step after its line: the reason if the step failed, then these.
abbrev pub reason_and : Option Reason → Members → Members
reason_and None members = members
reason_and (Some why) members = member (codes "reason") (string (reason_text why)) members

-- A step's object.
abbrev pub step_data : StepRow → Data
step_data s = object (
    member (codes "keyword") (string s.keyword) (
    member (codes "line") (number_data s.line) (
    reason_and s.reason (
    member (codes "status") (status_data s.status) (
    member (codes "text") (string s.text) no_members)))))

-- A scenario's object.
abbrev pub case_data : CaseRow → Data
case_data c = object (
    member (codes "around") (status_data c.around) (
    member (codes "keyword") (string c.keyword) (
    member (codes "line") (number_data c.line) (
    member (codes "name") (string c.name) (
    member (codes "status") (status_data c.status) (
    member (codes "steps") (array_data (map step_data c.steps)) no_members))))))

-- A rule's object.
abbrev pub rule_data : RuleRow → Data
rule_data r = object (member (codes "around") (status_data r.around) (member (codes "line") (number_data r.line) no_members))

-- The rules of a feature as an array.
abbrev pub rules_data : List RuleRow → Data
rules_data rules = array_data (map rule_data rules)

-- The members of a feature after its name: its rules if it has any, then these.
abbrev pub rules_and : List RuleRow → Members → Members
rules_and [] members = members
rules_and (r ∷ rules) members = member (codes "rules") (rules_data (r ∷ rules)) members

-- A feature's object, with its printed scenarios.
abbrev pub feature_data : Bool → FeatureRow → Data
feature_data no_skipped f = object (
    member (codes "around") (status_data f.around) (
    member (codes "line") (number_data f.line) (
    member (codes "name") (string f.name) (
    rules_and f.rules (
    member (codes "scenarios") (array_data (map case_data (printed_cases no_skipped f.cases))) (
    member (codes "source") (string f.source) (
    member (codes "status") (status_data f.status) no_members)))))))

-- The object of counts without undefined ones. Features and scenarios have none.
abbrev pub counts_data : Counts → Data
counts_data c = object (
    member (codes "failed") (number_data c.failed) (
    member (codes "memory") (number_data c.memory) (
    member (codes "passed") (number_data c.passed) (
    member (codes "skipped") (number_data c.skipped) (
    member (codes "untested") (number_data c.untested) no_members)))))

-- The object of the steps' counts.
abbrev pub step_counts_data : Counts → Data
step_counts_data c = object (
    member (codes "failed") (number_data c.failed) (
    member (codes "memory") (number_data c.memory) (
    member (codes "passed") (number_data c.passed) (
    member (codes "skipped") (number_data c.skipped) (
    member (codes "undefined") (number_data c.undefined) (
    member (codes "untested") (number_data c.untested) no_members))))))

-- The object of all counts.
abbrev pub summary_data : Summary → Data
summary_data s = object (
    member (codes "features") (counts_data s.features) (
    member (codes "scenarios") (counts_data s.scenarios) (
    member (codes "steps") (step_counts_data s.steps) no_members)))

-- The features that are printed. (behave's documentation: `--no-skipped`)
abbrev pub printed_features : Bool → List FeatureRow → List FeatureRow
printed_features no_skipped rows = filter (λ f. not (is_hidden no_skipped f.status)) rows

-- The report as one document: its printed features, how the run's own hooks and cleanups ended, the status that the run ends with, and the counts.
abbrev pub document : Bool → List FeatureRow → Status → ℕ → Summary → Data
document no_skipped rows around status summary = object (
    member (codes "features") (array_data (map (feature_data no_skipped) (printed_features no_skipped rows))) (
    member (codes "run") (status_data around) (
    member (codes "status") (number_data status) (
    member (codes "summary") (summary_data summary) no_members))))

-- The text before the features.
unfoldable pub json_head : List ℕ
json_head = codes "{\"features\":["

-- The object of a feature, after a comma unless it is the first that is printed.
abbrev pub feature_object : Bool → Bool → FeatureRow → List ℕ
feature_object no_skipped first f = cond first [] (codes ",") ++ compact_text (feature_data no_skipped f)

-- The part of a feature: its object, or nothing if it is hidden.
unfoldable pub json_part : Bool → Bool → FeatureRow → List ℕ
json_part no_skipped first f = cond (is_hidden no_skipped f.status) [] (feature_object no_skipped first f)

-- The text after the features.
unfoldable pub json_tail : Status → ℕ → Summary → List ℕ
json_tail around status summary =
    codes "],\"run\":" ++ compact_text (status_data around) ++ codes ",\"status\":" ++ compact_text (number_data status)
    ++ codes ",\"summary\":" ++ compact_text (summary_data summary) ++ codes "}" ++ line_feed

-- A comma, unless nothing comes before it.
abbrev pub comma_unless : Bool → List ℕ
comma_unless first = cond first [] (codes ",")

-- Values, each after a comma. The first has no comma if `first` is true.
abbrev pub joined : Bool → List Data → List ℕ
joined first [] = []
joined first (d ∷ ds) = comma_unless first ++ compact_text d ++ joined false ds

-- The objects of the scenarios that are printed.
abbrev pub objects_text : Bool → Bool → List CaseRow → List ℕ
objects_text no_skipped first cases = joined first (map case_data (printed_cases no_skipped cases))

-- The objects that are left.
abbrev pub objects_left : Bool → ObjectsLeft → List ℕ
objects_left no_skipped left = objects_text no_skipped left.first (map case_row left.cases.now)

-- Proof machinery: the number of scenarios that follow.
abbrev pub objects_to_go : ObjectsLeft → ℕ
objects_to_go left = length left.cases.now

-- Proof machinery: the member with the rules of a feature, after a comma; empty if it has no rules.
abbrev pub rules_member : List RuleRow → List ℕ
rules_member [] = []
rules_member (r ∷ rules) = codes ",\"rules\":" ++ compact_text (rules_data (r ∷ rules))

-- Proof machinery: the text before the scenarios in the object of a feature.
unfoldable pub object_start : Bool → FeatureRow → List ℕ
object_start first f =
    comma_unless first ++ codes "{\"around\":" ++ compact_text (status_data f.around) ++ codes ",\"line\":" ++ decimal f.line ++ codes ",\"name\":" ++ compact_text (string f.name)
    ++ rules_member f.rules ++ codes ",\"scenarios\":["

-- The text after the scenarios in the object of a feature.
unfoldable pub object_end : FeatureRow → List ℕ
object_end f = codes "],\"source\":" ++ compact_text (string f.source) ++ codes ",\"status\":" ++ compact_text (status_data f.status) ++ codes "}"

-- Proof machinery from here on: writing an object member by member. Members that complete the object after the new events complete it after the old ones if the added members come before them.
abbrev pub AddsMembers : (Members → Members) → Log → Log → Type 0
AddsMembers add old new = (rest : Members) (end : Log) → SendsMembers rest new end → SendsMembers (add rest) old end

-- If a call succeeds, it writes these members.
abbrev pub WritesMembers : {W T E : Type 0} → (W → Log) → W → (Members → Members) → Result T E → W → Type 0
WritesMembers written old add result new = OnOk result (AddsMembers add (written old) (written new))

-- If a call succeeds, it writes this value.
abbrev pub WritesValue : {W T E : Type 0} → (W → Log) → W → Data → Result T E → W → Type 0
WritesValue written old value result new = OnOk result (SendsValue value (written old) (written new))

-- The number of members of a step's object.
abbrev pub step_members : Option Reason → ℕ
step_members None = 4
step_members (Some why) = 5

-- The number of members of an object of counts.
abbrev pub count_members : Bool → ℕ
count_members of_steps = cond of_steps 6 5

-- The member with the undefined ones, for counts of steps only, then these members.
abbrev pub undefined_and : Bool → ℕ → Members → Members
undefined_and of_steps n members = cond of_steps (member (codes "undefined") (number_data n) members) members

-- The object of counts: with undefined ones for steps, otherwise without them.
abbrev pub counts_data_of : Bool → Counts → Data
counts_data_of of_steps c = cond of_steps (step_counts_data c) (counts_data c)

-- The text after the features, from the texts of its values.
unfoldable pub tail_of : List ℕ → ℕ → List ℕ → List ℕ
tail_of run status counts = codes "],\"run\":" ++ run ++ codes ",\"status\":" ++ decimal status ++ codes ",\"summary\":" ++ counts ++ codes "}" ++ line_feed
