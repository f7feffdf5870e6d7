-- A part's lines are a list of its own: the relation speaks of a prefix, whatever follows it.
use Rattle.gk_gherkin.proofs.Common.{◌≡◌, ◌↔◌, ℕ, List, [], ◌∷◌, ◌++◌, Option, Some, None, refl, ap, sym, subst, ◌∙◌, append_assoc, inl, inr, append-nil, Class, FeatureHeading, RuleHeading, BackgroundHeading, ScenarioHeading, ExamplesHeading, LineValue, Lines, BlockValue, Empty, Text, Table, StepValue, RowValue, ExamplesValue, BackgroundValue, ScenarioValue, RuleValue, FeatureValue, ContainerValue, rule_container, feature_container, HookValue, IsHook, IsIgnored, IsIgnoredAbove, Skips, skip_none, skip, Next, Many, none, more, Perhaps, IsTagLine, AreTags, untagged, tagged, IsHeading, IsTaggedHeading, MayDescribeFeature, MayDescribeScenario, MayDescribeExamples, IsRow, IsTable, IsDocString, IsBlock, HasTable, AreExamples, Describes, described, describe, IsStep, AreSteps, IsBackground, IsScenario, IsContainer, IsRule, IsFeature, IsConcatenation}

-- P holds of a prefix of ls, up to rest, and of that prefix before anything else.
record Fronts (P : Lines → Lines → Type 0) (ls rest : Lines) : Type 0 where
  prefix : Lines
  whole : ls ≡ prefix ++ rest
  again : (other : Lines) → P (prefix ++ other) other

then : (P Q R : Lines → Lines → Type 0) (ls mid rest : Lines) → ((a b c : Lines) → P a b → Q b c → R a c) → Fronts P ls mid → Fronts Q mid rest → Fronts R ls rest
then P Q R ls mid rest join p q = record {
  prefix = p.prefix ++ q.prefix;
  whole = p.whole ∙ ap (λ (m : Lines). p.prefix ++ m) q.whole ∙ sym (append_assoc p.prefix q.prefix rest);
  again = λ other. join ((p.prefix ++ q.prefix) ++ other) (q.prefix ++ other) other (subst (λ m. P m (q.prefix ++ other)) (sym (append_assoc p.prefix q.prefix other)) (p.again (q.prefix ++ other))) (q.again other);
}

same : (P Q : Lines → Lines → Type 0) (ls rest : Lines) → ((a b : Lines) → P a b → Q a b) → Fronts P ls rest → Fronts Q ls rest
same P Q ls rest f p = record { prefix = p.prefix; whole = p.whole; again = λ other. f (p.prefix ++ other) other (p.again other) }

-- one relation after another
abbrev Behind : (Lines → Lines → Type 0) → (Lines → Lines → Type 0) → Lines → Lines → Type 0
Behind P Q a c = (b : Lines) × P a b × Q b c

both : (P Q : Lines → Lines → Type 0) (ls mid rest : Lines) → Fronts P ls mid → Fronts Q mid rest → Fronts (Behind P Q) ls rest
both P Q ls mid rest p q = then P Q (Behind P Q) ls mid rest (λ a b c p q. (b, p, q)) p q

nothing : (ls rest : Lines) → ls ≡ rest → Fronts (λ a b. a ≡ b) ls rest
nothing ls rest e = record { prefix = []; whole = e; again = λ other. refl }

-- the lines up to and with a next line
next_prefix : {Ignored : LineValue → Type 0} (l : LineValue) (rest : Lines) {ls k : Lines} → Skips Ignored ls k → k ≡ l ∷ rest → Fronts (λ a b. Next Ignored a l b) ls rest
next_prefix l rest skip_none e = record { prefix = l ∷ []; whole = e; again = λ other. skip_none }
next_prefix l rest (skip {l = x} n s) e =
    let r = next_prefix l rest s e in
    record { prefix = x ∷ r.prefix; whole = ap (λ (ls : Lines). x ∷ ls) r.whole; again = λ other. skip n (r.again other) }

many_prefix : {A : Type 0} (P : Lines → A → Lines → Type 0) {ls rest : Lines} {xs : List A} → ((a : Lines) (x : A) (b : Lines) → P a x b → Fronts (λ a b. P a x b) a b) → Many P ls xs rest → Fronts (λ a b. Many P a xs b) ls rest
many_prefix P each (none {ls = ls}) = record { prefix = []; whole = refl; again = λ other. none }
many_prefix P each (more {ls = ls} {mid = mid} {rest = rest} {x = x} {xs = xs} p many) =
    then (λ a b. P a x b) (λ a b. Many P a xs b) (λ a b. Many P a (x ∷ xs) b) ls mid rest (λ a b c p q. more p q) (each ls x mid p) (many_prefix P each many)

tags_prefix : {Ignored : LineValue → Type 0} {ls rest : Lines} {tags : List (List ℕ)} → AreTags Ignored ls tags rest → Fronts (λ a b. AreTags Ignored a tags b) ls rest
tags_prefix untagged = record { prefix = []; whole = refl; again = λ other. untagged }
tags_prefix {Ignored} (tagged {ls = ls} {mid = mid} {rest = rest} {some = some} {others = others} first behind) =
    then (λ a b. IsTagLine Ignored a some b) (λ a b. AreTags Ignored a others b) (λ a b. AreTags Ignored a (some ++ others) b) ls mid rest (λ a b c p q. tagged p q)
    (same (λ a b. Next Ignored a first.line b) (λ a b. IsTagLine Ignored a some b) ls mid (λ a b p. record { line = first.line; next = p; is = first.is; words = first.words }) (next_prefix first.line mid first.next refl))
    (tags_prefix behind)

describes_prefix : {May : Class → Type 0} {ls rest : Lines} → Describes May ls rest → Fronts (Describes May) ls rest
describes_prefix described = record { prefix = []; whole = refl; again = λ other. described }
describes_prefix {May} (describe {l = l} {ls = ls} {mid = mid} {rest = rest} n may d) =
    then (λ a b. Next IsIgnored a l b) (Describes May) (Describes May) ls mid rest (λ a b c p q. describe p may q) (next_prefix l mid n refl) (describes_prefix d)

perhaps_prefix : {A : Type 0} (P : Lines → A → Lines → Type 0) (ls rest : Lines) (x : Option A) → ((a : Lines) (x : A) (b : Lines) → P a x b → Fronts (λ a b. P a x b) a b) → Perhaps P ls x rest → Fronts (λ a b. Perhaps P a x b) ls rest
perhaps_prefix P ls rest None each e = nothing ls rest e
perhaps_prefix P ls rest (Some x) each p = each ls x rest p

heading_prefix : (Ignored : LineValue → Type 0) (kind : Class) (ls : Lines) (l : LineValue) (rest : Lines) → IsHeading Ignored kind ls l rest → Fronts (λ a b. IsHeading Ignored kind a l b) ls rest
heading_prefix Ignored kind ls l rest i =
    same (λ a b. Next Ignored a l b) (λ a b. IsHeading Ignored kind a l b) ls rest (λ a b p. record { next = p; is = i.is }) (next_prefix l rest i.next refl)

tagged_prefix : (Ignored : LineValue → Type 0) (kind : Class) (ls : Lines) (tags : List (List ℕ)) (l : LineValue) (rest : Lines) → IsTaggedHeading Ignored kind ls tags l rest → Fronts (λ a b. IsTaggedHeading Ignored kind a tags l b) ls rest
tagged_prefix Ignored kind ls tags l rest i =
    then (λ a b. AreTags Ignored a tags b) (λ a b. IsHeading Ignored kind a l b) (λ a b. IsTaggedHeading Ignored kind a tags l b) ls i.after_tags rest (λ a b c p q. record { after_tags = b; above = p; heading = q })
    (tags_prefix i.above) (heading_prefix Ignored kind i.after_tags l rest i.heading)

row_prefix : (ls : Lines) (row : RowValue) (rest : Lines) → IsRow ls row rest → Fronts (λ a b. IsRow a row b) ls rest
row_prefix ls row rest i =
    same (λ a b. Next IsIgnored a i.line b) (λ a b. IsRow a row b) ls rest (λ a b p. record { line = i.line; next = p; is = i.is; number = i.number; cells = i.cells }) (next_prefix i.line rest i.next refl)

table_prefix : (ls : Lines) (rows : List RowValue) (rest : Lines) → IsTable ls rows rest → Fronts (λ a b. IsTable a rows b) ls rest
table_prefix ls rows rest i =
    same (λ a b. Many IsRow a rows b) (λ a b. IsTable a rows b) ls rest (λ a b p. record { lines = p; width = i.width }) (many_prefix IsRow row_prefix i.lines)

-- a doc string's own lines: its opening fence, its content, its closing fence
doc_string_prefix : (ls : Lines) (text : List ℕ) (rest : Lines) → IsDocString ls text rest → Fronts (λ a b. IsDocString a text b) ls rest
doc_string_prefix ls text rest i =
    let n = next_prefix i.opening (i.content ++ i.closing ∷ rest) i.next refl in
    let own = i.content ++ i.closing ∷ [] in
    let behind : (other : Lines) → own ++ other ≡ i.content ++ i.closing ∷ other = λ other. append_assoc i.content (i.closing ∷ []) other in
    record {
      prefix = n.prefix ++ own;
      whole = n.whole ∙ ap (λ (m : Lines). n.prefix ++ m) (sym (behind rest)) ∙ sym (append_assoc n.prefix own rest);
      again = λ other. record {
        fence = i.fence;
        opening = i.opening;
        content = i.content;
        closing = i.closing;
        next = subst (λ (ls : Lines). Next IsIgnored ls i.opening (i.content ++ i.closing ∷ other)) (ap (λ (m : Lines). n.prefix ++ m) (sym (behind other)) ∙ sym (append_assoc n.prefix own other)) (n.again (i.content ++ i.closing ∷ other));
        is = i.is;
        inside = i.inside;
        closed = i.closed;
        says = i.says;
      };
    }

block_prefix : (ls : Lines) (block : BlockValue) (rest : Lines) → IsBlock ls block rest → Fronts (λ a b. IsBlock a block b) ls rest
block_prefix ls Empty rest i = nothing ls rest i
block_prefix ls (Text text) rest i = doc_string_prefix ls text rest i
block_prefix ls (Table cells) rest i = same (λ a b. IsTable a i.0 b) (λ a b. IsBlock a (Table cells) b) ls rest (λ a b p. (i.0, p, i.2)) (table_prefix ls i.0 rest i.1)

step_prefix : (ls : Lines) (st : StepValue) (rest : Lines) → IsStep ls st rest → Fronts (λ a b. IsStep a st b) ls rest
step_prefix ls st rest i =
    let l = i.line in
    then (λ a b. Next IsIgnored a l.line b) (λ a b. IsBlock a st.block b) (λ a b. IsStep a st b) ls i.after_line rest
    (λ a b c p q. record { after_line = b; line = record { line = l.line; next = p; is = l.is; keyword = l.keyword; text = l.text; number = l.number }; block = q })
    (next_prefix l.line i.after_line l.next refl) (block_prefix i.after_line st.block rest i.block)

steps_prefix : (ls : Lines) (sts : List StepValue) (rest : Lines) → AreSteps ls sts rest → Fronts (λ a b. AreSteps a sts b) ls rest
steps_prefix ls sts rest i =
    same (λ a b. Many IsStep a sts b) (λ a b. AreSteps a sts b) ls rest (λ a b p. record { parts = p; types = i.types }) (many_prefix IsStep step_prefix i.parts)

hook_prefix : (ls : Lines) (x : HookValue) (rest : Lines) → IsHook ls x rest → Fronts (λ a b. IsHook a x b) ls rest
hook_prefix ls x rest i =
    then (λ a b. Next IsIgnored a i.line b) (λ a b. AreSteps a x.steps b) (λ a b. IsHook a x b) ls i.after_heading rest
    (λ a b c p q. record { line = i.line; after_heading = b; next = p; is = i.is; heading = i.heading; number = i.number; steps = q })
    (next_prefix i.line i.after_heading i.next refl)
    (steps_prefix i.after_heading x.steps rest i.steps)

background_prefix : (ls : Lines) (x : BackgroundValue) (rest : Lines) → IsBackground ls x rest → Fronts (λ a b. IsBackground a x b) ls rest
background_prefix ls x rest i =
    let D = Describes MayDescribeScenario in
    let S : Lines → Lines → Type 0 = λ a b. AreSteps a x.steps b in
    then (λ a b. IsHeading IsIgnored BackgroundHeading a i.line b) (Behind D S) (λ a b. IsBackground a x b) ls i.after_heading rest
    (λ a b c p q. record { line = i.line; after_heading = b; after_description = q.0; heading = p; number = i.number; description = q.1; steps = q.2 })
    (heading_prefix IsIgnored BackgroundHeading ls i.line i.after_heading i.heading)
    (both D S i.after_heading i.after_description rest (describes_prefix i.description) (steps_prefix i.after_description x.steps rest i.steps))

has_table_prefix : (ls : Lines) (header : List (List ℕ)) (rows : List RowValue) (rest : Lines) → HasTable ls header rows rest → Fronts (λ a b. HasTable a header rows b) ls rest
has_table_prefix ls header rows rest (inl e) = same (λ a b. a ≡ b) (λ a b. HasTable a header rows b) ls rest (λ a b p. inl (e.0, e.1, p)) (nothing ls rest e.2)
has_table_prefix ls header rows rest (inr t) = same (λ a b. IsTable a (t.0 ∷ rows) b) (λ a b. HasTable a header rows b) ls rest (λ a b p. inr (t.0, t.1, p)) (table_prefix ls (t.0 ∷ rows) rest t.2)

examples_prefix : (ls : Lines) (x : ExamplesValue) (rest : Lines) → AreExamples ls x rest → Fronts (λ a b. AreExamples a x b) ls rest
examples_prefix ls x rest i =
    let D = Describes MayDescribeExamples in
    let T : Lines → Lines → Type 0 = λ a b. HasTable a x.header x.rows b in
    then (λ a b. IsTaggedHeading IsIgnored ExamplesHeading a x.tags i.line b) (Behind D T) (λ a b. AreExamples a x b) ls i.after_heading rest
    (λ a b c p q. record { line = i.line; after_heading = b; after_description = q.0; heading = p; name = i.name; number = i.number; description = q.1; table = q.2 })
    (tagged_prefix IsIgnored ExamplesHeading ls x.tags i.line i.after_heading i.heading)
    (both D T i.after_heading i.after_description rest (describes_prefix i.description) (has_table_prefix i.after_description x.header x.rows rest i.table))

scenario_prefix : (ls : Lines) (x : ScenarioValue) (rest : Lines) → IsScenario ls x rest → Fronts (λ a b. IsScenario a x b) ls rest
scenario_prefix ls x rest i =
    let D = Describes MayDescribeScenario in
    let S : Lines → Lines → Type 0 = λ a b. AreSteps a x.steps b in
    let E : Lines → Lines → Type 0 = λ a b. Many AreExamples a x.examples b in
    then (λ a b. IsTaggedHeading IsIgnored ScenarioHeading a x.tags i.line b) (Behind D (Behind S E)) (λ a b. IsScenario a x b) ls i.after_heading rest
    (λ a b c p q. record { line = i.line; after_heading = b; after_description = q.0; after_steps = q.2.0; heading = p; keyword = i.keyword; name = i.name; number = i.number; description = q.1; steps = q.2.1; examples = q.2.2 })
    (tagged_prefix IsIgnored ScenarioHeading ls x.tags i.line i.after_heading i.heading)
    (both D (Behind S E) i.after_heading i.after_description rest (describes_prefix i.description) (both S E i.after_description i.after_steps rest (steps_prefix i.after_description x.steps i.after_steps i.steps) (many_prefix AreExamples examples_prefix i.examples)))

container_prefix : (Ignored : LineValue → Type 0) (kind : Class) (ls : Lines) (x : ContainerValue) (rest : Lines) → IsContainer Ignored kind ls x rest → Fronts (λ a b. IsContainer Ignored kind a x b) ls rest
container_prefix Ignored kind ls x rest i =
    let D = Describes MayDescribeFeature in
    let B : Lines → Lines → Type 0 = λ a b. Perhaps IsBackground a x.background b in
    let S : Lines → Lines → Type 0 = λ a b. Many IsScenario a x.scenarios b in
    then (λ a b. IsTaggedHeading Ignored kind a x.tags i.line b) (Behind D (Behind B S)) (λ a b. IsContainer Ignored kind a x b) ls i.after_heading rest
    (λ a b c p q. record { line = i.line; after_heading = b; after_description = q.0; after_background = q.2.0; heading = p; name = i.name; number = i.number; description = q.1; background = q.2.1; scenarios = q.2.2 })
    (tagged_prefix Ignored kind ls x.tags i.line i.after_heading i.heading)
    (both D (Behind B S) i.after_heading i.after_description rest (describes_prefix i.description) (both B S i.after_description i.after_background rest (perhaps_prefix IsBackground i.after_description i.after_background x.background background_prefix i.background) (many_prefix IsScenario scenario_prefix i.scenarios)))

rule_prefix : (ls : Lines) (x : RuleValue) (rest : Lines) → IsRule ls x rest → Fronts (λ a b. IsRule a x b) ls rest
rule_prefix ls x rest i = container_prefix IsIgnored RuleHeading ls (rule_container x) rest i

feature_prefix : (ls : Lines) (x : FeatureValue) (rest : Lines) → IsFeature ls x rest → Fronts (λ a b. IsFeature a x b) ls rest
feature_prefix ls x rest i =
    let C : Lines → Lines → Type 0 = λ a b. IsContainer IsIgnoredAbove FeatureHeading a (feature_container x) b in
    let R : Lines → Lines → Type 0 = λ a b. Many IsRule a x.rules b in
    then C R (λ a b. IsFeature a x b) ls i.after_scenarios rest
    (λ a b c p q. record { after_scenarios = b; container = p; rules = q })
    (container_prefix IsIgnoredAbove FeatureHeading ls (feature_container x) i.after_scenarios i.container)
    (many_prefix IsRule rule_prefix i.rules)

-- A part stands before rest just where the lines are its own lines and then rest.
own_lines : (P : Lines → Lines → Type 0) → ((ls rest : Lines) → P ls rest → Fronts P ls rest) → (ls rest : Lines) → P ls rest ↔ ((prefix : Lines) × (ls ≡ prefix ++ rest) × P prefix [])
own_lines P prefixes ls rest = (
  (λ p. let f = prefixes ls rest p in (f.prefix, f.whole, subst (λ a. P a []) (append-nil f.prefix) (f.again []))),
  (λ w. let f = prefixes w.0 [] w.2 in
      let e : f.prefix ++ rest ≡ ls = ap (λ (a : Lines). a ++ rest) (sym (append-nil f.prefix) ∙ sym f.whole) ∙ sym w.1 in
      subst (λ a. P a rest) e (f.again rest)),
)

pub step_lines : IsConcatenation IsStep
step_lines ls rest x = own_lines (λ a b. IsStep a x b) (λ a b p. step_prefix a x b p) ls rest

pub background_lines : IsConcatenation IsBackground
background_lines ls rest x = own_lines (λ a b. IsBackground a x b) (λ a b p. background_prefix a x b p) ls rest

pub scenario_lines : IsConcatenation IsScenario
scenario_lines ls rest x = own_lines (λ a b. IsScenario a x b) (λ a b p. scenario_prefix a x b p) ls rest

pub container_lines : (Ignored : LineValue → Type 0) (kind : Class) → IsConcatenation (IsContainer Ignored kind)
container_lines Ignored kind ls rest x = own_lines (λ a b. IsContainer Ignored kind a x b) (λ a b p. container_prefix Ignored kind a x b p) ls rest

pub rule_lines : IsConcatenation IsRule
rule_lines ls rest x = own_lines (λ a b. IsRule a x b) (λ a b p. rule_prefix a x b p) ls rest

pub feature_lines : IsConcatenation IsFeature
feature_lines ls rest x = own_lines (λ a b. IsFeature a x b) (λ a b p. feature_prefix a x b p) ls rest

pub examples_lines : IsConcatenation AreExamples
examples_lines ls rest x = own_lines (λ a b. AreExamples a x b) (λ a b p. examples_prefix a x b p) ls rest

pub table_lines : IsConcatenation IsTable
table_lines ls rest x = own_lines (λ a b. IsTable a x b) (λ a b p. table_prefix a x b p) ls rest

pub hook_lines : IsConcatenation IsHook
hook_lines ls rest x = own_lines (λ a b. IsHook a x b) (λ a b p. hook_prefix a x b p) ls rest

pub doc_string_lines : IsConcatenation IsDocString
doc_string_lines ls rest x = own_lines (λ a b. IsDocString a x b) (λ a b p. doc_string_prefix a x b p) ls rest
