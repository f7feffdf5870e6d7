-- The lines so far read as the feature so far, and each line keeps that: what is read has that reading.
use Rattle.gk_gherkin.proofs.Common.{◌≡◌, ℕ, suc, Bool, true, false, ◌==◌, List, [], ◌∷◌, Option, Some, None, Result, Ok, Err, refl, sym, subst, arith, common_steps, nat_tests, codes, last_or, option_and_then, bytes_eq, bytes_eq-Decides, Blank, Comment, ExamplesHeading, FeatureHeading, RuleHeading, ScenarioHeading, TagLine, Class, ReadFault, FeatureReader, Tagged, Untagged, by_language, children_in, children_put, feature_readers, heading_in_feature, last_children, line_in_feature, on, on_comment, on_heading, on_line, rule_from, rule_with, tag_line, with_children, without_tags, Outside, InText, State, finish, reading, run, ChildrenValue, children_with_text, heading_in, on_children, with_scenarios, begins, trim, LineValue, Lines, class, class_of, tags_of, IsEnglishOrNone, language_of, language_word, rest_after, ContainerValue, FeatureValue, RuleValue, ScenarioValue, rule_container, AreTags, IsContainer, IsDocString, IsFeature, IsIgnored, IsIgnoredAbove, IsIgnoredClass, IsRule, Many, Reads, Skips, described, none, skip_none, untagged, ◌>>=◌}
use Rattle.gk_gherkin.proofs.ReadingRuns.{bind_is, bind_ok, no_ok, ok_same}
use Rattle.gk_gherkin.proofs.ReadingSound.{Built, built_run}
use Rattle.gk_gherkin.proofs.LastItems.{Many-last, Many-with_last, no_items}
use Rattle.gk_gherkin.proofs.OpenPartsSound.{AreTags-push, ChildrenBuilt, Many-nil, Many-push, Skips-more, children_text, cond_ok, heading_in-built, on_children-built}

abbrev pub FeatureBuilt : Option FeatureValue → Lines → Lines → Type 0
FeatureBuilt None whole rest = whole ≡ rest
FeatureBuilt (Some f) whole rest = IsFeature whole f rest

abbrev pub IgnoredAt : Option FeatureValue → LineValue → Type 0
IgnoredAt None = IsIgnoredAbove
IgnoredAt (Some f) = IsIgnored

-- the children of a container
children_of : {Ignored : LineValue → Type 0} {kind : Class} {ls rest : Lines} {container : ContainerValue} → (i : IsContainer Ignored kind ls container rest) → ChildrenBuilt (record { background = container.background; scenarios = container.scenarios }) i.after_heading rest
children_of i = record { after_description = i.after_description; after_background = i.after_background; description = i.description; background = i.background; scenarios = i.scenarios }

abbrev container_with : ContainerValue → ChildrenValue → ContainerValue
container_with c children = record { name = c.name; line = c.line; tags = c.tags; background = children.background; scenarios = children.scenarios }

with_children-built : {Ignored : LineValue → Type 0} {kind : Class} {ls mid rest : Lines} {container : ContainerValue} (children : ChildrenValue) → (i : IsContainer Ignored kind ls container mid) → ChildrenBuilt children i.after_heading rest → IsContainer Ignored kind ls (container_with container children) rest
with_children-built children i b = record { line = i.line; after_heading = i.after_heading; after_description = b.after_description; after_background = b.after_background; heading = i.heading; name = i.name; number = i.number; description = b.description; background = b.background; scenarios = b.scenarios }

-- The children of the last rule, or of the feature, read up to rest: so does the feature with them.
children_put-built : (o : Option RuleValue) (f : FeatureValue) (children : ChildrenValue) (whole mid rest : Lines) → last_or None f.rules ≡ o → ((ls : Lines) → ChildrenBuilt (children_in o f) ls mid → ChildrenBuilt children ls rest) → IsFeature whole f mid → IsFeature whole (children_put o f children) rest
children_put-built None f children whole mid rest is grow i =
    let bare = no_items f.rules is in
    let c = i.container in
    let own = subst (λ mid. ChildrenBuilt (children_in None f) c.after_heading mid) (Many-nil bare i.rules) (children_of c) in
    record { after_scenarios = rest; container = with_children-built children c (grow c.after_heading own); rules = subst (λ rules. Many IsRule rest rules rest) (sym bare) none }
children_put-built (Some r) f children whole mid rest is grow i =
    record { after_scenarios = i.after_scenarios; container = i.container; rules = Many-with_last IsRule (rule_with r children) f.rules i.after_scenarios mid rest r is (λ from j. with_children-built children j (grow j.after_heading (children_of j))) i.rules }

feature_grown : (f : FeatureValue) (children : ChildrenValue) (whole mid rest : Lines) → ((ls : Lines) → ChildrenBuilt (last_children f) ls mid → ChildrenBuilt children ls rest) → IsFeature whole f mid → IsFeature whole (with_children f children) rest
feature_grown f children whole mid rest grow i = children_put-built (last_or None f.rules) f children whole mid rest refl grow i

-- The children of the last rule, or of the feature, end with it.
children_in-built : (o : Option RuleValue) (f : FeatureValue) (whole rest : Lines) → last_or None f.rules ≡ o → IsFeature whole f rest → (ls : Lines) × ChildrenBuilt (children_in o f) ls rest
children_in-built None f whole rest is i =
    let c = i.container in
    (c.after_heading, subst (λ rest. ChildrenBuilt (children_in None f) c.after_heading rest) (Many-nil (no_items f.rules is) i.rules) (children_of c))
children_in-built (Some r) f whole rest is i = let j = (Many-last f.rules i.after_scenarios rest r is i.rules).1 in (j.after_heading, children_of j)

pub last_built : (f : FeatureValue) (whole rest : Lines) → IsFeature whole f rest → (ls : Lines) × ChildrenBuilt (last_children f) ls rest
last_built f whole rest i = children_in-built (last_or None f.rules) f whole rest refl i

-- a heading after tags
container_begun : {Ignored : LineValue → Type 0} {a b rest : Lines} {tags : List (List ℕ)} (kind : Class) (l : LineValue) → AreTags Ignored a tags b → Skips Ignored b (l ∷ rest) → class l ≡ kind → IsContainer Ignored kind a (rule_container (rule_from tags l)) rest
container_begun {b = b} {rest = rest} kind l ts n c = record { line = l; after_heading = rest; after_description = rest; after_background = rest; heading = record { after_tags = b; above = ts; heading = record { next = n; is = c } }; name = refl; number = refl; description = described; background = refl; scenarios = none }

heading_in_feature-built : (f : FeatureValue) (tags : List (List ℕ)) (whole a b rest : Lines) (l : LineValue) (c : Class) (t : Option FeatureValue) → class l ≡ c → IsFeature whole f a → AreTags IsIgnored a tags b → Skips IsIgnored b (l ∷ rest) → (heading_in_feature f tags l c >>= λ f. let r : Result (Option FeatureValue) ReadFault = Ok (Some f) in r) ≡ Ok t → FeatureBuilt t whole rest
heading_in_feature-built f tags whole a b rest l k t c i ts n e =
    let r = bind_is (heading_in_feature f tags l k) (λ (f : FeatureValue). Some f) t e in
    let children = last_children f in
    let h = bind_is (heading_in children.scenarios tags l k) (λ (scenarios : List ScenarioValue). with_children f (with_scenarios children scenarios)) r.0 r.1 in
    subst (λ t. FeatureBuilt t whole rest) r.2 (subst (λ f. IsFeature whole f rest) h.2
    (feature_grown f (with_scenarios children h.0) whole a rest (λ ls j. record { after_description = j.after_description; after_background = j.after_background; description = j.description; background = j.background; scenarios = heading_in-built children.scenarios tags j.after_background a b rest l k h.0 c j.scenarios ts n h.1 }) i))

on_heading-built : (feature : Option FeatureValue) (tags : List (List ℕ)) (whole a b rest : Lines) (l : LineValue) (c : Class) (t : Option FeatureValue) → class l ≡ c → FeatureBuilt feature whole a → AreTags (IgnoredAt feature) a tags b → Skips (IgnoredAt feature) b (l ∷ rest) → on_heading feature tags l c ≡ Ok t → FeatureBuilt t whole rest
unfolding on_heading
on_heading-built None tags whole a b rest l FeatureHeading t c p ts n e =
    subst (λ t. FeatureBuilt t whole rest) (ok_same e) (record { after_scenarios = rest; container = container_begun FeatureHeading l (subst (λ a. AreTags IsIgnoredAbove a tags b) (sym p) ts) n c; rules = none })
on_heading-built None tags whole a b rest l _ t c p ts n e = no_ok e
on_heading-built (Some f) tags whole a b rest l RuleHeading t c i ts n e =
    subst (λ t. FeatureBuilt t whole rest) (ok_same e) (record { after_scenarios = i.after_scenarios; container = i.container; rules = Many-push i.rules (container_begun RuleHeading l ts n c) })
on_heading-built (Some f) tags whole a b rest l k t c i ts n e = heading_in_feature-built f tags whole a b rest l k t c i ts n e

on_line-built : (feature : Option FeatureValue) (whole mid rest : Lines) (l : LineValue) (c : Class) (t : Option FeatureValue) → class l ≡ c → FeatureBuilt feature whole mid → Skips (IgnoredAt feature) mid (l ∷ rest) → on_line feature l c ≡ Ok t → FeatureBuilt t whole rest
unfolding on_line
on_line-built None whole mid rest l k t c p n e = no_ok e
on_line-built (Some f) whole mid rest l k t c i n e =
    let r = bind_is (line_in_feature f l k) (λ (f : FeatureValue). Some f) t e in
    let h = bind_is (on_children (last_children f) l k) (λ (children : ChildrenValue). with_children f children) r.0 r.1 in
    subst (λ t. FeatureBuilt t whole rest) r.2 (subst (λ f. IsFeature whole f rest) h.2 (feature_grown f h.0 whole mid rest (λ ls j. on_children-built (last_children f) ls mid rest l k h.0 c j n h.1) i))

-- blank lines name no language
abbrev language_in : List ℕ → Option (List ℕ)
language_in text = option_and_then language_word (option_and_then (rest_after (codes ":")) (option_and_then (rest_after (codes "language")) (rest_after (codes "#") text)))

not_empty : (n : ℕ) → (suc n == 0) ≡ false
not_empty n = grind (arith, nat_tests)

no_hash : (text : List ℕ) (c : Bool) → begins text (codes "#") ≡ c → class_of text ≡ Blank → IsEnglishOrNone (language_in text)
unfolding class_of
no_hash [] c e k = tt
no_hash (b ∷ bs) true e k = grind (arith, common_steps)
no_hash (b ∷ bs) false e k = grind (arith, common_steps)

blank_english : (l : LineValue) → class l ≡ Blank → IsEnglishOrNone (language_of l)
unfolding class language_of
blank_english l c = no_hash (trim l.text) (begins (trim l.text) (codes "#")) refl c

pub blank_at : (reader : Option FeatureValue) (l : LineValue) → class l ≡ Blank → IgnoredAt reader l
blank_at None l c = (subst IsIgnoredClass (sym c) tt, blank_english l c)
blank_at (Some f) l c = subst IsIgnoredClass (sym c) tt

pub bytes_same : (a b : List ℕ) → bytes_eq a b ≡ true → a ≡ b
bytes_same a b h = (bytes_eq-Decides a b).0 h

language_by : (r : Option (List ℕ)) (s t : FeatureReader) (l : LineValue) → by_language r s l ≡ Ok t → IsEnglishOrNone r × (s ≡ t)
language_by None s t l e = (tt, ok_same e)
language_by (Some word) s t l e = grind (arith, common_steps, cond_ok, bytes_same)

pub comment_ok : (feature : Option FeatureValue) (s t : FeatureReader) (l : LineValue) → class l ≡ Comment → on_comment feature s l ≡ Ok t → IgnoredAt feature l × (s ≡ t)
comment_ok None s t l c e = let r = language_by (language_of l) s t l e in ((subst IsIgnoredClass (sym c) tt, r.0), r.1)
comment_ok (Some f) s t l c e = (subst IsIgnoredClass (sym c) tt, ok_same e)

-- The lines of whole, up to rest, are what the reader says.
abbrev pub Holds : FeatureReader → Lines → Lines → Type 0
Holds (Untagged feature) whole rest = (mid : Lines) × FeatureBuilt feature whole mid × Skips (IgnoredAt feature) mid rest
Holds (Tagged feature tags last) whole rest = (a : Lines) × (b : Lines) × FeatureBuilt feature whole a × AreTags (IgnoredAt feature) a tags b × Skips (IgnoredAt feature) b rest

untagged_ok : (r : Result (Option FeatureValue) ReadFault) (whole rest : Lines) (t : FeatureReader) → ((p : Option FeatureValue) → r ≡ Ok p → FeatureBuilt p whole rest) → without_tags r ≡ Ok t → Holds t whole rest
untagged_ok (Ok p) whole rest t f e = subst (λ t. Holds t whole rest) (ok_same e) (rest, f p refl, skip_none)
untagged_ok (Err x) whole rest t f e = no_ok e

tagged_ok : (r : Option (List (List ℕ))) (feature : Option FeatureValue) (tags : List (List ℕ)) (whole a b rest : Lines) (l : LineValue) (t : FeatureReader) → tags_of l ≡ r → class l ≡ TagLine → FeatureBuilt feature whole a → AreTags (IgnoredAt feature) a tags b → Skips (IgnoredAt feature) b (l ∷ rest) → tag_line r feature tags l ≡ Ok t → Holds t whole rest
tagged_ok (Some others) feature tags whole a b rest l t w c p ts n e =
    subst (λ t. Holds t whole rest) (ok_same e) (a, rest, p, AreTags-push ts (record { line = l; next = n; is = c; words = w }), skip_none)
tagged_ok None feature tags whole a b rest l t w c p ts n e = no_ok e

goes : (whole rest : Lines) {x t : FeatureReader} → ◌≡◌ {A = Result FeatureReader ReadFault} (Ok x) (Ok t) → Holds x whole rest → Holds t whole rest
goes whole rest e b = subst (λ t. Holds t whole rest) (ok_same e) b

after_no_tags : (feature : Option FeatureValue) (whole rest : Lines) (l : LineValue) (c : Class) (t : FeatureReader) → class l ≡ c → Holds (Untagged feature) whole (l ∷ rest) → on (Untagged feature) l c ≡ Ok t → Holds t whole rest
unfolding on
after_no_tags feature whole rest l Blank t c b e = goes whole rest e (b.0, b.1, Skips-more (blank_at feature l c) b.2)
after_no_tags feature whole rest l Comment t c b e = let k = comment_ok feature (Untagged feature) t l c e in subst (λ t. Holds t whole rest) k.1 (b.0, b.1, Skips-more k.0 b.2)
after_no_tags feature whole rest l TagLine t c b e = tagged_ok (tags_of l) feature [] whole b.0 b.0 rest l t refl c b.1 untagged b.2 e
after_no_tags feature whole rest l FeatureHeading t c b e = untagged_ok (on_heading feature [] l FeatureHeading) whole rest t (λ p h. on_heading-built feature [] whole b.0 b.0 rest l FeatureHeading p c b.1 untagged b.2 h) e
after_no_tags feature whole rest l RuleHeading t c b e = untagged_ok (on_heading feature [] l RuleHeading) whole rest t (λ p h. on_heading-built feature [] whole b.0 b.0 rest l RuleHeading p c b.1 untagged b.2 h) e
after_no_tags feature whole rest l ScenarioHeading t c b e = untagged_ok (on_heading feature [] l ScenarioHeading) whole rest t (λ p h. on_heading-built feature [] whole b.0 b.0 rest l ScenarioHeading p c b.1 untagged b.2 h) e
after_no_tags feature whole rest l ExamplesHeading t c b e = untagged_ok (on_heading feature [] l ExamplesHeading) whole rest t (λ p h. on_heading-built feature [] whole b.0 b.0 rest l ExamplesHeading p c b.1 untagged b.2 h) e
after_no_tags feature whole rest l k t c b e = untagged_ok (on_line feature l k) whole rest t (λ p h. on_line-built feature whole b.0 rest l k p c b.1 b.2 h) e

after_tags : (feature : Option FeatureValue) (tags : List (List ℕ)) (last : ℕ) (whole rest : Lines) (l : LineValue) (c : Class) (t : FeatureReader) → class l ≡ c → Holds (Tagged feature tags last) whole (l ∷ rest) → on (Tagged feature tags last) l c ≡ Ok t → Holds t whole rest
unfolding on
after_tags feature tags last whole rest l Blank t c b e = goes whole rest e (b.0, b.1, b.2, b.3, Skips-more (blank_at feature l c) b.4)
after_tags feature tags last whole rest l Comment t c b e = let k = comment_ok feature (Tagged feature tags last) t l c e in subst (λ t. Holds t whole rest) k.1 (b.0, b.1, b.2, b.3, Skips-more k.0 b.4)
after_tags feature tags last whole rest l TagLine t c b e = tagged_ok (tags_of l) feature tags whole b.0 b.1 rest l t refl c b.2 b.3 b.4 e
after_tags feature tags last whole rest l k t c b e = untagged_ok (on_heading feature tags l k) whole rest t (λ p h. on_heading-built feature tags whole b.0 b.1 rest l k p c b.2 b.3 b.4 h) e

pub keeps : (reader next : FeatureReader) (whole rest : Lines) (l : LineValue) → Holds reader whole (l ∷ rest) → feature_readers.after_line reader l ≡ Ok next → Holds next whole rest
keeps (Untagged feature) next whole rest l b e = after_no_tags feature whole rest l (class l) next refl b e
keeps (Tagged feature tags last) next whole rest l b e = after_tags feature tags last whole rest l (class l) next refl b e

pub after : (reader : FeatureReader) (whole ls rest : Lines) (text : List ℕ) → feature_readers.takes_text reader ≡ true → Holds reader whole ls → IsDocString ls text rest → Holds (feature_readers.after_text reader text) whole rest
after (Untagged None) whole ls rest text t b d = let no : ⊥ = cc t in absurd no
after (Tagged feature tags last) whole ls rest text t b d = let no : ⊥ = cc t in absurd no
after (Untagged (Some f)) whole ls rest text t b d =
    (rest, feature_grown f (children_with_text (last_children f) text) whole b.0 rest (λ from j. children_text (last_children f) from b.0 ls rest text t j b.2 d) b.1, skip_none)

-- What is reached stands in the state.
pub reached_built : (before : Lines) (s : State FeatureReader) → run feature_readers (Outside feature_readers.first) before ≡ Ok s → Built feature_readers Holds s before []
reached_built before s r = built_run feature_readers Holds keeps after (Outside feature_readers.first) before before s (before, refl, skip_none) r

answered : (feature : Option FeatureValue) (ls : Lines) → Holds (Untagged feature) ls [] → Reads ls feature
answered None ls b = subst (λ ls. Skips IsIgnoredAbove ls []) (sym b.1) b.2
answered (Some f) ls b = (b.0, b.1, b.2)

finish_ok : (s : State FeatureReader) (ls : Lines) (g : Option FeatureValue) → Built feature_readers Holds s ls [] → finish feature_readers s ≡ Ok g → Reads ls g
unfolding finish
finish_ok (Outside (Untagged feature)) ls g b e = subst (Reads ls) (ok_same e) (answered feature ls b)
finish_ok (Outside (Tagged feature tags last)) ls g b e = no_ok e
finish_ok (InText reader text) ls g b e = no_ok e

-- What is read has that reading.
pub sound : (ls : Lines) (g : Option FeatureValue) → reading feature_readers ls ≡ Ok g → Reads ls g
unfolding reading
sound ls g e = let r = bind_ok (run feature_readers (Outside feature_readers.first) ls) (finish feature_readers) g e in finish_ok r.0 ls g (reached_built ls r.0 r.1) r.2
