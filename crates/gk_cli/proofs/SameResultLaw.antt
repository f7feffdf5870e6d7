-- A scenario's result is the same in the runs of two requests.
use Rattle.gk_cli.proofs.Common.{◌≡◌, ℕ, zero, suc, Bool, true, List, [], ◌∷◌, length, map, take, Option, Some, None, inl, inr, refl, ap, sym, subst, ◌∙◌, option_map, lines_of, FeatureValue, Reads, HasOneReading, HaveOneHooksReading, CaseValue, is_chosen, cases, with_own_tags, Expression, LibraryReadingIsUnique, Contents, MemberValue, ChosenValue, CaseRow, Results, BeginsLike, HasResult, IsLike, IsSameScenario, IsSettled, ResultsAreTheSameInEachRun, above, member_by, chosen_of, head_of, with_reading, AreHooks, AreRead, IsLibrary, OneRule, same_rules, same_library, same_hooks, Request, SourceValue, Inputs, AreJudged, run_with, HasRow, IsSettledIn, ScenariosComeToTheSameInEachRun, slice_get}
use Rattle.gk_run.specs.OwnResult.{tags_of_rule}
use Rattle.gk_run.specs.SectionHooks.{before_list}
use Rattle.gk_run.specs.declared.section.Level.TheVariants as levels
use Rattle.gk_cli.proofs.RowOrderLaw.{CasesFall, chosen_falls}

same_some : {A : Type 0} (x y : A) → ◌≡◌ {A = Option A} (Some x) (Some y) → x ≡ y
same_some x y e = cc

-- What is behind the feature of a source is as far from the features after it.
one_further : (chooses : CaseValue → Bool) (name : List ℕ) (reading : Option FeatureValue) (others before : List ChosenValue) (x : ChosenValue) →
    slice_get others (length before) ≡ Some x → slice_get (with_reading chooses name reading others) (length (with_reading chooses name reading before)) ≡ Some x
one_further chooses name None others before x at = at
one_further chooses name (Some f) others before x at = at

-- The feature of a source stands behind those of the sources before it.
feature_at : HasOneReading → (chooses : CaseValue → Bool) (sources : List SourceValue) (features before : List ChosenValue) (input : ℕ) (source : SourceValue) (feature : FeatureValue) →
    AreRead chooses sources features → AreRead chooses (take input sources) before → slice_get sources input ≡ Some source → Reads (lines_of source.bytes) (Some feature) →
    slice_get features (length before) ≡ Some (chosen_of chooses source.name feature)
feature_at one chooses [] features before input source feature read first at spelt = let no : ⊥ = cc at in absurd no
feature_at one chooses (s ∷ ss) features before zero source feature (reading, others, here, rest, is) first at spelt =
    let same : s ≡ source = same_some s source at in
    let found : reading ≡ Some feature = one (lines_of s.bytes) reading (Some feature) here.reads (subst (λ (x : SourceValue). Reads (lines_of x.bytes) (Some feature)) (sym same) spelt) in
    let features_are : features ≡ chosen_of chooses s.name feature ∷ others = is ∙ ap (λ found. with_reading chooses s.name found others) found in
    ap (λ (fs : List ChosenValue). slice_get fs (length before)) features_are
    ∙ ap (λ (bs : List ChosenValue). slice_get (chosen_of chooses s.name feature ∷ others) (length bs)) first
    ∙ ap (λ (x : SourceValue). Some (chosen_of chooses x.name feature)) same
feature_at one chooses (s ∷ ss) features before (suc i) source feature (reading, others, here, rest, is) (reading', others', here', rest', is') at spelt =
    let same : reading' ≡ reading = one (lines_of s.bytes) reading' reading here'.reads here.reads in
    let later = feature_at one chooses ss others others' i source feature rest rest' at spelt in
    ap (λ (fs : List ChosenValue). slice_get fs (length before)) is
    ∙ ap (λ (bs : List ChosenValue). slice_get (with_reading chooses s.name reading others) (length bs)) (is' ∙ ap (λ found. with_reading chooses s.name found others') same)
    ∙ one_further chooses s.name reading others others' (chosen_of chooses source.name feature) later

place_in_map : {A B : Type 0} (f : A → B) (xs : List A) (i : ℕ) (x : A) → slice_get xs i ≡ Some x → slice_get (map f xs) i ≡ Some (f x)
place_in_map f [] i x at = let no : ⊥ = cc at in absurd no
place_in_map f (y ∷ ys) zero x at = ap (λ z. Some (f z)) (same_some y x at)
place_in_map f (y ∷ ys) (suc i) x at = place_in_map f ys i x at

-- A row of a request's results is that of a case of its features.
has_result : HasOneReading → OneRule → CasesFall → (r : Request) (contents : Contents) (results : Results) (bytes : List ℕ) (number : ℕ) (row : CaseRow) (judged : AreJudged r contents results) (has : HasRow r results bytes number row) →
    HasResult judged.inputs.features results (record { feature = length has.before; scenario = number }) (chosen_of (is_chosen has.rules r.lines) has.source.name has.feature) (with_own_tags has.scenario) row
has_result one rule falls r contents results bytes number row judged has =
    let chooses = is_chosen has.rules r.lines in
    let rules_are = same_rules rule r.tags judged.read.rules has.rules judged.read.tags has.tags in
    let read : AreRead chooses r.sources judged.inputs.features = subst (λ (rules : List Expression). AreRead (is_chosen rules r.lines) r.sources judged.inputs.features) rules_are judged.read.features in
    let spelt = subst (λ (bs : List ℕ). Reads (lines_of bs) (Some has.feature)) (sym has.same_bytes) has.spelt in
    let member : ◌≡◌ {A = Option MemberValue} (Some (member_by chooses has.scenario)) (Some (record { scenario = with_own_tags has.scenario; selected = true })) =
    ap (λ (selected : Bool). Some (record { scenario = with_own_tags has.scenario; selected = selected })) has.selected in
    record {
      feature = feature_at one chooses r.sources judged.inputs.features has.before has.input has.source has.feature read has.read has.given spelt;
      scenario = place_in_map (member_by chooses) (cases has.feature) number has.scenario has.numbered ∙ member;
      falls = chosen_falls falls chooses has.source.name has.feature;
      feature_result = has.feature_row;
      in_results = has.in_results;
      in_feature = has.in_feature;
    }

settled_in_run : (r : Request) (inputs : Inputs) (results : Results) (row : CaseRow) → IsSettledIn r results row → IsSettled (run_with r inputs) results row
settled_in_run r inputs results row (inl whole) = inl whole
settled_in_run r inputs results row (inr plain) = inr (record { runs = plain.0; goes_on = plain.1; unrefused = plain.2 })

pub same_in_each_run : HasOneReading → OneRule → LibraryReadingIsUnique → HaveOneHooksReading → CasesFall → ResultsAreTheSameInEachRun → ScenariosComeToTheSameInEachRun
same_in_each_run one rule library hooks falls law r other contents other_contents results other_results bytes number row other_row same_files same_around same_state judged has settled other_judged other_has other_settled =
    let f = chosen_of (is_chosen has.rules r.lines) has.source.name has.feature in
    let other_f = chosen_of (is_chosen other_has.rules other.lines) other_has.source.name other_has.feature in
    let c = with_own_tags has.scenario in
    let other_c = with_own_tags other_has.scenario in
    let feature : other_has.feature ≡ has.feature = same_some other_has.feature has.feature (one (lines_of bytes) (Some other_has.feature) (Some has.feature) other_has.spelt has.spelt) in
    let scenario : other_has.scenario ≡ has.scenario = same_some other_has.scenario has.scenario (sym other_has.numbered ∙ ap (λ (x : FeatureValue). slice_get (cases x) number) feature ∙ has.numbered) in
    let like : IsLike (run_with r judged.inputs) contents (run_with other other_judged.inputs) other_contents = record {
      library = same_library library r.library other_judged.inputs.library judged.inputs.library (subst (λ file. IsLibrary file other_judged.inputs.library) same_files other_judged.read.library) judged.read.library;
      hooks = same_hooks hooks r.hooks other_judged.inputs.hooks judged.inputs.hooks (subst (λ file. AreHooks file other_judged.inputs.hooks) same_around other_judged.read.hooks) judged.read.hooks;
      state = same_state;
    } in
    let before = before_list judged.inputs.hooks in
    let begins : BeginsLike judged.inputs.hooks (above f c) (above other_f other_c) = record {
      feature = ap (λ (x : FeatureValue). before levels.Feature x.tags) feature;
      rule = ap (λ (x : FeatureValue). option_map (before levels.Rule) (tags_of_rule (map head_of x.rules) other_has.scenario.rule)) feature
          ∙ ap (λ (x : CaseValue). option_map (before levels.Rule) (tags_of_rule (map head_of has.feature.rules) x.rule)) scenario;
    } in
    law (run_with r judged.inputs) (run_with other other_judged.inputs) contents other_contents judged.inputs.features other_judged.inputs.features results other_results
    (record { feature = length has.before; scenario = number }) (record { feature = length other_has.before; scenario = number }) f other_f c other_c row other_row
    like begins (subst (λ (x : CaseValue). IsSameScenario c (with_own_tags x)) (sym scenario) refl)
    judged.judged (has_result one rule falls r contents results bytes number row judged has) (settled_in_run r judged.inputs results row settled)
    other_judged.judged (has_result one rule falls other other_contents other_results bytes number other_row other_judged other_has) (settled_in_run other other_judged.inputs other_results other_row other_settled)
