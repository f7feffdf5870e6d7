-- The results of inputs that read stand in file order.
use Rattle.gk_cli.proofs.Common.{◌≡◌, ℕ, ◌<◌, Bool, true, false, cond, List, [], ◌∷◌, length, map, get_or, ◌&&◌, Option, Some, None, refl, ap, sym, subst, ◌∙◌, arith, get_or-map, length-map, map-map, AllByRecursion, IsNonDecreasingBy, lines_of, RuleValue, FeatureValue, Reads, CaseValue, is_chosen, cases, CasesAreInFileOrder, FallIntoRules, LibraryValue, State, Contents, result_of, Run, first_or, without_first, stays_open, HeadValue, MemberValue, ChosenValue, CasesFallIntoRules, dry_cases_of, dry_feature_of, dry_features_of, dry_rules_of, FeatureCuts, uncut_feature, feature_of, features_of, StandsInFileOrder, ResultsStandInFileOrder, Cuts, results_of, CaseRow, RuleRow, FeatureRow, Results, Cut, AreInFileOrder, RowsAreInFileOrder, JudgedRowsAreInFileOrder, member_by, head_of, chosen_of, with_reading, AreRead, SourceValue, run_with, common_steps}

-- Two lists with the same numbers rise alike.
number_at : {A B : Type 0} (n : A → ℕ) (m : B → ℕ) (xs : List A) (ys : List B) (i : ℕ) (d : A) (e : B) → map n xs ≡ map m ys → i < length xs → i < length ys → n (get_or xs i d) ≡ m (get_or ys i e)
number_at n m xs ys i d e same here there = sym (get_or-map n xs i d 0 here) ∙ ap (λ (ns : List ℕ). get_or ns i 0) same ∙ get_or-map m ys i e 0 there

as_long : {A B : Type 0} (n : A → ℕ) (m : B → ℕ) (xs : List A) (ys : List B) → map n xs ≡ map m ys → length xs ≡ length ys
as_long n m xs ys same = sym (length-map xs n) ∙ ap (λ (ns : List ℕ). length ns) same ∙ length-map ys m

rise_alike : {A B : Type 0} (n : A → ℕ) (m : B → ℕ) (xs : List A) (ys : List B) → map n xs ≡ map m ys → IsNonDecreasingBy m ys → IsNonDecreasingBy n xs
rise_alike n m xs [] same up i j d le lt = grind (arith, common_steps)
rise_alike n m xs (y ∷ ys) same up i j d le lt =
    let long = as_long n m xs (y ∷ ys) same in
    let within : j < length (y ∷ ys) = omega (arith, lt, long) in
    let at = up i j y le within in
    let one = number_at n m xs (y ∷ ys) i d y same (omega (arith, le, lt)) (omega (arith, le, within)) in
    let other = number_at n m xs (y ∷ ys) j d y same lt within in
    omega (arith, at, one, other)

-- A feature as it is run, whose lines rise and whose cases fall into its rules.
record IsOrdered (f : ChosenValue) : Type 0 where
  heads : IsNonDecreasingBy (λ (head : HeadValue). head.line) f.rules
  members : IsNonDecreasingBy (λ (m : MemberValue). m.scenario.line) f.members
  falls : CasesFallIntoRules f

-- What `cases_fall_into_rules` says.
abbrev pub CasesFall : Type 0
CasesFall = (f : FeatureValue) → FallIntoRules (length f.rules) (map (λ (c : CaseValue). c.rule) (cases f))

pub chosen_falls : CasesFall → (chooses : CaseValue → Bool) (source : List ℕ) (f : FeatureValue) → CasesFallIntoRules (chosen_of chooses source f)
chosen_falls falls chooses source f = rw (length-map f.rules head_of, map-map (λ (m : MemberValue). m.scenario.rule) (member_by chooses) (cases f)) (falls f)

chosen_ordered : CasesAreInFileOrder → CasesFall
    → (chooses : CaseValue → Bool) (source bytes : List ℕ) (f : FeatureValue) → Reads (lines_of bytes) (Some f) → IsOrdered (chosen_of chooses source f)
chosen_ordered ordered falls chooses source bytes f reads =
    let order = ordered bytes f reads in
    record {
      heads = rise_alike (λ (head : HeadValue). head.line) (λ (r : RuleValue). r.line) (map head_of f.rules) f.rules (map-map (λ (head : HeadValue). head.line) head_of f.rules) order.rising_rules;
      members = rise_alike (λ (m : MemberValue). m.scenario.line) (λ (c : CaseValue). c.line) (map (member_by chooses) (cases f)) (cases f) (map-map (λ (m : MemberValue). m.scenario.line) (member_by chooses) (cases f)) order.rising_cases;
      falls = chosen_falls falls chooses source f;
    }

reading_ordered : CasesAreInFileOrder → CasesFall → (chooses : CaseValue → Bool) (s : SourceValue) (reading : Option FeatureValue) (others : List ChosenValue)
    → Reads (lines_of s.bytes) reading → AllByRecursion IsOrdered others → AllByRecursion IsOrdered (with_reading chooses s.name reading others)
reading_ordered ordered falls chooses s None others reads o = o
reading_ordered ordered falls chooses s (Some f) others reads o = (chosen_ordered ordered falls chooses s.name s.bytes f reads, o)

read_ordered : CasesAreInFileOrder → CasesFall → (chooses : CaseValue → Bool) (sources : List SourceValue) (features : List ChosenValue) → AreRead chooses sources features → AllByRecursion IsOrdered features
read_ordered ordered falls chooses [] features read = subst (AllByRecursion IsOrdered) (sym read) tt
read_ordered ordered falls chooses (s ∷ ss) features read = grind (arith, common_steps, reading_ordered, read_ordered ordered falls chooses ss read.1 read.3)

-- Results that stand in file order have lines that rise.
abbrev IsRow : FeatureRow → Type 0
IsRow row = AreInFileOrder row.rules row.cases

row_ordered : (f : ChosenValue) (row : FeatureRow) → IsOrdered f → StandsInFileOrder f row → IsRow row
row_ordered f row o stands = record {
  rising_rules = rise_alike (λ (r : RuleRow). r.line) (λ (head : HeadValue). head.line) row.rules f.rules stands.rules o.heads;
  rising_cases = rise_alike (λ (c : CaseRow). c.line) (λ (m : MemberValue). m.scenario.line) row.cases f.members stands.cases o.members;
}

rows_ordered : ResultsStandInFileOrder → (run : Run) (outside : State) (is_open : Bool) (cuts : List FeatureCuts) (fs : List ChosenValue) → AllByRecursion IsOrdered fs → RowsAreInFileOrder (result_of (features_of run outside is_open cuts fs))
rows_ordered stand run outside is_open cuts [] o = tt
rows_ordered stand run outside is_open cuts (f ∷ fs) o =
    let row = result_of (feature_of run outside is_open (first_or uncut_feature cuts) f) in
    (row_ordered f row o.0 (stand run outside is_open (first_or uncut_feature cuts) f o.0.falls), rows_ordered stand run outside (is_open && stays_open run row.status) (without_first cuts) fs o.1)

-- In a dry run too there is a result for each rule and each case.
dry_case_lines : (library : LibraryValue) (cuts : List Cut) (ms : List MemberValue) → map (λ (c : CaseRow). c.line) (dry_cases_of library cuts ms) ≡ map (λ (m : MemberValue). m.scenario.line) ms
dry_case_lines library cuts [] = refl
dry_case_lines library cuts (m ∷ ms) = grind (arith, common_steps, dry_case_lines library (without_first cuts) ms)

dry_rule_lines : (heads : List HeadValue) → map (λ (r : RuleRow). r.line) (dry_rules_of heads) ≡ map (λ (head : HeadValue). head.line) heads
dry_rule_lines [] = refl
dry_rule_lines (head ∷ heads) = ap (λ (lines : List ℕ). head.line ∷ lines) (dry_rule_lines heads)

dry_rows_ordered : (library : LibraryValue) (cuts : List FeatureCuts) (fs : List ChosenValue) → AllByRecursion IsOrdered fs → RowsAreInFileOrder (dry_features_of library cuts fs)
dry_rows_ordered library cuts [] o = tt
dry_rows_ordered library cuts (f ∷ fs) o =
    let these = first_or uncut_feature cuts in
    (row_ordered f (dry_feature_of library these f) o.0 (record { rules = dry_rule_lines f.rules; cases = dry_case_lines library these.cases f.members }), dry_rows_ordered library (without_first cuts) fs o.1)

either_ordered : (b : Bool) (x y : Results) → RowsAreInFileOrder x.features → RowsAreInFileOrder y.features → (let results = cond b x y in RowsAreInFileOrder results.features)
either_ordered true x y this that = this
either_ordered false x y this that = that

results_ordered : ResultsStandInFileOrder → (run : Run) (contents : Contents) (cuts : Cuts) (fs : List ChosenValue) → AllByRecursion IsOrdered fs → (let results = results_of run contents cuts fs in RowsAreInFileOrder results.features)
results_ordered stand run contents cuts fs o = grind (arith, common_steps, either_ordered, dry_rows_ordered, rows_ordered)

pub judged_in_order : CasesAreInFileOrder → CasesFall → ResultsStandInFileOrder → JudgedRowsAreInFileOrder
judged_in_order ordered falls stand r contents results judged =
    let features = read_ordered ordered falls (is_chosen judged.read.rules r.lines) r.sources judged.inputs.features judged.read.features in
    subst (λ (results : Results). RowsAreInFileOrder results.features) (sym judged.judged.1)
    (results_ordered stand (run_with r judged.inputs) contents judged.judged.0 judged.inputs.features features)
