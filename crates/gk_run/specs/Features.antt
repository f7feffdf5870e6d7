-- The results of features, of their rules and of their cases.
use Rattle.std.specs.List.{FoldsTo, list_any}
use Rattle.std.specs.Prelude.{ℕ, Bool, true, cond, List, [], ◌∷◌, ◌++◌, ◌+◌, length, map, ◌≡◌, ◌&&◌, ◌||◌, ◌⊎◌, ⊤}
use Rattle.gk_world.specs.State.{State}
use Rattle.gk_run.specs.declared.results.Status.{Status}
use Rattle.gk_run.specs.declared.results.Status.TheVariants as statuses
use Rattle.gk_run.specs.declared.section.Level.TheVariants as levels
use Rattle.gk_run.specs.Running.{all_stay_open, case_statuses, cases_of, first_or, without_first, stays_open}
use Rattle.gk_run.specs.Chosen.{HeadValue, MemberValue, ChosenValue, has_selected, CasesFallIntoRules, Group, own_members, rule_groups}
use Rattle.gk_run.specs.Events.{Event, of_step, of_cleanup, Ended, IsRan, Ran, Message, result_of, notifies, happens, has_ended, of_rule}
use Rattle.gk_run.specs.OpenSection.{section_of, SectionRow, Run}
use Rattle.gk_run.specs.Results.{CaseRow, RuleRow, FeatureRow, is_passed, is_failed, is_untested, is_memory}
use Rattle.gk_run.specs.Section.{Cut, before_of, nowhere}

-- The cuts of a rule: in its own hooks and cleanups, and in each of its cases. What a list doesn't name isn't cut, and a cut of what isn't reached has no effect.
pub record RuleCuts : Type 0 where
  pub own : Cut
  pub cases : List Cut

-- Memory was refused nowhere in a rule.
abbrev pub uncut_rule : RuleCuts
uncut_rule = record { own = nowhere; cases = [] }

-- The result of a rule in its feature's state. Its first case has this index in the feature. The rule is begun if the feature is open so far and the rule has a selected case. Its cases are reached if it was begun and its before list passed whole. (behave's documentation: environment file functions)
abbrev pub rule_of : ℕ → Run → State → Bool → RuleCuts → Group → Ran (SectionRow (List CaseRow))
rule_of index run outside is_open cuts g =
    section_of run levels.Rule g.head.tags outside (is_open && has_selected g.members) cuts.own (λ section is_ready. cases_of index run section is_ready cuts.cases g.members)

-- Whether what comes after a rule is still reached. (behave's documentation: `--stop`)
abbrev pub rule_stays_open : Run → SectionRow (List CaseRow) → Bool
rule_stays_open run end = stays_open run end.around && all_stay_open run end.inside

-- The results of what is inside a feature: those of its rules without their cases, and those of its cases in file order.
pub record Inside : Type 0 where
  pub rules : List RuleRow
  pub cases : List CaseRow

-- The results of rules and of their cases, in order. A rule is begun only if the feature is open so far. (No result depends on an index.)
abbrev pub rules_inside : Run → State → Bool → List RuleCuts → List Group → Inside
rules_inside run outside is_open cuts [] = record { rules = []; cases = [] }
rules_inside run outside is_open cuts (g ∷ gs) =
    let end = result_of (rule_of 0 run outside is_open (first_or uncut_rule cuts) g) in
    let row : RuleRow = record { line = g.head.line; around = end.around } in
    let next = rules_inside run outside (is_open && rule_stays_open run end) (without_first cuts) gs in
    record { rules = row ∷ next.rules; cases = end.inside ++ next.cases }

-- The messages about rules, the first of whose cases has this index in its feature: of each what happens in it, and then its end.
abbrev pub rules_messages : ℕ → Run → State → Bool → List RuleCuts → List Group → List Message
rules_messages index run outside is_open cuts [] = []
rules_messages index run outside is_open cuts (g ∷ gs) =
    let ran = rule_of index run outside is_open (first_or uncut_rule cuts) g in
    let row : RuleRow = record { line = g.head.line; around = ran.result.around } in
    ran.messages ++ has_ended (of_rule row) ∷ rules_messages (index + length g.members) run outside (is_open && rule_stays_open run ran.result) (without_first cuts) gs

-- Rules in order, the first of whose cases has this index in its feature.
abbrev pub rules_of : ℕ → Run → State → Bool → List RuleCuts → List Group → Ran Inside
rules_of index run outside is_open cuts groups = record { result = rules_inside run outside is_open cuts groups; messages = rules_messages index run outside is_open cuts groups }

-- The cuts of a feature: in its own hooks and cleanups, in each of its own cases, and in each of its rules. A dry run begins no feature and no rule: there, `cases` are the cuts of all its cases, including those of its rules, and the other cuts have no effect. What a list doesn't name isn't cut, and a cut of what isn't reached has no effect.
pub record FeatureCuts : Type 0 where
  pub own : Cut
  pub cases : List Cut
  pub rules : List RuleCuts

-- Memory was refused nowhere in a feature.
abbrev pub uncut_feature : FeatureCuts
uncut_feature = record { own = nowhere; cases = []; rules = [] }

-- The first that holds of memory, failed, untested and passed; otherwise skipped.
abbrev pub verdict_by : Bool → Bool → Bool → Bool → Status
verdict_by memory failed untested passed = cond memory statuses.Memory (cond failed statuses.Failed (cond untested statuses.Untested (cond passed statuses.Passed statuses.Skipped)))

-- How the hooks and cleanups of rules ended.
abbrev pub rule_statuses : List RuleRow → List Status
rule_statuses rows = map (λ (row : RuleRow). row.around) rows

-- The verdict of a feature. The first that applies: memory or failed, if its hooks and cleanups, those of a rule or a case are; untested or passed, if a case is. Otherwise skipped.
abbrev pub feature_verdict : Status → List Status → List Status → Status
feature_verdict around rules cases =
    verdict_by (list_any is_memory (around ∷ rules) || list_any is_memory cases) (list_any is_failed (around ∷ rules) || list_any is_failed cases) (list_any is_untested cases) (list_any is_passed cases)

-- The result of a feature, by how its hooks and cleanups ended and what is inside it.
abbrev pub feature_row_of : ChosenValue → Status → Inside → FeatureRow
feature_row_of f around inside = record { source = f.source; name = f.name; line = f.line; status = feature_verdict around (rule_statuses inside.rules) (case_statuses inside.cases); around = around; rules = inside.rules; cases = inside.cases }

-- What is inside a section: some cases, and then rules. A rule is begun only if the section is open so far.
abbrev pub inside_by : Run → State → Bool → List Cut → List RuleCuts → List MemberValue → List Group → Ran Inside
inside_by run section is_open cuts rule_cuts own groups =
    let first = cases_of 0 run section is_open cuts own in
    let next = rules_of (length own) run section (is_open && all_stay_open run first.result) rule_cuts groups in
    record { result = record { rules = next.result.rules; cases = first.result ++ next.result.cases }; messages = first.messages ++ next.messages }

-- What is inside a feature: its own cases, and then its rules. (Cucumber's Gherkin reference: rule)
abbrev pub inside_of : Run → FeatureCuts → ChosenValue → State → Bool → Ran Inside
inside_of run cuts f section is_open = inside_by run section is_open cuts.cases cuts.rules (own_members f) (rule_groups f)

-- The result of a feature in the run's state. The feature is begun if the run is open so far and the feature has a selected case. What is inside it is reached if it was begun and its before list passed whole. (behave's documentation: environment file functions)
abbrev pub feature_of : Run → State → Bool → FeatureCuts → ChosenValue → Ran FeatureRow
feature_of run outside is_open cuts f =
    let ran = section_of run levels.Feature f.tags outside (is_open && has_selected f.members) cuts.own (inside_of run cuts f) in
    record { result = feature_row_of f ran.result.around ran.result.inside; messages = ran.messages }

-- Features in order. Each has a result, and there is a message about each thing that happens in it. A feature is begun only if the run is open so far.
abbrev pub features_of : Run → State → Bool → List FeatureCuts → List ChosenValue → Ran (List FeatureRow)
features_of run outside is_open cuts [] = record { result = []; messages = [] }
features_of run outside is_open cuts (f ∷ fs) =
    let ran = feature_of run outside is_open (first_or uncut_feature cuts) f in
    let next = features_of run outside (is_open && stays_open run ran.result.status) (without_first cuts) fs in
    record { result = ran.result ∷ next.result; messages = ran.messages ++ next.messages }

-- A feature's result is that of some cuts, from the run's state if the run is open.
abbrev pub IsFeatureResult : Run → State → Bool → ChosenValue → FeatureRow → Type 0
IsFeatureResult run now is_open f row = (outside : State) → (is_open ≡ true → now ≡ outside) → (cuts : FeatureCuts) × (row ≡ result_of (feature_of run outside is_open cuts f))

-- An observer was notified of what happens in a feature with this result, for some cuts.
abbrev pub NotifiesFeature : {S : Type 0} → (S → Event → S → Type 0) → (S → Ended → S → Type 0) → Run → State → Bool → ChosenValue → FeatureRow → S → S → Type 0
NotifiesFeature hears ends run outside is_open f row old new = (cuts : FeatureCuts) × IsRan (notifies hears ends) (feature_of run outside is_open cuts f) row old new

-- The last message before a case begins: a step of the before hooks of a feature or a rule, or the end of a case or a rule. (Which of these steps is the last isn't said.)
abbrev pub PrecedesCase : Message → Type 0
PrecedesCase (happens (of_step stage step mark used registered s)) = (stage ≡ before_of levels.Feature) ⊎ (stage ≡ before_of levels.Rule)
PrecedesCase (happens (of_cleanup level cleanup outcome s)) = ⊥
PrecedesCase (has_ended ended) = ⊤

-- The last of these, if there is any, is of a kind that is the last before a case begins.
abbrev pub StopsBeforeCase : List Message → Type 0
StopsBeforeCase [] = ⊤
StopsBeforeCase (last ∷ []) = PrecedesCase last
StopsBeforeCase (first ∷ next ∷ others) = StopsBeforeCase (next ∷ others)

-- An observer got a beginning of the messages about a part of a run, up to the end of a case or a rule, or into a list of before hooks. So it was notified of each case as a whole, and of no after hook or cleanup of a rule or a feature that hasn't ended.
pub record NotifiesInPart {S A : Type 0} (gets : S → Message → S → Type 0) (ran : Ran A) (first last : S) : Type 0 where
  pub front : List Message
  pub rest : List Message
  pub whole : ran.messages ≡ front ++ rest
  pub heard : FoldsTo gets first front last
  pub stops : StopsBeforeCase front

-- An observer was notified of a beginning of what happens in a feature, for some cuts, up to the end of a case or a rule, or into a list of before hooks.
abbrev pub NotifiesFeatureInPart : {S : Type 0} → (S → Event → S → Type 0) → (S → Ended → S → Type 0) → Run → State → Bool → ChosenValue → S → S → Type 0
NotifiesFeatureInPart hears ends run outside is_open f old new = (cuts : FeatureCuts) × NotifiesInPart (notifies hears ends) (feature_of run outside is_open cuts f) old new

-- The result of a feature without rules: its cases run one after another, each from the feature's state.
abbrev pub feature_without_rules : Run → State → Bool → FeatureCuts → ChosenValue → Ran FeatureRow
feature_without_rules run outside is_open cuts f =
    let ran = section_of run levels.Feature f.tags outside (is_open && has_selected f.members) cuts.own (λ section is_ready. cases_of 0 run section is_ready cuts.cases f.members) in
    record { result = feature_row_of f ran.result.around (record { rules = []; cases = ran.result.inside }); messages = ran.messages }

-- A feature without rules, whose cases are in none, has the results that its cases have one after another, each from the feature's state.
abbrev pub FeaturesWithoutRulesHaveTheirCases : Type 0
FeaturesWithoutRulesHaveTheirCases = (run : Run) (outside : State) (is_open : Bool) (cuts : FeatureCuts) (f : ChosenValue) →
    f.rules ≡ [] → CasesFallIntoRules f → feature_of run outside is_open cuts f ≡ feature_without_rules run outside is_open cuts f

-- The results of a feature are in file order: one for each of its rules, and one for each of its cases, with the line of each.
pub record StandsInFileOrder (f : ChosenValue) (row : FeatureRow) : Type 0 where
  pub rules : map (λ (rule : RuleRow). rule.line) row.rules ≡ map (λ (head : HeadValue). head.line) f.rules
  pub cases : map (λ (case : CaseRow). case.line) row.cases ≡ map (λ (m : MemberValue). m.scenario.line) f.members

-- If the cases of a feature fall into its rules, its results are in file order, whatever is begun and wherever they are cut.
abbrev pub ResultsStandInFileOrder : Type 0
ResultsStandInFileOrder = (run : Run) (outside : State) (is_open : Bool) (cuts : FeatureCuts) (f : ChosenValue) → CasesFallIntoRules f → StandsInFileOrder f (result_of (feature_of run outside is_open cuts f))
