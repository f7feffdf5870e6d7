-- What is inside of a feature, and what it comes to.
use Rattle.gk_run.proofs.Common.{Bool, List, [], ap, arith, false, flat_map, map, length, refl, subst, sym, true, ℕ, ◌&&◌, ◌++◌, ◌∙◌, ◌≡◌, append-nil, common_steps, State, CaseResult, RuleResult, Status, FoldsTo, all_stay_open, case_statuses, cases_of, Event, Ended, IsRan, Ran, Message, notifies, AreCasesInPart, AreRulesInPart, IsFeatureEnd, IsFeatureEndInPart, IsInside, IsInsideInPart, RunsCases, RunsFeature, RunsRules, StopsFeature, ChosenValue, MemberValue, has_selected, CasesFallIntoRules, Group, own_members, rule_groups, FeatureCuts, FeaturesWithoutRulesHaveTheirCases, feature_row_of, feature_verdict, inside_by, inside_of, rule_statuses, Inside, NotifiesInPart, feature_of, rules_of, uncut_feature, SectionRow, section_of, section_state, Run, CaseRow, FeatureRow, case_row, rule_row, nowhere}
use Rattle.gk_run.specs.declared.results.Status.TheVariants as statuses
use Rattle.gk_run.specs.declared.section.Level.TheVariants as levels
use Rattle.gk_run.proofs.CasesLemmas.{stops_cases}
use Rattle.gk_run.proofs.PartLemmas.{messages_between}
use Rattle.gk_run.proofs.EventLemmas.{heard_both}
use Rattle.gk_run.proofs.GroupingLemmas.{and_left, groups_all}

-- what is inside, from its own cases and its rules
pub inside_is : {S : Type 0} (hears : S → Event → S → Type 0) (ends : S → Ended → S → Type 0) (run : Run) (now then : State) (is_open all_stay opens : Bool) (own : List MemberValue) (groups : List Group) (old mid new : List CaseResult) (results : List RuleResult) (begin here last : S) → old ≡ [] → length mid ≡ length own → then ≡ now → opens ≡ (is_open && all_stay) →
    RunsCases hears ends run now is_open own old mid begin here all_stay → RunsRules hears ends run then opens groups mid new results here last →
    IsInside (notifies hears ends) run now is_open own groups (record { rules = map rule_row results; cases = map case_row new }) begin last
inside_is hears ends run now then is_open all_stay opens own groups old mid new results begin here last nothing counted same open_is cases rules section open_at =
    let messages_by = notifies hears ends in
    let mine = cases.are section open_at in
    let theirs = rules.are section (λ o. same ∙ open_at (and_left is_open all_stay (sym open_is ∙ o))) in
    let first_ran = cases_of 0 run section is_open mine.0 own in
    let mine_are : IsRan messages_by first_ran cases.rows begin here = subst (λ (n : ℕ). IsRan messages_by (cases_of n run section is_open mine.0 own) cases.rows begin here) (ap length nothing) mine.1 in
    let opens_so : opens ≡ (is_open && all_stay_open run first_ran.result) = open_is ∙ ap (λ (b : Bool). is_open && b) (cases.stay ∙ ap (all_stay_open run) mine_are.is) in
    let added : map case_row new ≡ cases.rows ++ rules.rows =
    rules.added ∙ ap (λ (rs : List CaseRow). rs ++ rules.rows) (cases.added ∙ ap (λ (rs : List CaseResult). map case_row rs ++ cases.rows) nothing) in
    let rules_in : Inside = record { rules = map rule_row results; cases = rules.rows } in
    let next = rules_of (length own) run section (is_open && all_stay_open run first_ran.result) theirs.0 groups in
    let theirs_are : IsRan messages_by next rules_in here last = subst (λ (b : Bool). IsRan messages_by (rules_of (length own) run section b theirs.0 groups) rules_in here last) opens_so (subst (λ (n : ℕ). IsRan messages_by (rules_of n run section opens theirs.0 groups) rules_in here last) counted theirs.1) in
    let both : List CaseRow → Inside → Inside = λ rs n. record { rules = n.rules; cases = rs ++ n.cases } in (
      mine.0,
      theirs.0,
      record {
        is = ap (λ (rs : List CaseRow). record { rules = map rule_row results; cases = rs }) added ∙ ap (λ rs. both rs rules_in) mine_are.is ∙ ap (both first_ran.result) theirs_are.is;
        heard = heard_both messages_by begin first_ran.messages here next.messages last mine_are.heard theirs_are.heard;
      },
    )

-- a feature that isn't begun
pub feature_unbegun : {S : Type 0} (gets : S → Message → S → Type 0) (run : Run) (now : State) (is_begun : Bool) (tags : List (List ℕ)) (own : List MemberValue) (groups : List Group) (inside : Inside) (first last : S) → is_begun ≡ false → IsInside gets run now false own groups inside first last →
    IsFeatureEnd gets run now is_begun tags own groups (record { around = statuses.Passed; inside = inside }) first last
feature_unbegun gets run now true tags own groups inside first last unbegun is outside opens = let no : ⊥ = cc in absurd no
feature_unbegun gets run now false tags own groups inside first last unbegun is outside opens =
    let section = section_state run levels.Feature tags outside in
    let known = is section (λ o. let no : ⊥ = cc in absurd no) in
    let ran = inside_by run section false known.0 known.1 own groups in
    let with_inside : Inside → SectionRow Inside = λ i. record { around = statuses.Passed; inside = i } in
    (nowhere, known.0, known.1, record { is = ap with_inside known.2.is; heard = subst (λ xs. FoldsTo gets first xs last) (sym (append-nil ran.messages)) known.2.heard })

-- the row of a feature, from what it came to
pub feature_is : {S : Type 0} (hears : S → Event → S → Type 0) (ends : S → Ended → S → Type 0) (run : Run) (now : State) (is_open is_begun : Bool) (f : ChosenValue) (status : Status) (end : SectionRow Inside) (first last : S) → is_begun ≡ (is_open && has_selected f.members) →
    status ≡ feature_verdict end.around (rule_statuses end.inside.rules) (case_statuses end.inside.cases) → IsFeatureEnd (notifies hears ends) run now is_begun f.tags (own_members f) (rule_groups f) end first last →
    RunsFeature hears ends run now is_open f first last (record { source = f.source; name = f.name; line = f.line; status = status; around = end.around; rules = end.inside.rules; cases = end.inside.cases })
feature_is hears ends run now is_open is_begun f status end first last begins verdict comes outside opens =
    let known = comes outside (λ b. opens (and_left is_open (has_selected f.members) (sym begins ∙ b))) in
    let row : Status → FeatureRow = λ s. record { source = f.source; name = f.name; line = f.line; status = s; around = end.around; rules = end.inside.rules; cases = end.inside.cases } in
    let inside : State → Bool → Ran Inside = λ section is_ready. inside_by run section is_ready known.1 known.2 (own_members f) (rule_groups f) in
    let by_end : SectionRow Inside → FeatureRow = λ e. feature_row_of f e.around e.inside in
    let here = subst (λ (b : Bool). IsRan (notifies hears ends) (section_of run levels.Feature f.tags outside b known.0 inside) end first last) begins known.3 in
    (record { own = known.0; cases = known.1; rules = known.2 }, record { is = ap row verdict ∙ ap by_end here.is; heard = here.heard })

-- ---- the messages about a part of a feature

-- of what is inside, the messages are about a part of its own cases
pub own_in_part : {S : Type 0} (gets : S → Message → S → Type 0) (index : ℕ) (run : Run) (now : State) (is_open : Bool) (own : List MemberValue) (groups : List Group) (first last : S) → index ≡ 0 → AreCasesInPart gets index run now is_open own first last →
    IsInsideInPart gets run now is_open own groups first last
own_in_part gets index run now is_open own groups first last is cases section open_at =
    let part = cases section open_at in
    let here : NotifiesInPart gets (cases_of 0 run section is_open part.0 own) first last = subst (λ (n : ℕ). NotifiesInPart gets (cases_of n run section is_open part.0 own) first last) is part.1 in
    let mine = cases_of 0 run section is_open part.0 own in
    let next = rules_of (length own) run section (is_open && all_stay_open run mine.result) [] groups in
    (part.0, [], messages_between gets mine (inside_by run section is_open part.0 [] own groups) [] next.messages first first last refl refl tt here)

-- of what is inside, the messages are about a part of the rules
pub rules_in_part : {S : Type 0} (hears : S → Event → S → Type 0) (ends : S → Ended → S → Type 0) (run : Run) (now then : State) (is_open all_stay opens : Bool) (own : List MemberValue) (groups : List Group) (old mid : List CaseResult) (begin here last : S) → old ≡ [] → length mid ≡ length own → then ≡ now → opens ≡ (is_open && all_stay) →
    RunsCases hears ends run now is_open own old mid begin here all_stay → AreRulesInPart (notifies hears ends) (length mid) run then opens groups here last →
    IsInsideInPart (notifies hears ends) run now is_open own groups begin last
rules_in_part hears ends run now then is_open all_stay opens own groups old mid begin here last nothing counted same open_is cases rules section open_at =
    let messages_by = notifies hears ends in
    let mine = cases.are section open_at in
    let theirs = rules section (λ o. same ∙ open_at (and_left is_open all_stay (sym open_is ∙ o))) in
    let first_ran = cases_of 0 run section is_open mine.0 own in
    let mine_are : IsRan messages_by first_ran cases.rows begin here = subst (λ (n : ℕ). IsRan messages_by (cases_of n run section is_open mine.0 own) cases.rows begin here) (ap length nothing) mine.1 in
    let opens_so : opens ≡ (is_open && all_stay_open run first_ran.result) = open_is ∙ ap (λ (b : Bool). is_open && b) (cases.stay ∙ ap (all_stay_open run) mine_are.is) in
    let next = rules_of (length own) run section (is_open && all_stay_open run first_ran.result) theirs.0 groups in
    let theirs_are : NotifiesInPart messages_by next here last = subst (λ (b : Bool). NotifiesInPart messages_by (rules_of (length own) run section b theirs.0 groups) here last) opens_so (subst (λ (n : ℕ). NotifiesInPart messages_by (rules_of n run section opens theirs.0 groups) here last) counted theirs.1) in
    (mine.0, theirs.0, messages_between messages_by next (inside_by run section is_open mine.0 theirs.0 own groups) first_ran.messages [] begin here last (ap (λ xs. first_ran.messages ++ xs) (sym (append-nil next.messages))) mine_are.heard (stops_cases 0 run section is_open mine.0 own) theirs_are)

-- a feature that isn't begun
pub unbegun_in_part : {S : Type 0} (gets : S → Message → S → Type 0) (run : Run) (now : State) (is_begun : Bool) (tags : List (List ℕ)) (own : List MemberValue) (groups : List Group) (first last : S) → is_begun ≡ false → IsInsideInPart gets run now false own groups first last →
    IsFeatureEndInPart gets run now is_begun tags own groups first last
unbegun_in_part gets run now true tags own groups first last unbegun is outside opens = let no : ⊥ = cc in absurd no
unbegun_in_part gets run now false tags own groups first last unbegun is outside opens =
    let section = section_state run levels.Feature tags outside in
    let known = is section (λ o. let no : ⊥ = cc in absurd no) in
    let inside : State → Bool → Ran Inside = λ section is_ready. inside_by run section is_ready known.0 known.1 own groups in
    (nowhere, known.0, known.1, messages_between gets (inside section false) (section_of run levels.Feature tags outside false nowhere inside) [] [] first first last refl refl tt known.2)

pub feature_in_part : {S : Type 0} (hears : S → Event → S → Type 0) (ends : S → Ended → S → Type 0) (run : Run) (now : State) (is_open is_begun : Bool) (f : ChosenValue) (first last : S) → is_begun ≡ (is_open && has_selected f.members) →
    IsFeatureEndInPart (notifies hears ends) run now is_begun f.tags (own_members f) (rule_groups f) first last → StopsFeature hears ends run now is_open f first last
feature_in_part hears ends run now is_open is_begun f first last begins stops outside opens =
    let known = stops outside (λ b. opens (and_left is_open (has_selected f.members) (sym begins ∙ b))) in
    let inside : State → Bool → Ran Inside = λ section is_ready. inside_by run section is_ready known.1 known.2 (own_members f) (rule_groups f) in
    let here = subst (λ (b : Bool). NotifiesInPart (notifies hears ends) (section_of run levels.Feature f.tags outside b known.0 inside) first last) begins known.3 in
    (record { own = known.0; cases = known.1; rules = known.2 }, record { front = here.front; rest = here.rest; whole = here.whole; heard = here.heard; stops = here.stops })

-- a feature without messages
pub feature_silent : {S : Type 0} (hears : S → Event → S → Type 0) (ends : S → Ended → S → Type 0) (run : Run) (now : State) (is_open : Bool) (f : ChosenValue) (here : S) → StopsFeature hears ends run now is_open f here here
feature_silent hears ends run now is_open f here outside opens = let ran = feature_of run outside is_open uncut_feature f in (uncut_feature, record { front = []; rest = ran.messages; whole = refl; heard = refl; stops = tt })

-- ---- a feature without rules

own_are_all : (f : ChosenValue) → f.rules ≡ [] → CasesFallIntoRules f → own_members f ≡ f.members
own_are_all f none falls = grind (arith, common_steps, append-nil, flat_map, groups_all)

inside_without_rules : (run : Run) (section : State) (is_open : Bool) (cuts : FeatureCuts) (f : ChosenValue) → f.rules ≡ [] → CasesFallIntoRules f →
    inside_of run cuts f section is_open ≡ (let ran = cases_of 0 run section is_open cuts.cases f.members in record { result = record { rules = []; cases = ran.result }; messages = ran.messages })
inside_without_rules run section is_open cuts f none falls = grind (arith, common_steps, append-nil, own_are_all)

pub without_rules : FeaturesWithoutRulesHaveTheirCases
without_rules run outside is_open cuts f none falls = grind (arith, common_steps, inside_without_rules)
