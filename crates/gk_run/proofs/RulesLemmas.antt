-- Rules, one after another.
use Rattle.gk_run.proofs.Common.{Bool, List, [], ap, append_assoc, arith, false, map, refl, subst, sym, true, ℕ, ◌&&◌, ◌++◌, ◌+◌, ◌∙◌, ◌∷◌, ◌≡◌, common_steps, length, map_push, State, CaseResult, RuleResult, RuleEnd, FoldsTo, cases_of, stays_open, Event, Ended, IsRan, Ran, Message, has_ended, of_rule, notifies, AreCases, AreCasesInPart, AreRulesInPart, IsRule, IsRuleInPart, RunsRule, RunsRules, has_selected, Group, SectionRow, section_of, section_state, Run, CaseRow, RuleRow, case_row, rule_row, Inside, NotifiesInPart, RuleCuts, rule_of, rule_stays_open, rules_of, Cut, nowhere}
use Rattle.std.proofs.lemmas.List.{append-nil}
use Rattle.gk_run.specs.declared.results.Status.TheVariants as statuses
use Rattle.gk_run.specs.declared.section.Level.TheVariants as levels
use Rattle.gk_run.proofs.PartLemmas.{GoesFrom, ran_of, ran_whole, stops_behind, stops_both, messages_between, messages_further}
use Rattle.gk_run.proofs.EventLemmas.{heard_both}
use Rattle.gk_run.proofs.GroupingLemmas.{and_left}

pub passed_stays : (run : Run) → stays_open run statuses.Passed ≡ true
passed_stays run = grind (arith, common_steps)

-- a rule that was begun, from what its section came to
pub rule_begun : {S : Type 0} (gets : S → Message → S → Type 0) (index : ℕ) (run : Run) (now : State) (is_open is_begun : Bool) (tags : List (List ℕ)) (g : Group) (row : SectionRow (List CaseRow)) (first last : S) → is_begun ≡ (is_open && has_selected g.members) → is_begun ≡ true → tags ≡ g.head.tags →
    (cut : Cut) × (cuts : List Cut) × IsRan gets (section_of run levels.Rule tags now true cut (λ section is_ready. cases_of index run section is_ready cuts g.members)) row first last → IsRule gets index run now is_open g row first last
rule_begun gets index run now is_open is_begun tags g row first last begins begun same known outside opens =
    let inside : State → Bool → Ran (List CaseRow) = λ section is_ready. cases_of index run section is_ready known.1 g.members in
    let here : now ≡ outside = opens (and_left is_open (has_selected g.members) (sym begins ∙ begun)) in (
      record { own = known.0; cases = known.1 },
      subst (λ (r : Ran (SectionRow (List CaseRow))). IsRan gets r row first last)
          (ap (λ (ts : List (List ℕ)). section_of run levels.Rule ts now true known.0 inside) same ∙ ap (λ (s : State). section_of run levels.Rule g.head.tags s true known.0 inside) here
          ∙ ap (λ (b : Bool). section_of run levels.Rule g.head.tags outside b known.0 inside) (sym begun ∙ begins)) known.2,
    )

-- a rule that isn't begun
pub rule_unbegun : {S : Type 0} (gets : S → Message → S → Type 0) (index : ℕ) (run : Run) (now : State) (is_open is_begun : Bool) (g : Group) (rows : List CaseRow) (first last : S) → is_begun ≡ (is_open && has_selected g.members) → is_begun ≡ false →
    AreCases gets index run now false g.members rows first last → IsRule gets index run now is_open g (record { around = statuses.Passed; inside = rows }) first last
rule_unbegun gets index run now is_open is_begun g rows first last begins unbegun are outside opens =
    let section = section_state run levels.Rule g.head.tags outside in
    let known = are section (λ o. let no : ⊥ = cc in absurd no) in
    let inside : State → Bool → Ran (List CaseRow) = λ section is_ready. cases_of index run section is_ready known.0 g.members in
    let ran = inside section false in
    let with_rows : List CaseRow → SectionRow (List CaseRow) = λ rs. record { around = statuses.Passed; inside = rs } in
    let unran : IsRan gets (section_of run levels.Rule g.head.tags outside false nowhere inside) (with_rows rows) first last = record { is = ap with_rows known.1.is; heard = subst (λ xs. FoldsTo gets first xs last) (sym (append-nil ran.messages)) known.1.heard } in
    (record { own = nowhere; cases = known.0 }, subst (λ (b : Bool). IsRan gets (section_of run levels.Rule g.head.tags outside b nowhere inside) (with_rows rows) first last) (sym unbegun ∙ begins) unran)

-- a rule that was begun, and the messages about a part of it
pub rule_begun_in_part : {S : Type 0} (gets : S → Message → S → Type 0) (index : ℕ) (run : Run) (now : State) (is_open is_begun : Bool) (tags : List (List ℕ)) (g : Group) (first last : S) → is_begun ≡ (is_open && has_selected g.members) → is_begun ≡ true → tags ≡ g.head.tags →
    (cut : Cut) × (cuts : List Cut) × NotifiesInPart gets (section_of run levels.Rule tags now true cut (λ section is_ready. cases_of index run section is_ready cuts g.members)) first last → IsRuleInPart gets index run now is_open g first last
rule_begun_in_part gets index run now is_open is_begun tags g first last begins begun same known outside opens =
    let inside : State → Bool → Ran (List CaseRow) = λ section is_ready. cases_of index run section is_ready known.1 g.members in
    let here : now ≡ outside = opens (and_left is_open (has_selected g.members) (sym begins ∙ begun)) in (
      record { own = known.0; cases = known.1 },
      subst (λ (r : Ran (SectionRow (List CaseRow))). NotifiesInPart gets r first last)
          (ap (λ (ts : List (List ℕ)). section_of run levels.Rule ts now true known.0 inside) same ∙ ap (λ (s : State). section_of run levels.Rule g.head.tags s true known.0 inside) here
          ∙ ap (λ (b : Bool). section_of run levels.Rule g.head.tags outside b known.0 inside) (sym begun ∙ begins)) known.2,
    )

-- a rule that isn't begun, and the messages about a part of it
pub rule_unbegun_in_part : {S : Type 0} (gets : S → Message → S → Type 0) (index : ℕ) (run : Run) (now : State) (is_open is_begun : Bool) (g : Group) (first last : S) → is_begun ≡ (is_open && has_selected g.members) → is_begun ≡ false →
    AreCasesInPart gets index run now false g.members first last → IsRuleInPart gets index run now is_open g first last
rule_unbegun_in_part gets index run now is_open is_begun g first last begins unbegun are outside opens =
    let section = section_state run levels.Rule g.head.tags outside in
    let known = are section (λ o. let no : ⊥ = cc in absurd no) in
    let inside : State → Bool → Ran (List CaseRow) = λ section is_ready. cases_of index run section is_ready known.0 g.members in
    let unran : NotifiesInPart gets (section_of run levels.Rule g.head.tags outside false nowhere inside) first last =
    messages_between gets (inside section false) (section_of run levels.Rule g.head.tags outside false nowhere inside) [] [] first first last refl refl tt known.1 in
    (record { own = nowhere; cases = known.0 }, subst (λ (b : Bool). NotifiesInPart gets (section_of run levels.Rule g.head.tags outside b nowhere inside) first last) (sym unbegun ∙ begins) unran)

-- the results of some rules, and then those of others
abbrev pub joined : Inside → Inside → Inside
joined these those = record { rules = these.rules ++ those.rules; cases = these.cases ++ those.cases }

-- the rules that were run so far, and those that are left: however these are cut, all have cuts with these results before the others, and the messages about them
pub record GoesRules {S : Type 0} (hears : S → Event → S → Type 0) (ends : S → Ended → S → Type 0) (run : Run) (first : State) (first_open : Bool) (all : List Group) (old now : List CaseResult) (is_open : Bool) (results : List RuleResult) (left : List Group) (begin here : S) : Type 0 where
  pub rows : List CaseRow
  pub added : map case_row now ≡ map case_row old ++ rows
  pub earlier : is_open ≡ true → first_open ≡ true
  pub goes : (outside : State) → (first_open ≡ true → first ≡ outside) →
      GoesFrom (notifies hears ends) (λ (cuts : List RuleCuts). rules_of (length old) run outside first_open cuts all) (λ (cuts : List RuleCuts). rules_of (length now) run outside is_open cuts left) (joined (record { rules = map rule_row results; cases = rows })) begin here

pub rules_first : {S : Type 0} (hears : S → Event → S → Type 0) (ends : S → Ended → S → Type 0) (run : Run) (first : State) (first_open : Bool) (all : List Group) (old : List CaseResult) (begin : S) →
    GoesRules hears ends run first first_open all old old first_open [] all begin begin
rules_first hears ends run first first_open all old begin = record {
  rows = [];
  added = sym (append-nil (map case_row old));
  earlier = λ o. o;
  goes = λ outside opens. record { front = []; heard = refl; stops = tt; cuts = λ cuts. (cuts, refl) };
}

-- the results of one rule more, and the messages about it
push_rule : (rules : List RuleRow) (rows : List CaseRow) (rule : RuleRow) (inside : List CaseRow) (front events : List Message) (ended : Message) (next : Ran Inside) →
    ran_of (joined (record { rules = rules; cases = rows }) (record { rules = rule ∷ next.result.rules; cases = inside ++ next.result.cases })) (front ++ (events ++ ended ∷ next.messages))
    ≡ ran_of (joined (record { rules = rules ++ rule ∷ []; cases = rows ++ inside }) next.result) ((front ++ (events ++ ended ∷ [])) ++ next.messages)
push_rule rules rows rule inside front events ended next = grind (arith, common_steps)

pub rules_on : {S : Type 0} (hears : S → Event → S → Type 0) (ends : S → Ended → S → Type 0) (run : Run) (first now_state : State) (first_open : Bool) (all : List Group) (old now next : List CaseResult) (is_open opens : Bool) (results pushed : List RuleResult) (g : Group) (left : List Group) (end : RuleEnd) (result : RuleResult) (begin here there after : S) →
    GoesRules hears ends run first first_open all old now is_open results (g ∷ left) begin here → now_state ≡ first →
    RunsRule hears ends run now_state is_open g now next here there end → ends there (of_rule (rule_row result)) after → opens ≡ (is_open && end.stays_open) → pushed ≡ results ++ result ∷ [] → rule_row result ≡ record { line = g.head.line; around = end.around } → length next ≡ length now + length g.members →
    GoesRules hears ends run first first_open all old next opens pushed left begin after
rules_on hears ends run first now_state first_open all old now next is_open opens results pushed g left end result begin here there after so_far same ran ended opens_is pushed_is result_is counted =
    let row : SectionRow (List CaseRow) = record { around = end.around; inside = ran.rows } in
    let messages_by = notifies hears ends in
    let rows = so_far.rows in
    let opens_so : opens ≡ (is_open && rule_stays_open run row) = opens_is ∙ ap (λ (b : Bool). is_open && b) ran.stay in
    record {
      rows = rows ++ ran.rows;
      added = ran.added ∙ ap (λ rs. rs ++ ran.rows) so_far.added ∙ append_assoc (map case_row old) rows ran.rows;
      earlier = λ o. so_far.earlier (and_left is_open end.stays_open (sym opens_is ∙ o));
      goes = λ outside open_at.
          let one = ran.is outside (λ o. same ∙ open_at (so_far.earlier o)) in
          let of_ran = rule_of (length now) run outside is_open one.0 g in
          let row_by : SectionRow (List CaseRow) → RuleRow = λ e. record { line = g.head.line; around = e.around } in
          let ends_so : ends there (of_rule (row_by of_ran.result)) after =
          subst (λ (e : SectionRow (List CaseRow)). ends there (of_rule (row_by e)) after) one.1.is (subst (λ (x : RuleRow). ends there (of_rule x) after) result_is ended) in
          let ended_so = has_ended (of_rule (row_by of_ran.result)) in
          let before = so_far.goes outside open_at in
          let tail = of_ran.messages ++ ended_so ∷ [] in
          let front = before.front ++ tail in
          let stay = is_open && rule_stays_open run of_ran.result in
          let opens_at : opens ≡ stay = opens_so ∙ ap (λ (e : SectionRow (List CaseRow)). is_open && rule_stays_open run e) one.1.is in
          let rules_are : map rule_row pushed ≡ map rule_row results ++ row_by row ∷ [] = ap (map rule_row) pushed_is ∙ map_push rule_row results result ∙ ap (λ (x : RuleRow). map rule_row results ++ x ∷ []) result_is in
          let put : List RuleRow → List CaseRow → Ran Inside → Ran Inside = λ rs cs more. ran_of (joined (record { rules = rs; cases = cs }) more.result) (front ++ more.messages) in
          let put_row : SectionRow (List CaseRow) → Ran Inside → Ran Inside = λ e more. put (map rule_row results ++ row_by e ∷ []) (rows ++ e.inside) more in
          let others : ℕ → Bool → List RuleCuts → Ran Inside = λ n b cuts. rules_of n run outside b cuts left in
          let index = length now + length g.members in
          record {
            front = front;
            heard = heard_both messages_by begin before.front here tail after before.heard (heard_both messages_by here of_ran.messages there (ended_so ∷ []) after one.1.heard (after, ends_so, refl));
            stops = stops_both before.front tail before.stops (stops_behind of_ran.messages ended_so [] tt tt);
            cuts = λ cuts.
                let whole = before.cuts (one.0 ∷ cuts) in (
                  whole.0,
                  whole.1 ∙ push_rule (map rule_row results) rows (row_by of_ran.result) of_ran.result.inside before.front of_ran.messages ended_so (others index stay cuts)
                      ∙ ap (λ (e : SectionRow (List CaseRow)). put_row e (others index stay cuts)) (sym one.1.is)
                      ∙ ap (λ (b : Bool). put_row row (others index b cuts)) (sym opens_at)
                      ∙ ap (λ (n : ℕ). put_row row (others n opens cuts)) (sym counted)
                      ∙ ap (λ (rs : List RuleRow). put rs (rows ++ ran.rows) (others (length next) opens cuts)) (sym rules_are),
                );
          };
    }

-- rules, with messages about a part of the next one
pub rules_stopped : {S : Type 0} (hears : S → Event → S → Type 0) (ends : S → Ended → S → Type 0) (run : Run) (first now_state : State) (first_open : Bool) (all : List Group) (old now : List CaseResult) (is_open : Bool) (results : List RuleResult) (g : Group) (left : List Group) (begin here last : S) →
    GoesRules hears ends run first first_open all old now is_open results (g ∷ left) begin here → now_state ≡ first →
    IsRuleInPart (notifies hears ends) (length now) run now_state is_open g here last → AreRulesInPart (notifies hears ends) (length old) run first first_open all begin last
rules_stopped hears ends run first now_state first_open all old now is_open results g left begin here last so_far same stopped outside open_at =
    let messages_by = notifies hears ends in
    let part = stopped outside (λ o. same ∙ open_at (so_far.earlier o)) in
    let of_ran = rule_of (length now) run outside is_open part.0 g in
    let row : RuleRow = record { line = g.head.line; around = of_ran.result.around } in
    let next = rules_of (length now + length g.members) run outside (is_open && rule_stays_open run of_ran.result) [] left in
    messages_further messages_by (λ (cuts : List RuleCuts). rules_of (length old) run outside first_open cuts all) (λ (cuts : List RuleCuts). rules_of (length now) run outside is_open cuts (g ∷ left)) (joined (record { rules = map rule_row results; cases = so_far.rows })) begin here last (part.0 ∷ []) of_ran (has_ended (of_rule row) ∷ next.messages) refl (so_far.goes outside open_at) part.1

joined_nil : (i : Inside) → joined i (record { rules = []; cases = [] }) ≡ i
joined_nil i = ap (λ (rs : List RuleRow). record { rules = rs; cases = i.cases ++ [] }) (append-nil i.rules) ∙ ap (λ (cs : List CaseRow). record { rules = i.rules; cases = cs }) (append-nil i.cases)

pub rules_last : {S : Type 0} (hears : S → Event → S → Type 0) (ends : S → Ended → S → Type 0) (run : Run) (first : State) (first_open : Bool) (all : List Group) (old now : List CaseResult) (is_open : Bool) (results : List RuleResult) (begin here : S) →
    GoesRules hears ends run first first_open all old now is_open results [] begin here → RunsRules hears ends run first first_open all old now results begin here
rules_last hears ends run first first_open all old now is_open results begin here so_far = record {
  rows = so_far.rows;
  added = so_far.added;
  are = λ outside opens.
      let so : Inside = record { rules = map rule_row results; cases = so_far.rows } in
      let whole = ran_whole (notifies hears ends) (λ (cuts : List RuleCuts). rules_of (length old) run outside first_open cuts all) (λ (cuts : List RuleCuts). rules_of (length now) run outside is_open cuts []) (joined so) (record { rules = []; cases = [] }) begin here (λ cuts. refl) (so_far.goes outside opens) in
      (whole.0, subst (λ (i : Inside). IsRan (notifies hears ends) (rules_of (length old) run outside first_open whole.0 all) i begin here) (joined_nil so) whole.1);
}
