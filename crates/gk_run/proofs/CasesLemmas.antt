-- Cases, one after another.
use Rattle.gk_run.proofs.Common.{FoldsTo, list_any, ◌⊎◌, inl, inr, Bool, List, [], ap, append_assoc, arith, cond, false, length, map, refl, suc, subst, sym, true, ℕ, ◌&&◌, ◌++◌, ◌||◌, ◌∙◌, ◌∷◌, ◌≡◌, Err, IfOk, Ok, Result, common_steps, length-append, map_push, StepValue, Case, State, CaseResult, Mark, Skipped, Untested, Status, Run, NotifiesEvents, alone, reached_row, unrun_row, unreached_row, unselected_row, same_marks, all_stay_open, case_events, case_of, cases_of, cases_messages, first_or, without_first, stays_open, row_of_step, rows_of_steps, MemberValue, has_selected, members_of, Event, Ended, IsRan, Ran, Message, happens, has_ended, of_case, notifies, StopsBeforeCase, AreCasesInPart, IsMember, RunsCases, members_in, Member, RuleResult, CaseRow, RuleRow, case_row, rule_row, Cut, happened, in_order, nowhere}
use Rattle.std.proofs.lemmas.List.{append-nil}
use Rattle.gk_run.specs.declared.results.Status.TheVariants as statuses
use Rattle.gk_run.proofs.EventLemmas.{heard_both}
use Rattle.gk_run.proofs.NotifiedLemmas.{heard_messages}
use Rattle.gk_run.proofs.PartLemmas.{GoesFrom, ran_of, ran_whole, stops_behind, stops_both, messages_so_far}
use Rattle.gk_run.proofs.GroupingLemmas.{and_left}
use Rattle.gk_run.proofs.Nothing.{nothing_in}

-- a test of statuses, as the code makes it
pub statuses_any : (p : Status → Bool) (cases : List CaseResult) → list_any p (map (λ (row : CaseRow). row.status) (map case_row cases)) ≡ list_any (λ (c : CaseResult). p c.status) cases
statuses_any p [] = refl
statuses_any p (c ∷ cs) = ap (λ b. p c.status || b) (statuses_any p cs)

-- the same of rules
pub arounds_any : (p : Status → Bool) (rules : List RuleResult) → list_any p (map (λ (row : RuleRow). row.around) (map rule_row rules)) ≡ list_any (λ (r : RuleResult). p r.around) rules
arounds_any p [] = refl
arounds_any p (r ∷ rs) = ap (λ b. p r.around || b) (arounds_any p rs)

-- how a section's own hooks and cleanups ended, or those of a rule
pub around_or : (p : Status → Bool) (rules : List RuleResult) (around : Status) (a b both : Bool) → a ≡ p around → b ≡ list_any (λ (r : RuleResult). p r.around) rules → both ≡ (a || b) →
    both ≡ list_any p (around ∷ map (λ (row : RuleRow). row.around) (map rule_row rules))
around_or p rules around a b both first others is = is ∙ ap (λ x. x || b) first ∙ ap (λ x. p around || x) (others ∙ sym (arounds_any p rules))

selected_in : (members : List Member) → list_any (λ (m : Member). m.selected) members ≡ has_selected (members_in members)
selected_in [] = refl
selected_in (m ∷ ms) = ap (λ b. m.selected || b) (selected_in ms)

-- whether a rule is begun, as the code finds it
pub begins_by : (begun is_open selects : Bool) (members here : List Member) → begun ≡ (is_open && selects) → selects ≡ list_any (λ (m : Member). m.selected) here → here ≡ members → begun ≡ (is_open && has_selected (members_in members))
begins_by begun is_open selects members here both test same = both ∙ ap (λ b. is_open && b) (test ∙ ap (list_any (λ (m : Member). m.selected)) same ∙ selected_in members)

pub selected_any : (cases : List Case) (selected : List Bool) → length selected ≡ length cases → has_selected (members_of cases selected) ≡ list_any (λ (s : Bool). s) selected
selected_any [] [] h = refl
selected_any [] (s ∷ ss) h = absurd (omega arith)
selected_any (c ∷ cs) [] h = absurd (omega arith)
selected_any (c ∷ cs) (s ∷ ss) h = ap (λ b. s || b) (selected_any cs ss (omega arith))

-- without a choice there are no members
members_nil : (cases : List Case) → members_of cases [] ≡ []
members_nil [] = refl
members_nil (c ∷ cs) = refl

-- where the cases or the choices have ended, so have the members
pub members_end : (cases : List Case) (choices : List Bool) → (length cases ≡ 0) ⊎ (length choices ≡ 0) → members_of cases choices ≡ []
members_end cases choices (inl e) = ap (λ cs. members_of cs choices) (nothing_in cases e)
members_end cases choices (inr e) = ap (members_of cases) (nothing_in choices e) ∙ members_nil cases

-- members of the same cases and choices
pub members_are : (these cases : List Case) (those choices : List Bool) → these ≡ cases → those ≡ choices → members_of these those ≡ members_of cases choices
members_are these cases those choices e h = ap (λ cs. members_of cs those) e ∙ ap (members_of cases) h

-- the same mark for each step
pub all_unrun : (mark : Mark) (steps : List StepValue) → rows_of_steps steps (map (λ (step : StepValue). mark) steps) ≡ map (λ (step : StepValue). row_of_step step mark) steps
all_unrun mark [] = refl
all_unrun mark (step ∷ steps) = ap (λ rs. row_of_step step mark ∷ rs) (all_unrun mark steps)

without_marks : (steps : List StepValue) → rows_of_steps steps [] ≡ rows_of_steps steps (map (λ (step : StepValue). Untested) steps)
without_marks [] = refl
without_marks (step ∷ steps) = ap (λ rs. row_of_step step Untested ∷ rs) (without_marks steps)

-- ---- a case

-- the result of a case, and the messages about it, by whether it is selected and whether its section is open
member_by : {S : Type 0} (hears : S → Event → S → Type 0) (run : Run) (section : State) (is_open : Bool) (cut : Cut) (m : MemberValue) (row : CaseRow) (first last : S) (selected opens : Bool) → m.selected ≡ selected → is_open ≡ opens →
    row ≡ cond selected (cond opens (reached_row run section cut m.scenario) (unreached_row m.scenario)) (unselected_row m.scenario) →
    FoldsTo hears first (cond (selected && opens) (in_order (happened cut (alone run section m.scenario))) []) last →
    (cut : Cut) × (row ≡ case_of run section is_open cut m) × FoldsTo hears first (case_events run section is_open cut m) last
member_by hears run section is_open cut m row first last selected opens h o is messages = grind (arith, common_steps)

-- nothing happens in an unselected case
pub member_unselected : {S : Type 0} (hears : S → Event → S → Type 0) (run : Run) (now : State) (is_open : Bool) (m : MemberValue) (row : CaseRow) (first : S) → m.selected ≡ false → row ≡ unrun_row m.scenario statuses.Skipped (same_marks Skipped m.scenario) →
    IsMember hears run now is_open m row first first
member_unselected hears run now is_open m row first h e section opens = member_by hears run section is_open nowhere m row first first false is_open h refl e refl

-- nor in one that isn't reached
pub member_unreached : {S : Type 0} (hears : S → Event → S → Type 0) (run : Run) (now : State) (is_open : Bool) (m : MemberValue) (row : CaseRow) (first : S) → m.selected ≡ true → is_open ≡ false → row ≡ unrun_row m.scenario statuses.Untested (same_marks Untested m.scenario) →
    IsMember hears run now is_open m row first first
member_unreached hears run now is_open m row first h o e section opens = grind (arith, common_steps, member_by, without_marks)

pub member_reached : {S : Type 0} (hears : S → Event → S → Type 0) (run : Run) (now : State) (is_open : Bool) (m : MemberValue) (row : CaseRow) (first last : S) → m.selected ≡ true → is_open ≡ true → NotifiesEvents hears run now m.scenario row first last →
    IsMember hears run now is_open m row first last
member_reached hears run now is_open m row first last h o messages section opens = grind (arith, common_steps)

pub of_ok : {A E : Type 0} {P : A → Type 0} (Q : A → Type 0) (x : Result A E) → IfOk x P → ((a : A) → P a → Q a) → IfOk x Q
of_ok Q (Ok a) h f = f a h
of_ok Q (Err e) h f = h

-- ---- cases, one after another

-- however what is left is cut, the whole has cuts with these rows before the others, and the messages about them; the first case of all has one index, the next one another
abbrev pub GoesCases : {S : Type 0} → (S → Message → S → Type 0) → ℕ → ℕ → Run → State → Bool → List MemberValue → List CaseRow → Bool → List MemberValue → S → S → Type 0
GoesCases gets index next run first first_open all rows is_open left begin here =
    (section : State) → (first_open ≡ true → first ≡ section) → GoesFrom gets (λ (cuts : List Cut). cases_of index run section first_open cuts all) (λ (cuts : List Cut). cases_of next run section is_open cuts left) (λ (more : List CaseRow). rows ++ more) begin here

-- the rows of one case more, and the messages about it
push_case : (rows : List CaseRow) (row : CaseRow) (front events : List Message) (ended : Message) (next : Ran (List CaseRow)) →
    ran_of (rows ++ row ∷ next.result) (front ++ (events ++ ended ∷ next.messages)) ≡ ran_of ((rows ++ row ∷ []) ++ next.result) ((front ++ (events ++ ended ∷ [])) ++ next.messages)
push_case rows row front events ended next = grind (arith, common_steps)

cases_on : {S : Type 0} (hears : S → Event → S → Type 0) (ends : S → Ended → S → Type 0) (index at : ℕ) (run : Run) (first now : State) (first_open : Bool) (all : List MemberValue) (rows : List CaseRow) (row : CaseRow) (is_open next : Bool) (m : MemberValue) (left : List MemberValue) (begin here ran after : S) →
    now ≡ first → (is_open ≡ true → first_open ≡ true) → IsMember hears run now is_open m row here ran → ends ran (of_case at row) after → next ≡ (is_open && stays_open run row.status) →
    GoesCases (notifies hears ends) index at run first first_open all rows is_open (m ∷ left) begin here → GoesCases (notifies hears ends) index (suc at) run first first_open all (rows ++ row ∷ []) next left begin after
cases_on hears ends index at run first now first_open all rows row is_open next m left begin here ran after same earlier one ended nexts goes section opens =
    let messages_by = notifies hears ends in
    let this = one section (λ o. same ∙ opens (earlier o)) in
    let events = case_events run section is_open this.0 m in
    let of_row = case_of run section is_open this.0 m in
    let stays : next ≡ (is_open && stays_open run of_row.status) = nexts ∙ ap (λ (x : CaseRow). is_open && stays_open run x.status) this.1 in
    let ends_so : ends ran (of_case at of_row) after = subst (λ (x : CaseRow). ends ran (of_case at x) after) this.1 ended in
    let so_far = goes section opens in
    let tail = map happens events ++ has_ended (of_case at of_row) ∷ [] in
    let front = so_far.front ++ tail in
    record {
      front = front;
      heard = heard_both messages_by begin so_far.front here tail after so_far.heard
          (heard_both messages_by here (map happens events) ran (has_ended (of_case at of_row) ∷ []) after (heard_messages hears ends here events ran this.2) (after, ends_so, refl));
      stops = stops_both so_far.front tail so_far.stops (stops_behind (map happens events) (has_ended (of_case at of_row)) [] tt tt);
      cuts = λ cuts.
          let whole = so_far.cuts (this.0 ∷ cuts) in
          let others : Bool → Ran (List CaseRow) = λ b. cases_of (suc at) run section b cuts left in
          let put : CaseRow → Ran (List CaseRow) → Ran (List CaseRow) = λ x more. ran_of ((rows ++ x ∷ []) ++ more.result) (front ++ more.messages) in (
            whole.0,
            whole.1 ∙ push_case rows of_row so_far.front (map happens events) (has_ended (of_case at of_row)) (others (is_open && stays_open run of_row.status))
                ∙ ap (λ x. put x (others (is_open && stays_open run of_row.status))) (sym this.1)
                ∙ ap (λ b. put row (others b)) (sym stays),
          );
    }

-- cases end where another may begin
pub stops_cases : (index : ℕ) (run : Run) (section : State) (is_open : Bool) (cuts : List Cut) (members : List MemberValue) → StopsBeforeCase (cases_messages index run section is_open cuts members)
stops_cases index run section is_open cuts [] = tt
stops_cases index run section is_open cuts (m ∷ ms) =
    let cut = first_or nowhere cuts in
    let row = case_of run section is_open cut m in
    let opens = is_open && stays_open run row.status in
    stops_behind (map happens (case_events run section is_open cut m)) (has_ended (of_case index row)) (cases_messages (suc index) run section opens (without_first cuts) ms) tt (stops_cases (suc index) run section opens (without_first cuts) ms)

-- the cases that ran so far, and those that are left
pub record GoesOn {S : Type 0} (hears : S → Event → S → Type 0) (ends : S → Ended → S → Type 0) (run : Run) (first : State) (is_open : Bool) (all : List MemberValue) (old now : List CaseResult) (left : List MemberValue) (all_stay : Bool) (begin here : S) : Type 0 where
  pub rows : List CaseRow
  pub added : map case_row now ≡ map case_row old ++ rows
  pub goes : GoesCases (notifies hears ends) (length old) (length now) run first is_open all rows (is_open && all_stay) left begin here
  pub stay : all_stay ≡ all_stay_open run rows

pub and_true : (a : Bool) → (a && true) ≡ a
and_true true = refl
and_true false = refl

pub and_assoc : (a b c : Bool) → ((a && b) && c) ≡ (a && (b && c))
and_assoc true b c = refl
and_assoc false b c = refl

pub goes_first : {S : Type 0} (hears : S → Event → S → Type 0) (ends : S → Ended → S → Type 0) (run : Run) (first : State) (is_open : Bool) (all : List MemberValue) (old : List CaseResult) (begin : S) → GoesOn hears ends run first is_open all old old all true begin begin
goes_first hears ends run first is_open all old begin = record {
  rows = [];
  added = sym (append-nil (map case_row old));
  goes = subst (λ (b : Bool). GoesCases (notifies hears ends) (length old) (length old) run first is_open all [] b all begin begin) (sym (and_true is_open)) (λ section opens. record { front = []; heard = refl; stops = tt; cuts = λ cuts. (cuts, refl) });
  stay = refl;
}

all_stay_push : (run : Run) (rows : List CaseRow) (row : CaseRow) → all_stay_open run (rows ++ row ∷ []) ≡ (all_stay_open run rows && stays_open run row.status)
all_stay_push run [] row = and_true (stays_open run row.status)
all_stay_push run (r ∷ rows) row = grind (arith, common_steps, and_assoc)

pub goes_on : {S : Type 0} (hears : S → Event → S → Type 0) (ends : S → Ended → S → Type 0) (run : Run) (first now_state : State) (is_open : Bool) (all : List MemberValue) (old now : List CaseResult) (m : MemberValue) (left : List MemberValue) (row : CaseResult) (index : ℕ) (all_stay opens stays : Bool) (begin here ran after : S) →
    GoesOn hears ends run first is_open all old now (m ∷ left) all_stay begin here → opens ≡ (is_open && all_stay) → now_state ≡ first →
    IsMember hears run now_state opens m (case_row row) here ran → index ≡ length now → ends ran (of_case index (case_row row)) after → stays ≡ (all_stay && stays_open run row.status) →
    GoesOn hears ends run first is_open all old (now ++ row ∷ []) left stays begin after
goes_on hears ends run first now_state is_open all old now m left row index all_stay opens stays begin here ran after so_far open_is same one at ended stays_is =
    let rows = so_far.rows in
    let messages_by = notifies hears ends in
    let more = rows ++ case_row row ∷ [] in
    let next : length (now ++ row ∷ []) ≡ suc (length now) = omega (arith, length-append now (row ∷ [])) in
    let there : IsMember hears run now_state (is_open && all_stay) m (case_row row) here ran = subst (λ (b : Bool). IsMember hears run now_state b m (case_row row) here ran) open_is one in
    let ended_at : ends ran (of_case (length now) (case_row row)) after = subst (λ (n : ℕ). ends ran (of_case n (case_row row)) after) at ended in
    let goes : GoesCases messages_by (length old) (suc (length now)) run first is_open all more (is_open && stays) left begin after =
    cases_on hears ends (length old) (length now) run first now_state is_open all rows (case_row row) (is_open && all_stay) (is_open && stays) m left begin here ran after same (and_left is_open all_stay) there ended_at
    (ap (λ b. is_open && b) stays_is ∙ sym (and_assoc is_open all_stay (stays_open run row.status))) so_far.goes in
    record {
      rows = more;
      added = map_push case_row now row ∙ ap (λ rs. rs ++ case_row row ∷ []) so_far.added ∙ append_assoc (map case_row old) rows (case_row row ∷ []);
      goes = subst (λ (n : ℕ). GoesCases messages_by (length old) n run first is_open all more (is_open && stays) left begin after) (sym next) goes;
      stay = stays_is ∙ ap (λ b. b && stays_open run row.status) so_far.stay ∙ sym (all_stay_push run rows (case_row row));
    }

pub goes_last : {S : Type 0} (hears : S → Event → S → Type 0) (ends : S → Ended → S → Type 0) (run : Run) (first : State) (is_open : Bool) (all : List MemberValue) (old now : List CaseResult) (all_stay : Bool) (begin here : S) →
    GoesOn hears ends run first is_open all old now [] all_stay begin here → RunsCases hears ends run first is_open all old now begin here all_stay
goes_last hears ends run first is_open all old now all_stay begin here so_far = record {
  rows = so_far.rows;
  added = so_far.added;
  are = λ section opens.
      let messages_by = notifies hears ends in
      let index = length old in
      let whole = ran_whole messages_by (λ (cuts : List Cut). cases_of index run section is_open cuts all) (λ (cuts : List Cut). cases_of (length now) run section (is_open && all_stay) cuts []) (λ (more : List CaseRow). so_far.rows ++ more) [] begin here (λ cuts. refl) (so_far.goes section opens) in
      (whole.0, subst (λ xs. IsRan messages_by (cases_of index run section is_open whole.0 all) xs begin here) (append-nil so_far.rows) whole.1);
  stay = so_far.stay;
}

-- no message is about the case that would have been next
pub goes_stopped : {S : Type 0} (hears : S → Event → S → Type 0) (ends : S → Ended → S → Type 0) (run : Run) (first : State) (is_open : Bool) (all : List MemberValue) (old now : List CaseResult) (left : List MemberValue) (all_stay : Bool) (begin here last : S) → last ≡ here → GoesOn hears ends run first is_open all old now left all_stay begin here →
    AreCasesInPart (notifies hears ends) (length old) run first is_open all begin last
goes_stopped {S} hears ends run first is_open all old now left all_stay begin here last same so_far =
    let messages_by = notifies hears ends in
    subst (λ (s : S). AreCasesInPart messages_by (length old) run first is_open all begin s) (sym same)
    (λ section opens. messages_so_far messages_by (λ (cuts : List Cut). cases_of (length old) run section is_open cuts all) (λ (cuts : List Cut). cases_of (length now) run section (is_open && all_stay) cuts left) (λ (more : List CaseRow). so_far.rows ++ more) begin here (so_far.goes section opens))
