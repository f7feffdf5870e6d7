-- What the parts of a section come to together: there is a cut that gives all of it.
use Rattle.gk_run.proofs.Common.{Bool, List, [], ap, cond, false, length, refl, subst, sym, true, ℕ, ◌++◌, ◌∙◌, ◌≡◌, true≢false, append-nil, arith, common_steps, FoldsTo, CaseValue, SandboxValue, State, Ending, Outcome, Status, Level, CleanupValue, cleaned, after_lists, before_events, entered, walk_each, around_status, has_passed, is_memory_ending, verdict_status, worse, Event, IsCutOff, SoFar, SectionNow, cut_at, ended_in, event_marks, left_by, outcomes_of, section_now, EndsAround, IsBegun, IsSectionEnd, closing_events, section_events, section_state, Run, CaseRow, StepRow, NotifiesEvents, alone, row_of_case, verdict_of, Cut, Events, around_of, before_passed, happened, in_after, in_before, in_cleanups, in_order, in_steps, has_event, nowhere, rows_of_steps, steps_from, Happens, IsClosing}
use Rattle.gk_run.specs.declared.ending.Ending.TheVariants as endings
use Rattle.gk_run.specs.declared.section.Level.TheVariants as levels
use Rattle.gk_run.proofs.EndingLemmas.{worse_assoc}
use Rattle.gk_run.proofs.EventLemmas.{cut_there, ended_both, heard_both, place_there}
use Rattle.gk_run.proofs.GoesLemmas.{all_messages, begin, chain, stays_refused}

-- ---- four parts and their cut

cut_place : (all messages : List Event) (c : IsCutOff all messages) → has_event (length c.front) all ≡ true
cut_place all messages c = ap (has_event (length c.front)) c.whole ∙ place_there c.front c.event c.rest

pub cut_messages : (all messages : List Event) (c : IsCutOff all messages) → messages ≡ cut_at (length c.front) c.left all
cut_messages all messages c = c.cut ∙ cut_there c.left c.front c.event c.rest ∙ ap (cut_at (length c.front) c.left) (sym c.whole)

-- the cut of events that there are
cut_is : (b : Bool) (x y : Events) → b ≡ true → x ≡ cond b x y
cut_is b x y h = ap (λ (c : Bool). cond c x y) (sym h)

-- four parts
abbrev pub parts : List Event → List Event → List Event → List Event → Events
parts before steps after cleanups = record { before = before; steps = steps; after = after; cleanups = cleanups }

-- the messages about the four parts of a section are what happened of it at one cut
abbrev pub IsCut : Events → Events → Type 0
IsCut all messages = (cut : Cut) × (messages ≡ happened cut all)

parts_are : (xs xs' ys ys' zs zs' ws ws' : List Event) → xs ≡ xs' → ys ≡ ys' → zs ≡ zs' → ws ≡ ws' → parts xs ys zs ws ≡ parts xs' ys' zs' ws'
parts_are xs xs' ys ys' zs zs' ws ws' p q r s = ap (λ x. parts x ys zs ws) p ∙ ap (λ x. parts xs' x zs ws) q ∙ ap (λ x. parts xs' ys' x ws) r ∙ ap (parts xs' ys' zs') s

pub parts_cut : (all : Events) (xs ys zs ws : List Event) (b1 b2 b3 b4 : Bool) → (b1 ≡ true → b2 ≡ true) → (b2 ≡ true → b3 ≡ true) → (b3 ≡ true → b4 ≡ true) →
    SoFar false b1 all.before [] xs → SoFar b1 b2 all.steps [] ys → SoFar b2 b3 all.after [] zs → SoFar b3 b4 all.cleanups [] ws → IsCut all (parts xs ys zs ws)
parts_cut all xs ys zs ws true true true true k l m p q r s = (
  in_before (length p.front) p.left,
  parts_are xs (cut_at (length p.front) p.left all.before) ys [] zs [] ws [] (cut_messages all.before xs p) q r s ∙ cut_is (has_event (length p.front) all.before) (parts (cut_at (length p.front) p.left all.before) [] [] []) all (cut_place all.before xs p),
)
parts_cut all xs ys zs ws false true true true k l m p q r s = (
  in_steps (length q.front) q.left,
  parts_are xs all.before ys (cut_at (length q.front) q.left all.steps) zs [] ws [] (all_messages false all.before xs refl p) (cut_messages all.steps ys q) r s
      ∙ cut_is (has_event (length q.front) all.steps) (parts all.before (cut_at (length q.front) q.left all.steps) [] []) all (cut_place all.steps ys q),
)
parts_cut all xs ys zs ws false false true true k l m p q r s = (
  in_after (length r.front) r.left,
  parts_are xs all.before ys all.steps zs (cut_at (length r.front) r.left all.after) ws [] (all_messages false all.before xs refl p) (all_messages false all.steps ys refl q) (cut_messages all.after zs r) s
      ∙ cut_is (has_event (length r.front) all.after) (parts all.before all.steps (cut_at (length r.front) r.left all.after) []) all (cut_place all.after zs r),
)
parts_cut all xs ys zs ws false false false true k l m p q r s = (
  in_cleanups (length s.front) s.left,
  parts_are xs all.before ys all.steps zs all.after ws (cut_at (length s.front) s.left all.cleanups) (all_messages false all.before xs refl p) (all_messages false all.steps ys refl q) (all_messages false all.after zs refl r) (cut_messages all.cleanups ws s)
      ∙ cut_is (has_event (length s.front) all.cleanups) (parts all.before all.steps all.after (cut_at (length s.front) s.left all.cleanups)) all (cut_place all.cleanups ws s),
)
parts_cut all xs ys zs ws false false false false k l m p q r s = grind (arith, common_steps)
parts_cut all xs ys zs ws true false b3 b4 k l m p q r s = absurd (true≢false (sym (k refl)))
parts_cut all xs ys zs ws true true false b4 k l m p q r s = absurd (true≢false (sym (l refl)))
parts_cut all xs ys zs ws true true true false k l m p q r s = absurd (true≢false (sym (m refl)))
parts_cut all xs ys zs ws false true false b4 k l m p q r s = absurd (true≢false (sym (l refl)))
parts_cut all xs ys zs ws false true true false k l m p q r s = absurd (true≢false (sym (m refl)))
parts_cut all xs ys zs ws false false true false k l m p q r s = absurd (true≢false (sym (m refl)))

-- ---- one part from where another left the section

-- what wasn't refused now wasn't before
earlier : (b c : Bool) → (b ≡ true → c ≡ true) → c ≡ false → b ≡ false
earlier false c k h = refl
earlier true c k h = absurd (true≢false (sym (k refl) ∙ h))

of_other : (b c : Bool) (all other messages : List Event) → (b ≡ false → all ≡ other) → SoFar b c all [] messages → SoFar b c other [] messages
of_other true c all other messages r h = h
of_other false c all other messages r h = subst (λ xs. SoFar false c xs [] messages) (r refl) h

-- where a part leaves a section in which no memory was refused
left_whole : (b : Bool) (all messages : List Event) (start now : SectionNow) → b ≡ false → SoFar false b all [] messages → now ≡ left_by start messages → now ≡ left_by start all
left_whole b all messages start now n h is = is ∙ ap (left_by start) (all_messages b all messages n h)

-- ---- a case

-- an observer was notified of a case with its result
pub case_messages : {S : Type 0} (hears : S → Event → S → Type 0) (run : Run) (section : State) (c : CaseValue) (b e l : Ending) (opened mid : SectionNow) (reported : List Outcome) (rows : List StepRow) (first here there last : S) →
    Happens hears endings.Passed (before_events run.library run.hooks levels.Scenario c.own_tags section) (entered section) opened b first here →
    (steps : Happens hears b (steps_from run.library b opened.state c.steps) opened mid e here there) → rows ≡ rows_of_steps c.steps (event_marks steps.messages) →
    IsClosing hears run.library levels.Scenario (after_lists run.hooks levels.Scenario c.own_tags) e mid l reported there last →
    NotifiesEvents hears run section c (record { keyword = c.keyword; name = c.name; line = c.line; status = verdict_status (worse e l); around = around_status (worse b l); cleanups = reported; steps = rows }) first last
case_messages hears run section c b e l opened mid reported rows first here there last before steps shown closing =
    let es = alone run section c in
    let lists = after_lists run.hooks levels.Scenario c.own_tags in
    let after = closing.after in
    let cleanups = closing.cleanups in
    let mb = is_memory_ending b in
    let me = is_memory_ending e in
    let ma = is_memory_ending closing.between in
    let k : mb ≡ true → me ≡ true = stays_refused b (ended_in steps.messages) e steps.ends in
    let k2 : me ≡ true → ma ≡ true = stays_refused e (ended_in after.messages) closing.between after.ends in
    let k3 : ma ≡ true → is_memory_ending closing.end ≡ true = stays_refused closing.between (ended_in cleanups.messages) closing.end cleanups.ends in
    let opens : mb ≡ false → opened ≡ left_by (entered section) es.before = λ n. left_whole mb es.before before.messages (entered section) opened n before.so_far before.leaves in
    let same_steps : mb ≡ false → steps_from run.library b opened.state c.steps ≡ es.steps = λ n.
    ap (λ x. steps_from run.library x opened.state c.steps) (before.ends ∙ ap ended_in (all_messages mb es.before before.messages n before.so_far)) ∙ ap (λ (x : SectionNow). steps_from run.library (ended_in es.before) x.state c.steps) (opens n) in
    let steps_are : SoFar mb me es.steps [] steps.messages = of_other mb me (steps_from run.library b opened.state c.steps) es.steps steps.messages same_steps steps.so_far in
    let mids : me ≡ false → mid ≡ left_by (left_by (entered section) es.before) es.steps = λ n.
    let m = earlier mb me k n in
    left_whole me es.steps steps.messages opened mid n (subst (λ x. SoFar x me es.steps [] steps.messages) m steps_are) steps.leaves ∙ ap (λ x. left_by x es.steps) (opens m) in
    let after_is : SoFar me ma es.after [] after.messages = of_other me ma (walk_each run.library levels.Scenario mid lists) es.after after.messages (λ n. ap (λ x. walk_each run.library levels.Scenario x lists) (mids n)) after.so_far in
    let lasts : ma ≡ false → closing.mid ≡ left_by (left_by (left_by (entered section) es.before) es.steps) es.after = λ n.
    let m = earlier me ma k2 n in
    left_whole ma es.after after.messages mid closing.mid n (subst (λ x. SoFar x ma es.after [] after.messages) m after_is) after.leaves ∙ ap (λ x. left_by x es.after) (mids m) in
    let cleanups_are : SoFar ma (is_memory_ending closing.end) es.cleanups [] cleanups.messages =
    of_other ma (is_memory_ending closing.end) (cleaned run.library levels.Scenario closing.mid) es.cleanups cleanups.messages (λ n. ap (cleaned run.library levels.Scenario) (lasts n)) cleanups.so_far in
    let messages = parts before.messages steps.messages after.messages cleanups.messages in
    let cut : IsCut es messages = parts_cut es before.messages steps.messages after.messages cleanups.messages mb me ma (is_memory_ending closing.end) k k2 k3 before.so_far steps_are after_is cleanups_are in
    let tail = after.messages ++ cleanups.messages in
    let verdict : worse e l ≡ ended_in (in_order messages) =
    ap (λ x. worse x l) (steps.ends ∙ ap (λ x. worse x (ended_in steps.messages)) before.ends) ∙ worse_assoc (ended_in before.messages) (ended_in steps.messages) l
    ∙ ap (λ x. worse (ended_in before.messages) (worse (ended_in steps.messages) x)) closing.ending
    ∙ ap (worse (ended_in before.messages)) (sym (ended_both steps.messages tail)) ∙ sym (ended_both before.messages (steps.messages ++ tail)) in
    let around : worse b l ≡ ended_in (before.messages ++ tail) = ap (λ x. worse x l) before.ends ∙ ap (worse (ended_in before.messages)) closing.ending ∙ sym (ended_both before.messages tail) in
    let row : Status → Status → List Outcome → List StepRow → CaseRow = λ v a os rs. record { keyword = c.keyword; name = c.name; line = c.line; status = v; around = a; cleanups = os; steps = rs } in
    record {
      cut = cut.0;
      is = ap (λ x. row (verdict_status x) (around_status (worse b l)) reported rows) verdict
          ∙ ap (λ x. row (verdict_of messages) (around_status x) reported rows) around
          ∙ ap (λ x. row (verdict_of messages) (around_of messages) x rows) closing.outcomes
          ∙ ap (row (verdict_of messages) (around_of messages) (outcomes_of cleanups.messages)) shown
          ∙ ap (λ (x : Events). row_of_case c (verdict_of x) x) cut.1;
      messages = subst (λ (x : Events). FoldsTo hears first (in_order x) last) cut.1
          (heard_both hears first before.messages here (steps.messages ++ tail) last before.heard
          (heard_both hears here steps.messages there tail last steps.heard (heard_both hears there after.messages closing.here cleanups.messages last after.heard cleanups.heard)));
    }

-- ---- a section beside what is inside of it

no_steps : (b : Bool) → SoFar b b [] [] []
no_steps true = refl
no_steps false = refl

section_end : {S : Type 0} (hears : S → Event → S → Type 0) (run : Run) (level : Level) (tags : List (List ℕ)) (b : Ending) (now : SectionNow) (l : Ending) (reported : List Outcome) (first last : S) →
    (closing : IsClosing hears run.library level (after_lists run.hooks level tags) b now l reported first last) → (outside : State) (xs : List Event) → IsBegun run level tags outside xs b now →
    IsSectionEnd run level tags outside (around_status (worse b l)) xs (closing.after.messages ++ closing.cleanups.messages)
section_end hears run level tags b now l reported first last closing outside xs begins =
    let es = section_events run level tags outside in
    let lists = after_lists run.hooks level tags in
    let after = closing.after in
    let cleanups = closing.cleanups in
    let mb = is_memory_ending b in
    let ma = is_memory_ending closing.between in
    let k2 : mb ≡ true → ma ≡ true = stays_refused b (ended_in after.messages) closing.between after.ends in
    let k3 : ma ≡ true → is_memory_ending closing.end ≡ true = stays_refused closing.between (ended_in cleanups.messages) closing.end cleanups.ends in
    let opens : mb ≡ false → now ≡ left_by (entered outside) es.before = λ n. left_whole mb es.before xs (entered outside) now n begins.so_far begins.leaves in
    let after_is : SoFar mb ma es.after [] after.messages = of_other mb ma (walk_each run.library level now lists) es.after after.messages (λ n. ap (λ x. walk_each run.library level x lists) (opens n)) after.so_far in
    let lasts : ma ≡ false → closing.mid ≡ left_by (left_by (entered outside) es.before) es.after = λ n.
    let m = earlier mb ma k2 n in
    left_whole ma es.after after.messages now closing.mid n (subst (λ x. SoFar x ma es.after [] after.messages) m after_is) after.leaves ∙ ap (λ x. left_by x es.after) (opens m) in
    let cleanups_are : SoFar ma (is_memory_ending closing.end) es.cleanups [] cleanups.messages =
    of_other ma (is_memory_ending closing.end) (cleaned run.library level closing.mid) es.cleanups cleanups.messages (λ n. ap (cleaned run.library level) (lasts n)) cleanups.so_far in
    let messages = parts xs [] after.messages cleanups.messages in
    let cut : IsCut es messages = parts_cut es xs [] after.messages cleanups.messages mb mb ma (is_memory_ending closing.end) (λ h. h) k2 k3 begins.so_far (no_steps mb) after_is cleanups_are in
    let tail = after.messages ++ cleanups.messages in
    let around : worse b l ≡ ended_in (xs ++ tail) = ap (λ x. worse x l) begins.ends ∙ ap (worse (ended_in xs)) closing.ending ∙ sym (ended_both xs tail) in
    record { cut = cut.0; hooks = ap around_status around ∙ ap around_of cut.1; opening = ap (λ (x : Events). x.before) cut.1; closing = ap (λ (x : Events). x.after ++ x.cleanups) cut.1 }

pub section_ends : {S : Type 0} (hears : S → Event → S → Type 0) (run : Run) (level : Level) (tags : List (List ℕ)) (b : Ending) (now : SectionNow) (l : Ending) (reported : List Outcome) (first last : S) →
    IsClosing hears run.library level (after_lists run.hooks level tags) b now l reported first last → EndsAround hears run level tags b now (around_status (worse b l)) first last
section_ends hears run level tags b now l reported first last closing =
    let all = closing_events run level tags now in
    let lists = walk_each run.library level now (after_lists run.hooks level tags) in
    let after = closing.after in
    let ma = is_memory_ending closing.between in
    let mid : ma ≡ false → closing.mid ≡ left_by now lists = λ n.
    let unrefused = earlier (is_memory_ending b) ma (stays_refused b (ended_in after.messages) closing.between after.ends) n in
    left_whole ma lists after.messages now closing.mid n (subst (λ x. SoFar x ma lists [] after.messages) unrefused after.so_far) after.leaves in
    let rest : List Event = cleaned run.library level (left_by now lists) in
    let goes : Happens hears b all now closing.now closing.end first last =
    chain [] (chain rest (begin hears b all now first) (λ _. refl) after) (λ n. ap (cleaned run.library level) (sym (mid n)) ∙ sym (append-nil (cleaned run.library level closing.mid))) closing.cleanups in (
      after.messages ++ closing.cleanups.messages,
      goes.heard,
      record {
        so_far = subst (λ e. SoFar (is_memory_ending b) (is_memory_ending e) all [] (after.messages ++ closing.cleanups.messages)) goes.ends goes.so_far;
        hooks = ap (λ e. around_status (worse b e)) closing.ending;
        whole = section_end hears run level tags b now l reported first last closing;
      },
    )

-- a section whose before list passed whole has its state
pub passed_state : (run : Run) (level : Level) (tags : List (List ℕ)) (outside : State) (first : List Event) (ended : Ending) (now : SectionNow) → IsBegun run level tags outside first ended now → has_passed ended ≡ true →
    now.state ≡ section_state run level tags outside
passed_state run level tags outside first ended now begins p = grind (arith, common_steps)

-- a section that was begun is so still if the sandbox has the same contents
pub begun_still : (run : Run) (level : Level) (tags : List (List ℕ)) (outside : State) (first : List Event) (ended : Ending) (cleanups : List CleanupValue) (old new : SandboxValue) → new.now ≡ old.now →
    IsBegun run level tags outside first ended (section_now old cleanups) → IsBegun run level tags outside first ended (section_now new cleanups)
begun_still run level tags outside first ended cleanups old new same begins = grind (arith, common_steps)

-- whether it passed whole is that of the cut
pub ready : (run : Run) (level : Level) (tags : List (List ℕ)) (outside : State) (around : Status) (first last : List Event) (ended : Ending) → ended ≡ ended_in first → (end : IsSectionEnd run level tags outside around first last) →
    has_passed ended ≡ before_passed (happened end.cut (section_events run level tags outside))
ready run level tags outside around first last ended ends end = ap has_passed ends ∙ ap (λ es. has_passed (ended_in es)) end.opening

-- a cut of a section that leaves it open, or doesn't, as its before list ended
pub opened_cut : (es : Events) (first : List Event) (b : Bool) → SoFar false b es.before [] first → (cut : Cut) × (first ≡ (let e = happened cut es in e.before))
opened_cut es first true h =
    let n = length h.front in
    let now = parts (cut_at n h.left es.before) [] [] [] in
    (in_before n h.left, cut_messages es.before first h ∙ ap (λ (x : Events). x.before) (cut_is (has_event n es.before) now es (cut_place es.before first h)))
opened_cut es first false h = (nowhere, all_messages false es.before first refl h)
