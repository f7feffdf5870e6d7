-- The messages about a part of a run that didn't come to its end.
use Rattle.gk_run.proofs.Common.{◌⊎◌, Bool, Err, List, Ok, OnErr, Result, [], ap, append_assoc, cond, false, length, map, refl, subst, suc, sym, true, zero, ℕ, ◌++◌, ◌∙◌, ◌∷◌, ◌≡◌, append-nil, arith, common_steps, FoldsTo, StepValue, LibraryValue, State, enter, Ending, Level, Stage, ending_of, has_passed, is_memory_ending, Event, Ended, IsRan, Ran, SoFar, SectionNow, Message, cut_at, ended_in, happens, notifies, NotifiesInPart, PrecedesCase, StopsBeforeCase, IsBegun, section_events, section_of, section_state, Run, Cut, before_of, before_passed, happened, before_list, event_of, one_step, walk}
use Rattle.gk_run.specs.declared.section.Level.TheVariants as levels
use Rattle.gk_run.proofs.EventLemmas.{heard_both}
use Rattle.gk_run.proofs.GoesLemmas.{all_messages}
use Rattle.gk_run.proofs.SectionLemmas.{cut_messages, opened_cut}
use Rattle.gk_run.proofs.NotifiedLemmas.{heard_messages}

-- what is so at an error, whatever is returned
pub at_err : {A E P : Type 0} (x : Result A E) → P → OnErr x P
at_err (Ok a) h = tt
at_err (Err e) h = h

-- ---- where a case may begin

stops_on : (x : Message) (xs : List Message) → PrecedesCase x → StopsBeforeCase xs → StopsBeforeCase (x ∷ xs)
stops_on x [] p h = p
stops_on x (y ∷ ys) p h = h

pub stops_behind : (xs : List Message) (x : Message) (ys : List Message) → PrecedesCase x → StopsBeforeCase ys → StopsBeforeCase (xs ++ x ∷ ys)
stops_behind [] x ys p h = stops_on x ys p h
stops_behind (y ∷ []) x ys p h = stops_on x ys p h
stops_behind (y ∷ z ∷ zs) x ys p h = stops_behind (z ∷ zs) x ys p h

pub stops_both : (xs ys : List Message) → StopsBeforeCase xs → StopsBeforeCase ys → StopsBeforeCase (xs ++ ys)
stops_both [] ys p q = q
stops_both (x ∷ []) ys p q = stops_on x ys p q
stops_both (x ∷ y ∷ xs) ys p q = stops_both (y ∷ xs) ys p q

-- a stage after whose steps a case may begin
abbrev pub OpensCases : Stage → Type 0
OpensCases stage = (stage ≡ before_of levels.Feature) ⊎ (stage ≡ before_of levels.Rule)

abbrev events_stop : List Event → Type 0
events_stop events = StopsBeforeCase (map happens events)

stops_if : (b : Bool) (events : List Event) → events_stop events → events_stop (cond b events [])
stops_if true events h = h
stops_if false events h = tt

stops_walk : (library : LibraryValue) (stage : Stage) (s : State) (steps : List StepValue) → OpensCases stage → events_stop (walk library stage s steps)
stops_walk library stage s [] o = tt
stops_walk library stage s (step ∷ steps) o =
    let this = one_step library stage s step in
    let rest = walk library stage this.state steps in
    let passes = has_passed (ending_of this.mark) in
    stops_on (happens (event_of stage step this)) (map happens (cond passes rest [])) o (stops_if passes rest (stops_walk library stage this.state steps o))

cut_if : (b : Bool) (n : ℕ) (left : State) (events : List Event) → events_stop (cut_at n left events) → events_stop (cut_at n left (cond b events []))
cut_if true n left events h = h
cut_if false zero left events h = tt
cut_if false (suc n) left events h = tt

stops_cut : (library : LibraryValue) (stage : Stage) (s : State) (steps : List StepValue) (n : ℕ) (left : State) → OpensCases stage → events_stop (cut_at n left (walk library stage s steps))
stops_cut library stage s [] zero left o = tt
stops_cut library stage s [] (suc n) left o = tt
stops_cut library stage s (step ∷ steps) zero left o = o
stops_cut library stage s (step ∷ steps) (suc n) left o =
    let this = one_step library stage s step in
    let rest = walk library stage this.state steps in
    let passes = has_passed (ending_of this.mark) in
    stops_on (happens (event_of stage step this)) (map happens (cut_at n left (cond passes rest []))) o (cut_if passes n left rest (stops_cut library stage this.state steps n left o))

-- the events of a walk, up to one in which memory was refused
stops_messages : (library : LibraryValue) (stage : Stage) (s : State) (steps : List StepValue) (b : Bool) (messages : List Event) → OpensCases stage → SoFar false b (walk library stage s steps) [] messages → events_stop messages
stops_messages library stage s steps true messages o h = subst events_stop (sym (cut_messages (walk library stage s steps) messages h)) (stops_cut library stage s steps (length h.front) h.left o)
stops_messages library stage s steps false messages o h = subst events_stop (sym (all_messages false (walk library stage s steps) messages refl h)) (stops_walk library stage s steps o)

-- ---- parts of a run, one after another

-- a part of a run with this result and these messages
abbrev pub ran_of : {A : Type 0} → A → List Message → Ran A
ran_of result messages = record { result = result; messages = messages }

-- these are the messages so far, and however what is left is cut, the whole has cuts whose messages begin so
pub record GoesFrom {S C A : Type 0} (gets : S → Message → S → Type 0) (whole rest : List C → Ran A) (behind : A → A) (begin here : S) : Type 0 where
  pub front : List Message
  pub heard : FoldsTo gets begin front here
  pub stops : StopsBeforeCase front
  pub cuts : (left : List C) → (all : List C) × (whole all ≡ (let next = rest left in ran_of (behind next.result) (front ++ next.messages)))

-- with nothing left
pub ran_whole : {S C A : Type 0} (gets : S → Message → S → Type 0) (whole rest : List C → Ran A) (behind : A → A) (row : A) (begin here : S) → ((left : List C) → rest left ≡ ran_of row []) →
    GoesFrom gets whole rest behind begin here → (all : List C) × IsRan gets (whole all) (behind row) begin here
ran_whole {S} {C} {A} gets whole rest behind row begin here none goes =
    let all = goes.cuts [] in
    let put : Ran A → Ran A = λ next. ran_of (behind next.result) (goes.front ++ next.messages) in
    let is : whole all.0 ≡ ran_of (behind row) (goes.front ++ []) = all.1 ∙ ap put (none []) in
    (all.0, record { is = sym (ap (λ (r : Ran A). r.result) is); heard = subst (λ xs. FoldsTo gets begin xs here) (sym (ap (λ (r : Ran A). r.messages) is ∙ append-nil goes.front)) goes.heard })

-- no message is about what is left
pub messages_so_far : {S C A : Type 0} (gets : S → Message → S → Type 0) (whole rest : List C → Ran A) (behind : A → A) (begin here : S) → GoesFrom gets whole rest behind begin here → (all : List C) × NotifiesInPart gets (whole all) begin here
messages_so_far {S} {C} {A} gets whole rest behind begin here goes =
    let all = goes.cuts [] in
    let next = rest [] in
    (all.0, record { front = goes.front; rest = next.messages; whole = ap (λ (r : Ran A). r.messages) all.1; heard = goes.heard; stops = goes.stops })

-- a part between others
pub messages_between : {S A B : Type 0} (gets : S → Message → S → Type 0) (part : Ran A) (whole : Ran B) (before behind : List Message) (begin here last : S) → whole.messages ≡ before ++ (part.messages ++ behind) → FoldsTo gets begin before here → StopsBeforeCase before →
    NotifiesInPart gets part here last → NotifiesInPart gets whole begin last
messages_between gets part whole before behind begin here last is heard stops in_part = grind (arith, common_steps, append_assoc, heard_both, stops_both)

-- the messages are about a part of what is left
pub messages_further : {S C A B : Type 0} (gets : S → Message → S → Type 0) (whole rest : List C → Ran A) (behind : A → A) (begin here last : S) (left : List C) (part : Ran B) (others : List Message) → (let next = rest left in next.messages ≡ part.messages ++ others) →
    GoesFrom gets whole rest behind begin here → NotifiesInPart gets part here last → (all : List C) × NotifiesInPart gets (whole all) begin last
messages_further {S} {C} {A} gets whole rest behind begin here last left part others is goes in_part =
    let all = goes.cuts left in
    let next = ap (λ (r : Ran A). r.messages) all.1 ∙ ap (λ xs. goes.front ++ xs) is in
    (all.0, messages_between gets part (whole all.0) goes.front others begin here last next goes.heard goes.stops in_part)

-- ---- a section

-- a section that was begun and didn't come to its end
pub section_in_part : {S A : Type 0} (hears : S → Event → S → Type 0) (ends : S → Ended → S → Type 0) (run : Run) (level : Level) (tags : List (List ℕ)) (outside : State) (first : List Event) (ended : Ending) (now : SectionNow) (passed : Bool) (inside : State → Bool → Ran A) (begin opened last : S) →
    OpensCases (before_of level) → IsBegun run level tags outside first ended now → passed ≡ has_passed ended → FoldsTo hears begin first opened →
    NotifiesInPart (notifies hears ends) (inside (section_state run level tags outside) passed) opened last →
    (cut : Cut) × NotifiesInPart (notifies hears ends) (section_of run level tags outside true cut inside) begin last
section_in_part {S} {A} hears ends run level tags outside first ended now passed inside begin opened last opens begins passes heard within =
    let messages_by = notifies hears ends in
    let section = section_state run level tags outside in
    let es = section_events run level tags outside in
    let cut = opened_cut es first (is_memory_ending ended) begins.so_far in
    let events = happened cut.0 es in
    let closing = map happens (events.after ++ events.cleanups) in
    let ready : passed ≡ before_passed events = passes ∙ ap has_passed begins.ends ∙ ap (λ xs. has_passed (ended_in xs)) cut.1 in
    let here : NotifiesInPart messages_by (inside section (before_passed events)) opened last = subst (λ b. NotifiesInPart messages_by (inside section b) opened last) ready within in
    let stops = stops_messages run.library (before_of level) (enter outside) (before_list run.hooks level tags) (is_memory_ending ended) first opens begins.so_far in (
      cut.0,
      messages_between messages_by (inside section (before_passed events)) (section_of run level tags outside true cut.0 inside) (map happens events.before) closing begin opened last refl
          (heard_messages hears ends begin events.before opened (subst (λ xs. FoldsTo hears begin xs opened) cut.1 heard))
          (subst events_stop cut.1 stops) here,
    )
