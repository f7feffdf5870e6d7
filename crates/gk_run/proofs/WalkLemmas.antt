-- What the code's steps make of a walk.
use Rattle.gk_run.proofs.Common.{Bool, List, None, Some, [], ap, cond, drop, false, get_or, inl, inr, is_some, length, map, refl, subst, sym, true, ℕ, ◌++◌, ◌+◌, ◌<◌, ◌∙◌, ◌∷◌, ◌≡◌, ◌≤◌, Option, find, true≢false, arith, common_steps, FoldsTo, option_map_or, at_drop_all, at_drop_more, map-append, StepValue, HookKind, HookValue, is_for, FoundUse, FoundValue, HasCandidateFor, IsUseOf, LibraryValue, found, SandboxValue, State, state_of, Ending, Mark, Acted, Skipped, Undefined, Untested, Outcome, Level, Stage, CleanupValue, arguments_by_uses, done_of, IsDone, HasRegistered, WritesFirst, ending_of, has_passed, is_memory_ending, worse, Event, SoFar, SectionNow, ended_in, event_marks, left_by, mark_of, of_step, StepRow, after_of, site_of, steps_of_case, hook_steps, walk_each, IsLookedUp, Stepped, event_of, looked_up, one_step, row_of_step, rows_of_steps, stepped, steps_from, unrun_step, walk, Goes, Happens, IsNext, IsStepRun, not, nat_eq, UseValue, Used, StepDone, used_at, use_value, used_in, has_cleanup, IsDoneBy, happened_as, next_event, place_of, arguments_value}
use Rattle.std.proofs.lemmas.List.{append-nil}
use Rattle.gk_run.specs.declared.ending.Ending.TheVariants as endings
use Rattle.gk_run.specs.declared.results.Outcome.TheVariants as outcomes
use Rattle.gk_run.proofs.ActingLemmas.{called_is, used_given}
use Rattle.gk_run.proofs.GoesLemmas.{all_messages, begin, behind, chain, unrefused, with_rest}

-- where a section stands
abbrev pub at : State → List CleanupValue → SectionNow
at s cleanups = record { state = s; cleanups = cleanups }

-- ---- one step

-- a step in which memory wasn't refused
pub exact_step : (this : Stepped) (cs : List CleanupValue) (m : Mark) (new : State) (left : List CleanupValue) → is_memory_ending (ending_of m) ≡ false → IsStepRun this cs m new left → (m ≡ this.mark) × (new ≡ this.state) × (left ≡ cs ++ this.registered)
exact_step this cs (Acted outcomes.Memory) new left n t = absurd (true≢false n)
exact_step this cs (Acted outcomes.Passed) new left n t = t
exact_step this cs (Acted (outcomes.Failed why)) new left n t = t
exact_step this cs (Acted outcomes.Skip) new left n t = t
exact_step this cs Undefined new left n t = t
exact_step this cs Skipped new left n t = t
exact_step this cs Untested new left n t = t

-- one event happened, of which this became
abbrev pub OneEvent : {S : Type 0} → (S → Event → S → Type 0) → Ending → Event → Mark → SectionNow → SectionNow → Ending → S → S → Type 0
OneEvent hears before event m start now ended first last = (g : Happens hears before (event ∷ []) start now ended first last) × (event_marks g.messages ≡ m ∷ [])

messages_exactly : (m : Mark) (event messages : Event) → is_memory_ending (ending_of m) ≡ false → event ≡ messages → SoFar false (is_memory_ending (ending_of m)) (event ∷ []) [] (messages ∷ [])
messages_exactly m event messages n is = subst (λ b. SoFar false b (event ∷ []) [] (messages ∷ [])) (sym n) (ap (λ x. x ∷ []) is)

exact_goes : {S : Type 0} (hears : S → Event → S → Type 0) (stage : Stage) (step : StepValue) (this : Stepped) (s new : State) (cs left : List CleanupValue) (m : Mark) (first last : S) → is_memory_ending (ending_of m) ≡ false →
    (m ≡ this.mark) × (new ≡ this.state) × (left ≡ cs ++ this.registered) → FoldsTo hears first (of_step stage step m this.used this.registered new ∷ []) last → OneEvent hears endings.Passed (event_of stage step this) m (at s cs) (at new left) (ending_of m) first last
exact_goes hears stage step this s new cs left m first last n t h = (
  record {
    messages = of_step stage step m this.used this.registered new ∷ [];
    heard = h;
    so_far = messages_exactly m (event_of stage step this) (of_step stage step m this.used this.registered new) n (sym (ap (λ x. of_step stage step x this.used this.registered new) t.0 ∙ ap (λ x. of_step stage step this.mark this.used this.registered x) t.1));
    ends = refl;
    leaves = ap (at new) t.2;
  },
  refl,
)

-- a step was carried out
pub step_goes : {S : Type 0} (hears : S → Event → S → Type 0) (stage : Stage) (step : StepValue) (this : Stepped) (s new : State) (cs left : List CleanupValue) (m : Mark) (first last : S) → IsStepRun this cs m new left →
    FoldsTo hears first (happened_as stage step this m new ∷ []) last → OneEvent hears endings.Passed (event_of stage step this) m (at s cs) (at new left) (ending_of m) first last
step_goes hears stage step this s new cs left (Acted outcomes.Memory) first last t h = (
  record {
    messages = of_step stage step (Acted outcomes.Memory) None [] new ∷ [];
    heard = h;
    so_far = record { front = []; event = event_of stage step this; rest = []; left = new; whole = refl; cut = refl };
    ends = refl;
    leaves = ap (at new) (t ∙ sym (append-nil cs));
  },
  refl,
)
step_goes hears stage step this s new cs left (Acted outcomes.Passed) first last t h = exact_goes hears stage step this s new cs left (Acted outcomes.Passed) first last refl t h
step_goes hears stage step this s new cs left (Acted (outcomes.Failed why)) first last t h = exact_goes hears stage step this s new cs left (Acted (outcomes.Failed why)) first last refl t h
step_goes hears stage step this s new cs left (Acted outcomes.Skip) first last t h = exact_goes hears stage step this s new cs left (Acted outcomes.Skip) first last refl t h
step_goes hears stage step this s new cs left Undefined first last t h = exact_goes hears stage step this s new cs left Undefined first last refl t h
step_goes hears stage step this s new cs left Skipped first last t h = exact_goes hears stage step this s new cs left Skipped first last refl t h
step_goes hears stage step this s new cs left Untested first last t h = exact_goes hears stage step this s new cs left Untested first last refl t h

-- ---- a walk

-- one step more of a walk
pub walk_on : {S : Type 0} (hears : S → Event → S → Type 0) (library : LibraryValue) (stage : Stage) (step : StepValue) (steps : List StepValue) (s new : State) (cs left : List CleanupValue) (m : Mark) (all : List Event) (start : SectionNow) (first here last : S) →
    Goes hears endings.Passed all (walk library stage s (step ∷ steps)) start (at s cs) endings.Passed first here → IsStepRun (one_step library stage s step) cs m new left →
    FoldsTo hears here (happened_as stage step (one_step library stage s step) m new ∷ []) last → Goes hears endings.Passed all (cond (has_passed (ending_of m)) (walk library stage new steps) []) start (at new left) (ending_of m) first last
walk_on hears library stage step steps s new cs left m all start first here last g t h =
    let this = one_step library stage s step in
    let rest : Mark → State → List Event = λ x n. cond (has_passed (ending_of x)) (walk library stage n steps) [] in
    with_rest (rest m new) (chain (rest this.mark this.state) g (λ _. refl) (step_goes hears stage step this s new cs left m here last t h).0)
    (λ n. let known = exact_step this cs m new left n t in sym (ap (λ x. rest x new) known.0 ∙ ap (rest this.mark) known.1))

-- a walk whose first step becomes this, through one list and then another
after_step : (stage : Stage) (step : StepValue) (used : Option UseValue) (registered : List CleanupValue) (s new : State) (cs : List CleanupValue) (m : Mark) (later : SectionNow → List Event) (xs both : List Event) →
    both ≡ xs ++ cond (has_passed (ended_in xs)) (later (left_by (at new (cs ++ registered)) xs)) [] →
    of_step stage step m used registered new ∷ cond (has_passed (ending_of m)) both [] ≡
    (let w = of_step stage step m used registered new ∷ cond (has_passed (ending_of m)) xs [] in w ++ cond (has_passed (ended_in w)) (later (left_by (at s cs) w)) [])
after_step stage step used registered s new cs (Acted outcomes.Passed) later xs both h = ap (λ ys. of_step stage step (Acted outcomes.Passed) used registered new ∷ ys) h
after_step stage step used registered s new cs Skipped later xs both h = ap (λ ys. of_step stage step Skipped used registered new ∷ ys) h
after_step stage step used registered s new cs Untested later xs both h = ap (λ ys. of_step stage step Untested used registered new ∷ ys) h
after_step stage step used registered s new cs Undefined later xs both h = refl
after_step stage step used registered s new cs (Acted (outcomes.Failed why)) later xs both h = refl
after_step stage step used registered s new cs (Acted outcomes.Skip) later xs both h = refl
after_step stage step used registered s new cs (Acted outcomes.Memory) later xs both h = refl

-- a walk through one list, and then through another where it passed
walk_append : (library : LibraryValue) (stage : Stage) (s : State) (cs : List CleanupValue) (xs ys : List StepValue) →
    walk library stage s (xs ++ ys) ≡ (let w = walk library stage s xs in w ++ cond (has_passed (ended_in w)) (let left = left_by (at s cs) w in walk library stage left.state ys) [])
walk_append library stage s cs [] ys = refl
walk_append library stage s cs (x ∷ xs) ys =
    let this = one_step library stage s x in
    after_step stage x this.used this.registered s this.state cs this.mark (λ left. walk library stage left.state ys) (walk library stage this.state xs) (walk library stage this.state (xs ++ ys)) (walk_append library stage this.state (cs ++ this.registered) xs ys)

-- one list more of a list that is walked as one
pub list_on : {S : Type 0} (hears : S → Event → S → Type 0) (library : LibraryValue) (stage : Stage) (xs ys : List StepValue) (s : State) (cs : List CleanupValue) (now : SectionNow) (e : Ending) (all : List Event) (start : SectionNow) (first here last : S) →
    Goes hears endings.Passed all (walk library stage s (xs ++ ys)) start (at s cs) endings.Passed first here → Happens hears endings.Passed (walk library stage s xs) (at s cs) now e here last →
    Goes hears endings.Passed all (cond (has_passed e) (walk library stage now.state ys) []) start now e first last
list_on hears library stage xs ys s cs now e all start first here last g h =
    let w = walk library stage s xs in
    let rest : Ending → SectionNow → List Event = λ x left. cond (has_passed x) (walk library stage left.state ys) [] in
    with_rest (rest e now) (chain (rest (ended_in w) (left_by (at s cs) w)) g (λ _. walk_append library stage s cs xs ys) h)
    (λ n. let messages = all_messages (is_memory_ending e) w h.messages n h.so_far in
    sym (ap (λ x. rest x now) h.ends ∙ ap (rest (ended_in h.messages)) h.leaves ∙ ap (λ es. rest (ended_in es) (left_by (at s cs) es)) messages))

-- ---- lists that are walked each by itself

pub each_on : {S : Type 0} (hears : S → Event → S → Type 0) (library : LibraryValue) (level : Level) (xs : List StepValue) (others : List (List StepValue)) (mid now : SectionNow) (ended e : Ending) (all : List Event) (start : SectionNow) (first here last : S) → is_memory_ending ended ≡ false →
    Goes hears endings.Passed all (walk_each library level mid (xs ∷ others)) start mid ended first here → Happens hears endings.Passed (walk library (after_of level) mid.state xs) mid now e here last →
    Goes hears endings.Passed all (walk_each library level now others) start now (worse ended e) first last
each_on hears library level xs others mid now ended e all start first here last m g h =
    let w = walk library (after_of level) mid.state xs in
    with_rest (walk_each library level now others) (chain (walk_each library level (left_by mid w) others) g (λ _. refl) (behind ended m h))
    (λ n. let messages = all_messages (is_memory_ending e) w h.messages (unrefused ended e m ∙ n) h.so_far in
    sym (ap (λ left. walk_each library level left others) h.leaves ∙ ap (λ es. walk_each library level (left_by mid es) others) messages))

-- ---- the steps of a case

-- what becomes of the next step, where it happens
abbrev pub next_marks : Ending → Mark → List Mark
next_marks endings.Memory m = []
next_marks _ m = m ∷ []

-- one step more of a case that stood so
pub record Next {S : Type 0} (hears : S → Event → S → Type 0) (library : LibraryValue) (stood : Ending) (s new : State) (cs left : List CleanupValue) (step : StepValue) (steps : List StepValue) (m : Mark) (first last : S) : Type 0 where
  pub part : List Event
  pub more : List Event
  pub splits : steps_from library stood s (step ∷ steps) ≡ part ++ more
  pub goes : Happens hears stood part (at s cs) (at new left) (worse stood (ending_of m)) first last
  pub marks : event_marks goes.messages ≡ next_marks stood m
  pub later : is_memory_ending (worse stood (ending_of m)) ≡ false → more ≡ steps_from library (worse stood (ending_of m)) new steps

-- where it stands that nothing was changed
unchanged : (s new : State) (cs left : List CleanupValue) → new ≡ s → left ≡ cs → at new left ≡ at s (cs ++ [])
unchanged s new cs left p q = ap (λ n. at n left) p ∙ ap (at s) (q ∙ sym (append-nil cs))

-- a step that isn't carried out
unrun_goes : {S : Type 0} (hears : S → Event → S → Type 0) (stood : Ending) (s new : State) (cs left : List CleanupValue) (step : StepValue) (m planned : Mark) (first last : S) → is_memory_ending stood ≡ false → worse stood (ending_of m) ≡ stood → m ≡ planned → new ≡ s → left ≡ cs →
    FoldsTo hears first (of_step steps_of_case step m None [] new ∷ []) last → OneEvent hears stood (unrun_step step planned s) m (at s cs) (at new left) (worse stood (ending_of m)) first last
unrun_goes hears stood s new cs left step m planned first last n stays is p q h = (
  record {
    messages = of_step steps_of_case step m None [] new ∷ [];
    heard = h;
    so_far = subst (λ b. SoFar b (is_memory_ending (worse stood (ending_of m))) (unrun_step step planned s ∷ []) [] (of_step steps_of_case step m None [] new ∷ [])) (sym n)
        (subst (λ b. SoFar false b (unrun_step step planned s ∷ []) [] (of_step steps_of_case step m None [] new ∷ [])) (sym (ap is_memory_ending stays ∙ n))
        (sym (ap (λ x. unrun_step step x new ∷ []) is ∙ ap (λ x. unrun_step step planned x ∷ []) p)));
    ends = refl;
    leaves = unchanged s new cs left p q ∙ ap (λ x. at x (cs ++ [])) (sym p);
  },
  refl,
)

-- a step that was only looked up doesn't change how the case stands
failed_stays : (b : Bool) → worse endings.Failed (ending_of (cond b Skipped Undefined)) ≡ endings.Failed
failed_stays true = refl
failed_stays false = refl

unrun_later : (library : LibraryValue) (stood e : Ending) (s new : State) (steps : List StepValue) → e ≡ stood → new ≡ s → steps_from library stood s steps ≡ steps_from library e new steps
unrun_later library stood e s new steps is p = sym (ap (λ x. steps_from library x new steps) is ∙ ap (λ x. steps_from library stood x steps) p)

-- memory was refused while a step was looked up
refused_goes : {S : Type 0} (hears : S → Event → S → Type 0) (s new : State) (cs left : List CleanupValue) (step : StepValue) (m planned : Mark) (first last : S) → m ≡ Acted outcomes.Memory → new ≡ s → left ≡ cs →
    FoldsTo hears first (of_step steps_of_case step m None [] new ∷ []) last → OneEvent hears endings.Failed (unrun_step step planned s) m (at s cs) (at new left) (worse endings.Failed (ending_of m)) first last
refused_goes hears s new cs left step m planned first last is p q h =
    subst (λ x. OneEvent hears endings.Failed (unrun_step step planned s) x (at s cs) (at new left) (worse endings.Failed (ending_of x)) first last) (sym is) (
      record {
        messages = of_step steps_of_case step (Acted outcomes.Memory) None [] new ∷ [];
        heard = subst (λ x. FoldsTo hears first (of_step steps_of_case step x None [] new ∷ []) last) is h;
        so_far = record { front = []; event = unrun_step step planned s; rest = []; left = new; whole = refl; cut = refl };
        ends = refl;
        leaves = unchanged s new cs left p q ∙ ap (λ x. at x (cs ++ [])) (sym p);
      },
      refl,
    )

pub next_goes : {S : Type 0} (hears : S → Event → S → Type 0) (library : LibraryValue) (stood : Ending) (s new : State) (cs left : List CleanupValue) (step : StepValue) (steps : List StepValue) (m : Mark) (first last : S) → IsNext library stood s cs step m new left →
    FoldsTo hears first (next_event library stood s step m new) last → Next hears library stood s new cs left step steps m first last
next_goes hears library endings.Memory s new cs left step steps m first last t h = record {
  part = steps_from library endings.Memory s (step ∷ steps);
  more = [];
  splits = sym (append-nil (steps_from library endings.Memory s (step ∷ steps)));
  goes = record { messages = []; heard = h; so_far = refl; ends = refl; leaves = ap (λ x. at x left) t.1 ∙ ap (at s) t.2 };
  marks = refl;
  later = λ n. absurd (true≢false n);
}
next_goes hears library endings.Passed s new cs left step steps m first last t h =
    let this = one_step library steps_of_case s step in
    let one = step_goes hears steps_of_case step this s new cs left m first last t h in
    record {
      part = event_of steps_of_case step this ∷ [];
      more = steps_from library (ending_of this.mark) this.state steps;
      splits = refl;
      goes = one.0;
      marks = one.1;
      later = λ n. let known = exact_step this cs m new left n t in sym (ap (λ x. steps_from library (ending_of x) new steps) known.0 ∙ ap (λ x. steps_from library (ending_of this.mark) x steps) known.1);
    }
next_goes hears library endings.Failed s new cs left step steps m first last (inl t, p, q) h =
    let one = refused_goes hears s new cs left step m (looked_up library Skipped step) first last t.0 p q h in
    record {
      part = unrun_step step (looked_up library Skipped step) s ∷ [];
      more = steps_from library endings.Failed s steps;
      splits = refl;
      goes = one.0;
      marks = one.1;
      later = λ n. absurd (true≢false (sym (ap (λ x. is_memory_ending (worse endings.Failed (ending_of x))) t.0) ∙ n));
    }
next_goes hears library endings.Failed s new cs left step steps m first last (inr t, p, q) h =
    let stays : worse endings.Failed (ending_of m) ≡ endings.Failed = ap (λ x. worse endings.Failed (ending_of x)) t ∙ failed_stays (is_some (found library step.step_type step.text)) in
    let one = unrun_goes hears endings.Failed s new cs left step m (looked_up library Skipped step) first last refl stays t p q h in
    record {
      part = unrun_step step (looked_up library Skipped step) s ∷ [];
      more = steps_from library endings.Failed s steps;
      splits = refl;
      goes = one.0;
      marks = one.1;
      later = λ n. unrun_later library endings.Failed (worse endings.Failed (ending_of m)) s new steps stays p;
    }
next_goes hears library endings.Skipped s new cs left step steps m first last t h =
    let stays : worse endings.Skipped (ending_of m) ≡ endings.Skipped = ap (λ x. worse endings.Skipped (ending_of x)) t.0 in
    let one = unrun_goes hears endings.Skipped s new cs left step m Skipped first last refl stays t.0 t.1 t.2 h in
    record {
      part = unrun_step step Skipped s ∷ [];
      more = steps_from library endings.Skipped s steps;
      splits = refl;
      goes = one.0;
      marks = one.1;
      later = λ n. unrun_later library endings.Skipped (worse endings.Skipped (ending_of m)) s new steps stays t.1;
    }

-- the rows so far, and those of what is left, are those of all by the marks so far
abbrev pub Shows : Ending → List StepValue → List StepRow → List StepValue → List Mark → Type 0
Shows endings.Memory left rows all ms = rows ++ rows_of_steps left [] ≡ rows_of_steps all ms
Shows _ left rows all ms = (more : List Mark) → rows ++ rows_of_steps left more ≡ rows_of_steps all (ms ++ more)

shown_any : (e : Ending) (left : List StepValue) (rows : List StepRow) (all : List StepValue) (ms : List Mark) → ((more : List Mark) → rows ++ rows_of_steps left more ≡ rows_of_steps all (ms ++ more)) → Shows e left rows all ms
shown_any endings.Memory left rows all ms h = h [] ∙ ap (rows_of_steps all) (append-nil ms)
shown_any endings.Passed left rows all ms h = h
shown_any endings.Failed left rows all ms h = h
shown_any endings.Skipped left rows all ms h = h

shown_next : (library : LibraryValue) (stood : Ending) (s new : State) (cs left : List CleanupValue) (step : StepValue) (steps all : List StepValue) (rows : List StepRow) (ms : List Mark) (m : Mark) → IsNext library stood s cs step m new left →
    Shows stood (step ∷ steps) rows all ms → Shows (worse stood (ending_of m)) steps (rows ++ row_of_step step m ∷ []) all (ms ++ next_marks stood m)
shown_next library endings.Memory s new cs left step steps all rows ms m t h = grind (arith, common_steps)
shown_next library endings.Passed s new cs left step steps all rows ms m t h = grind (arith, common_steps)
shown_next library endings.Failed s new cs left step steps all rows ms m t h = grind (arith, common_steps)
shown_next library endings.Skipped s new cs left step steps all rows ms m t h = grind (arith, common_steps)

shown_last : (e : Ending) (rows : List StepRow) (all : List StepValue) (ms : List Mark) → Shows e [] rows all ms → rows ≡ rows_of_steps all ms
shown_last endings.Memory rows all ms h = sym (append-nil rows) ∙ h
shown_last endings.Passed rows all ms h = sym (append-nil rows) ∙ h [] ∙ ap (rows_of_steps all) (append-nil ms)
shown_last endings.Failed rows all ms h = sym (append-nil rows) ∙ h [] ∙ ap (rows_of_steps all) (append-nil ms)
shown_last endings.Skipped rows all ms h = sym (append-nil rows) ∙ h [] ∙ ap (rows_of_steps all) (append-nil ms)

-- what a loop over a case's steps keeps
pub record StepsSoFar {S : Type 0} (hears : S → Event → S → Type 0) (library : LibraryValue) (before : Ending) (start : SectionNow) (all : List StepValue) (stood : Ending) (now : SectionNow) (left : List StepValue) (rows : List StepRow) (first last : S) : Type 0 where
  pub goes : Goes hears before (steps_from library before start.state all) (steps_from library stood now.state left) start now stood first last
  pub shown : Shows stood left rows all (event_marks goes.messages)

pub steps_first : {S : Type 0} (hears : S → Event → S → Type 0) (library : LibraryValue) (before : Ending) (start : SectionNow) (all : List StepValue) (first : S) → StepsSoFar hears library before start all before start all [] first first
steps_first hears library before start all first =
    record { goes = begin hears before (steps_from library before start.state all) start first; shown = shown_any before all [] all [] (λ more. refl) }

pub steps_on : {S : Type 0} (hears : S → Event → S → Type 0) (library : LibraryValue) (before : Ending) (start : SectionNow) (all : List StepValue) (stood next : Ending) (s new : State) (cs left : List CleanupValue) (step : StepValue) (steps : List StepValue) (m : Mark) (rows more : List StepRow) (first here last : S) →
    IsNext library stood s cs step m new left → FoldsTo hears here (next_event library stood s step m new) last → next ≡ worse stood (ending_of m) → more ≡ rows ++ row_of_step step m ∷ [] →
    StepsSoFar hears library before start all stood (at s cs) (step ∷ steps) rows first here → StepsSoFar hears library before start all next (at new left) steps more first last
steps_on hears library before start all stood next s new cs left step steps m rows more first here last t h ends pushed so_far =
    let one = next_goes hears library stood s new cs left step steps m here last t h in
    let e = worse stood (ending_of m) in
    let goes = with_rest (steps_from library e new steps) (chain one.more so_far.goes (λ _. one.splits) one.goes) one.later in
    let marks : event_marks (so_far.goes.messages ++ one.goes.messages) ≡ event_marks so_far.goes.messages ++ next_marks stood m =
    map-append mark_of so_far.goes.messages one.goes.messages ∙ ap (λ ms. event_marks so_far.goes.messages ++ ms) one.marks in
    let whole : StepsSoFar hears library before start all e (at new left) steps (rows ++ row_of_step step m ∷ []) first last = record {
      goes = goes;
      shown = subst (Shows e steps (rows ++ row_of_step step m ∷ []) all) (sym marks) (shown_next library stood s new cs left step steps all rows (event_marks so_far.goes.messages) m t so_far.shown);
    } in
    subst (λ x. StepsSoFar hears library before start all x (at new left) steps more first last) (sym ends)
    (subst (λ rs. StepsSoFar hears library before start all e (at new left) steps rs first last) (sym pushed) whole)

-- after the last step
pub record AllSteps {S : Type 0} (hears : S → Event → S → Type 0) (library : LibraryValue) (before : Ending) (start now : SectionNow) (all : List StepValue) (ended : Ending) (rows : List StepRow) (first last : S) : Type 0 where
  pub goes : Happens hears before (steps_from library before start.state all) start now ended first last
  pub rows_are : rows ≡ rows_of_steps all (event_marks goes.messages)

pub steps_last : {S : Type 0} (hears : S → Event → S → Type 0) (library : LibraryValue) (before : Ending) (start now : SectionNow) (all : List StepValue) (ended : Ending) (left : List StepValue) (rows : List StepRow) (first last : S) → left ≡ [] →
    StepsSoFar hears library before start all ended now left rows first last → AllSteps hears library before start now all ended rows first last
steps_last hears library before start now all ended left rows first last none so_far =
    let here : StepsSoFar hears library before start all ended now [] rows first last = subst (λ xs. StepsSoFar hears library before start all ended now xs rows first last) none so_far in
    record { goes = here.goes; rows_are = shown_last ended rows all (event_marks here.goes.messages) here.shown }

-- ---- the code's loops

pub drop_next : {X Y : Type 0} (f : X → Y) (xs : List X) (i : ℕ) (x : X) → i < length xs → x ≡ get_or xs i x → map f (drop i xs) ≡ f x ∷ map f (drop (i + 1) xs)
drop_next f xs i x lt is = at_drop_more (map f) xs i x lt ∙ ap (λ y. f y ∷ map f (drop (i + 1) xs)) (sym is)

pub drop_none : {X Y : Type 0} (f : X → Y) (xs : List X) (i : ℕ) → length xs ≤ i → map f (drop i xs) ≡ []
drop_none f xs i le = at_drop_all (map f) xs i le

-- the steps of a hook that is found, or none
pub steps_found : (hooks : List HookValue) (kind : HookKind) (tag : Option (List ℕ)) → option_map_or (λ (hook : HookValue). hook.steps) (find (λ (hook : HookValue). is_for hook kind tag) hooks) [] ≡ hook_steps hooks kind tag
steps_found [] kind tag = refl
steps_found (hook ∷ hooks) kind tag = grind (arith, common_steps, steps_found hooks kind tag)

-- a step of which the action and what its fields took were found
pub used_step : (library : LibraryValue) (stage : Stage) (s new : State) (cleanups new_cleanups : List CleanupValue) (step : StepValue) (x : Option FoundValue) (u : FoundUse) (used : UseValue) (o : Outcome)
    → IsUseOf library x (Some u) → used.action ≡ u.action → used.arguments ≡ arguments_by_uses u.fields step.block
    → IsDone (done_of (used_at (site_of stage) library used s)) o new → HasRegistered (used_at (site_of stage) library used s) (place_of stage step) cleanups o new_cleanups
    → IsStepRun (stepped library stage s step x) cleanups (Acted o) new new_cleanups
used_step library stage s new cleanups new_cleanups step None u used o looked a g done registered = absurd looked
used_step library stage s new cleanups new_cleanups step (Some f) u used o looked a g done registered = grind (arith, common_steps, called_is, used_given)

-- what such a step wrote where memory was refused in its action
pub used_kept : (library : LibraryValue) (stage : Stage) (old new : SandboxValue) (step : StepValue) (x : Option FoundValue) (u : FoundUse) (used : UseValue)
    → IsUseOf library x (Some u) → used.action ≡ u.action → used.arguments ≡ arguments_by_uses u.fields step.block
    → WritesFirst (done_of (used_at (site_of stage) library used (state_of old.now))).files old new → WritesFirst (stepped library stage (state_of old.now) step x).files old new
used_kept library stage old new step None u used looked a g kept = absurd looked
used_kept library stage old new step (Some f) u used looked a g kept = grind (arith, common_steps, called_is, used_given)

-- ---- what an observer receives of a step

-- more cleanups are registered where some were
any_more : (cs registered : List CleanupValue) → has_cleanup registered ≡ not (nat_eq (length (cs ++ registered)) (length cs))
any_more cs [] = grind (arith, common_steps)
any_more cs (c ∷ registered) = grind (arith, common_steps)

-- what an observer may become, whatever was registered
abbrev pub Received : {S : Type 0} → (S → Event → S → Type 0) → Stage → StepValue → StepDone → State → S → S → Type 0
Received hears stage step done new first last = (registered : List CleanupValue) → has_cleanup registered ≡ done.registered → hears first (of_step stage step done.mark (used_in done) registered new) last

exact_event : {S : Type 0} (hears : S → Event → S → Type 0) (stage : Stage) (step : StepValue) (this : Stepped) (new : State) (cs left : List CleanupValue) (done : StepDone) (first last : S) → left ≡ cs ++ this.registered →
    used_in done ≡ this.used → done.registered ≡ not (nat_eq (length left) (length cs)) → Received hears stage step done new first last → hears first (of_step stage step done.mark this.used this.registered new) last
exact_event hears stage step this new cs left done first last is used registered h =
    subst (λ (x : Option UseValue). hears first (of_step stage step done.mark x this.registered new) last) used
    (h this.registered (any_more cs this.registered ∙ ap (λ (all : List CleanupValue). not (nat_eq (length all) (length cs))) (sym is) ∙ sym registered))

acted_event : {S : Type 0} (hears : S → Event → S → Type 0) (stage : Stage) (step : StepValue) (this : Stepped) (new : State) (cs left : List CleanupValue) (used : Used) (o : Outcome) (done : StepDone) (first last : S) → IsStepRun this cs (Acted o) new left →
    this.used ≡ Some (use_value used) → IsDoneBy used o (not (nat_eq (length left) (length cs))) done → Received hears stage step (record done { mark = Acted o }) new first last → hears first (happened_as stage step this (Acted o) new) last
acted_event hears stage step this new cs left used outcomes.Memory done first last ran is by h =
    subst (λ (x : Option UseValue). hears first (of_step stage step (Acted outcomes.Memory) x [] new) last) by.0 (h [] (sym by.1))
acted_event hears stage step this new cs left used outcomes.Passed done first last ran is by h = exact_event hears stage step this new cs left (record done { mark = Acted outcomes.Passed }) first last ran.2 (by.0 ∙ sym is) by.1 h
acted_event hears stage step this new cs left used outcomes.Skip done first last ran is by h = exact_event hears stage step this new cs left (record done { mark = Acted outcomes.Skip }) first last ran.2 (by.0 ∙ sym is) by.1 h
acted_event hears stage step this new cs left used (outcomes.Failed why) done first last ran is by h = exact_event hears stage step this new cs left (record done { mark = Acted (outcomes.Failed why) }) first last ran.2 (by.0 ∙ sym is) by.1 h

-- the action that was found is the one that is used
used_is : (library : LibraryValue) (stage : Stage) (s : State) (step : StepValue) (x : Option FoundValue) (u : FoundUse) (used : UseValue) → IsUseOf library x (Some u) → used.action ≡ u.action → used.arguments ≡ arguments_by_uses u.fields step.block →
    (stepped library stage s step x).used ≡ Some used
used_is library stage s step None u used looked a g = absurd looked
used_is library stage s step (Some f) u used looked a g = grind (arith, common_steps, used_given)

-- a step whose action was carried out
pub used_event : {S : Type 0} (hears : S → Event → S → Type 0) (library : LibraryValue) (stage : Stage) (s new : State) (cs left : List CleanupValue) (step : StepValue) (x : Option FoundValue) (u : FoundUse) (used : Used) (o : Outcome) (done : StepDone) (first last : S) →
    IsUseOf library x (Some u) → used.action ≡ u.action → arguments_value used.arguments ≡ arguments_by_uses u.fields step.block → IsStepRun (stepped library stage s step x) cs (Acted o) new left →
    IsDoneBy used o (not (nat_eq (length left) (length cs))) done → done.mark ≡ Acted o → Received hears stage step done new first last → hears first (happened_as stage step (stepped library stage s step x) done.mark new) last
used_event {S} hears library stage s new cs left step x u used o done first last looked a g ran by is h =
    let this = stepped library stage s step x in
    let marked : Mark → StepDone = λ m. record done { mark = m } in
    subst (λ (m : Mark). hears first (happened_as stage step this m new) last) (sym is)
    (acted_event hears stage step this new cs left used o done first last ran (used_is library stage s step x u (use_value used) looked a g) by
    (subst (λ (m : Mark). Received hears stage step (marked m) new first last) is h))

-- a step that no entry matches
pub undefined_event : {S : Type 0} (hears : S → Event → S → Type 0) (library : LibraryValue) (stage : Stage) (s new : State) (step : StepValue) (x : Option FoundValue) (first last : S) → IsUseOf library x None →
    hears first (of_step stage step Undefined None [] new) last → hears first (happened_as stage step (stepped library stage s step x) Undefined new) last
undefined_event hears library stage s new step None first last looked h = h
undefined_event hears library stage s new step (Some f) first last looked h = absurd looked

-- memory is refused while a step is looked up only where its text has the ends of an entry
pub look_needs : (library : LibraryValue) (step : StepValue) (m : Mark) → IsLookedUp library Skipped step m → m ≡ Acted outcomes.Memory → HasCandidateFor library step.step_type step.text
look_needs library step m (inl is) memory = is.1
look_needs library step m (inr is) memory = grind (arith, common_steps)
