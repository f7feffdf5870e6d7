-- What walking through steps is, in words.
use Rattle.gk_run.proofs.Common.{Bool, List, None, Option, Some, [], ap, arith, cond, drop, false, inl, inr, length, option_map, refl, slice_get, subst, suc, sym, zero, ℕ, ◌∙◌, ◌∷◌, ◌≡◌, ◌≢◌, ◌<◌, ◌⊎◌, true≢false, common_steps, same_Some, StepValue, FoundValue, LibraryValue, found, State, Ending, Mark, Acted, Skipped, Outcome, Stage, ending_of, has_passed, Event, SectionNow, event_marks, left_by, steps_of_case, event_of, looked_up, one_step, stepped, steps_from, unrun_step, walk, LaterSteps, CarriesOut, EndsAt, EndsAtTheLeastStop, HasNoStop, IsStop, StepsEndAtTheLeastStop, StoppedCasesRunNoStep, Stops, StopsAt, WalksEndAtTheLeastStop, after, carried_on, event_at, outcome_from, unrun_steps}
use Rattle.gk_run.specs.declared.ending.Ending.TheVariants as endings
use Rattle.gk_run.specs.declared.results.Outcome.TheVariants as outcomes

-- ---- one step

-- an outcome that isn't Passed ends a walk
unpassed : (o : Outcome) → o ≢ outcomes.Passed → has_passed (ending_of (Acted o)) ≡ false
unpassed outcomes.Passed n = absurd (n refl)
unpassed (outcomes.Failed why) n = refl
unpassed outcomes.Skip n = refl
unpassed outcomes.Memory n = refl

passed_or : (o : Outcome) → (o ≡ outcomes.Passed) ⊎ (o ≢ outcomes.Passed)
passed_or outcomes.Passed = inl refl
passed_or (outcomes.Failed why) = inr (λ e. cc)
passed_or outcomes.Skip = inr (λ e. cc)
passed_or outcomes.Memory = inr (λ e. cc)

module _ (library : LibraryValue) (stage : Stage) (s : State) (step : StepValue) where
  abbrev mark_by : Option FoundValue → Mark
  mark_by x = let this = stepped library stage s step x in this.mark

  -- what becomes of it
  abbrev its_mark : Mark
  its_mark = mark_by (found library step.step_type step.text)

  stopped : Stops library stage s step → has_passed (ending_of its_mark) ≡ false
  stopped (inl none) = ap (λ x. has_passed (ending_of (mark_by x))) none
  stopped (inr some) = ap (λ x. has_passed (ending_of (mark_by x))) some.1 ∙ unpassed (outcome_from library stage s step some.0) some.2

  -- it stops, or it passes and doesn't
  abbrev GoesOn : Type 0
  GoesOn = (its_mark ≡ Acted outcomes.Passed) × (Stops library stage s step → ⊥)

  decided_found : (f : FoundValue) → found library step.step_type step.text ≡ Some f → (outcome_from library stage s step f ≡ outcomes.Passed) ⊎ (outcome_from library stage s step f ≢ outcomes.Passed) → (Stops library stage s step) ⊎ GoesOn
  decided_found f h (inl p) =
      let m : its_mark ≡ Acted outcomes.Passed = ap mark_by h ∙ ap (λ (o : Outcome). Acted o) p in
      inr (m, λ st. true≢false (sym (ap (λ x. has_passed (ending_of x)) m) ∙ stopped st))
  decided_found f h (inr n) = inl (inr (f, h, n))

  decided_by : (x : Option FoundValue) → found library step.step_type step.text ≡ x → (Stops library stage s step) ⊎ GoesOn
  decided_by None h = inl (inl h)
  decided_by (Some f) h = decided_found f h (passed_or (outcome_from library stage s step f))

-- ---- a list, its first step and the rest of it

module _ (library : LibraryValue) (stage : Stage) (start : SectionNow) (step : StepValue) (steps : List StepValue) where
  -- the state and the cleanups after the first step
  abbrev next : SectionNow
  next = carried_on library stage start (Some step)

  -- the first k + 1 steps are the first step and then k more
  after_first : (k : ℕ) → after library stage start (step ∷ steps) (suc k) ≡ after library stage next steps k
  after_first zero = refl
  after_first (suc k) = ap (λ (x : SectionNow). carried_on library stage x (slice_get steps k)) (after_first k)

  -- a later step stops as it does in the rest
  into_rest : (k : ℕ) → StopsAt library stage start (step ∷ steps) (suc k) → StopsAt library stage next steps k
  into_rest k h = (h.0, h.1, subst (λ (x : SectionNow). Stops library stage x.state h.0) (after_first k) h.2)

  out_of_rest : (k : ℕ) → StopsAt library stage next steps k → StopsAt library stage start (step ∷ steps) (suc k)
  out_of_rest k h = (h.0, h.1, subst (λ (x : SectionNow). Stops library stage x.state h.0) (sym (after_first k)) h.2)

  first_stops : StopsAt library stage start (step ∷ steps) 0 → Stops library stage start.state step
  first_stops h = subst (λ (x : StepValue). Stops library stage start.state x) (sym (same_Some step h.0 h.1)) h.2

  is_later : (k : ℕ) → IsStop library stage start (step ∷ steps) (suc k) → IsStop library stage next steps k
  is_later k h = (into_rest k h.0, λ i l st. h.1 (suc i) (omega (arith, l)) (out_of_rest i st))

  none_before : (k : ℕ) → (Stops library stage start.state step → ⊥) → ((i : ℕ) → i < k → StopsAt library stage next steps i → ⊥) → (i : ℕ) → i < suc k → StopsAt library stage start (step ∷ steps) i → ⊥
  none_before k n h zero l st = n (first_stops st)
  none_before k n h (suc i) l st = h i (omega (arith, l)) (into_rest i st)

  either_later : (Stops library stage start.state step → ⊥) → ((stop : ℕ) × IsStop library stage next steps stop) ⊎ HasNoStop library stage next steps → ((stop : ℕ) × IsStop library stage start (step ∷ steps) stop) ⊎ HasNoStop library stage start (step ∷ steps)
  either_later n (inl h) = inl (suc h.0, (out_of_rest h.0 h.1.0, none_before h.0 n h.1.1))
  either_later n (inr h) = inr (λ i st. none_before i n (λ j l. h j) i (omega arith) st)

none_in : (library : LibraryValue) (stage : Stage) (start : SectionNow) (k : ℕ) → StopsAt library stage start [] k → ⊥
none_in library stage start k h = let e = h.1 in let no : ⊥ = cc in no

-- ---- the events of a list by those of the rest of it

module _ (library : LibraryValue) (stage : Stage) (start : SectionNow) (step : StepValue) (steps : List StepValue) where
  abbrev first : Event
  first = event_of stage step (one_step library stage start.state step)

  abbrev onward : SectionNow
  onward = next library stage start step steps

  carries_first : (others : List Event) → left_by onward others ≡ onward → CarriesOut library stage start (step ∷ steps) (first ∷ others) 1 0 others
  carries_first others keeps = record { each = only_first; passes = λ i l. absurd (omega (arith, l)); leaves = keeps; rest = refl }
    where
      only_first : (i : ℕ) → i < 1 → slice_get (first ∷ others) i ≡ event_at library stage start (step ∷ steps) i
      only_first zero l = refl
      only_first (suc i) l = absurd (omega (arith, l))

  carries_later : (events : List Event) (count passed : ℕ) (others : List Event) → its_mark library stage start.state step ≡ Acted outcomes.Passed →
      CarriesOut library stage onward steps events count passed others → CarriesOut library stage start (step ∷ steps) (first ∷ events) (suc count) (suc passed) others
  carries_later events count passed others m e = record { each = each_later; passes = passes_later; leaves = e.leaves ∙ sym (after_first library stage start step steps count); rest = e.rest }
    where
      each_later : (i : ℕ) → i < suc count → slice_get (first ∷ events) i ≡ event_at library stage start (step ∷ steps) i
      each_later zero l = refl
      each_later (suc i) l =
          let its_event : SectionNow → Option Event = λ before. option_map (λ (x : StepValue). event_of stage x (one_step library stage before.state x)) (slice_get steps i) in
          e.each i (omega (arith, l)) ∙ sym (ap its_event (after_first library stage start step steps i))

      passes_later : (i : ℕ) → i < suc passed → slice_get (event_marks (first ∷ events)) i ≡ Some (Acted outcomes.Passed)
      passes_later zero l = ap (λ (x : Mark). Some x) m
      passes_later (suc i) l = e.passes i (omega (arith, l))

  -- the first step stops
  when_stopped : (after_stop : LaterSteps) (events : List Event) → Stops library stage start.state step → EndsAt library stage start (step ∷ steps) after_stop events 0 → EndsAtTheLeastStop library stage start (step ∷ steps) after_stop events
  when_stopped after_stop events st at = record { ends = only_first; passes = λ n. absurd (n 0 (step, refl, st)); either = inl (0, ((step, refl, st), λ i l h. absurd (omega (arith, l)))) }
    where
      only_first : (stop : ℕ) → IsStop library stage start (step ∷ steps) stop → EndsAt library stage start (step ∷ steps) after_stop events stop
      only_first zero h = at
      only_first (suc k) h = absurd (h.1 0 (omega arith) (step, refl, st))

  -- the first step passed
  when_passed : (after_stop : LaterSteps) (events : List Event) → GoesOn library stage start.state step → EndsAtTheLeastStop library stage onward steps after_stop events → EndsAtTheLeastStop library stage start (step ∷ steps) after_stop (first ∷ events)
  when_passed after_stop events go later = record {
    ends = ends_later;
    passes = λ n. carries_later events (length steps) (length steps) [] go.0 (later.passes (λ i st. n (suc i) (out_of_rest library stage start step steps i st)));
    either = either_later library stage start step steps go.1 later.either;
  }
    where
      ends_later : (stop : ℕ) → IsStop library stage start (step ∷ steps) stop → EndsAt library stage start (step ∷ steps) after_stop (first ∷ events) stop
      ends_later zero h = absurd (go.1 (first_stops library stage start step steps h.0))
      ends_later (suc k) h =
          let e = later.ends k (is_later library stage start step steps k h) in
          let others : SectionNow → List Event = λ x. after_stop (ending_of e.0) x.state (drop (suc k) steps) in
          let same = sym (ap others (after_first library stage start step steps (suc k))) in
          (e.0, e.1, subst (CarriesOut library stage start (step ∷ steps) (first ∷ events) (suc (suc k)) (suc k)) same (carries_later events (suc k) k (others (after library stage onward steps (suc k))) go.0 e.2))

-- ---- events that are found step by step, and whose last are those after the stop

module _ (library : LibraryValue) (stage : Stage) (after_stop : LaterSteps) (events_of : State → List StepValue → List Event)
    (none : (s : State) → events_of s [] ≡ [])
    (more : (s : State) (step : StepValue) (steps : List StepValue) →
    (let this = one_step library stage s step in events_of s (step ∷ steps) ≡ event_of stage step this ∷ cond (has_passed (ending_of this.mark)) (events_of this.state steps) (after_stop (ending_of this.mark) this.state steps)))
    (keeps : (section : SectionNow) (ended : Ending) (steps : List StepValue) → left_by section (after_stop ended section.state steps) ≡ section) where
  by_first : (start : SectionNow) (step : StepValue) (steps : List StepValue) → (let n = onward library stage start step steps in EndsAtTheLeastStop library stage n steps after_stop (events_of n.state steps)) →
      (Stops library stage start.state step) ⊎ GoesOn library stage start.state step → EndsAtTheLeastStop library stage start (step ∷ steps) after_stop (events_of start.state (step ∷ steps))
  by_first start step steps later (inl st) =
      let this = one_step library stage start.state step in
      let event = event_of stage step this in
      let others = after_stop (ending_of this.mark) this.state steps in
      let split = more start.state step steps ∙ ap (λ (b : Bool). event ∷ cond b (events_of this.state steps) others) (stopped library stage start.state step st) in
      let carries = carries_first library stage start step steps others (keeps (onward library stage start step steps) (ending_of this.mark) steps) in
      subst (EndsAtTheLeastStop library stage start (step ∷ steps) after_stop) (sym split) (when_stopped library stage start step steps after_stop (event ∷ others) st (this.mark, refl, carries))
  by_first start step steps later (inr go) =
      let this = one_step library stage start.state step in
      let event = event_of stage step this in
      let others = after_stop (ending_of this.mark) this.state steps in
      let split = more start.state step steps ∙ ap (λ (m : Mark). event ∷ cond (has_passed (ending_of m)) (events_of this.state steps) others) go.0 in
      subst (EndsAtTheLeastStop library stage start (step ∷ steps) after_stop) (sym split) (when_passed library stage start step steps after_stop (events_of this.state steps) go later)

  in_words : (start : SectionNow) (steps : List StepValue) → EndsAtTheLeastStop library stage start steps after_stop (events_of start.state steps)
  in_words start [] =
      subst (EndsAtTheLeastStop library stage start [] after_stop) (sym (none start.state))
      (record {
        ends = λ stop h. absurd (none_in library stage start stop h.0);
        passes = λ n. record { each = λ i l. absurd (omega (arith, l)); passes = λ i l. absurd (omega (arith, l)); leaves = refl; rest = refl };
        either = inr (none_in library stage start);
      })
  in_words start (step ∷ steps) =
      by_first start step steps (in_words (onward library stage start step steps) steps) (decided_by library stage start.state step (found library step.step_type step.text) refl)

pub walks_in_words : WalksEndAtTheLeastStop
walks_in_words library stage start steps = in_words library stage (λ ended s others. []) (walk library stage) (λ s. refl) (λ s step steps. refl) (λ section ended steps. refl) start steps

-- ---- the steps of a case

unrun_all : (library : LibraryValue) (ended : Ending) (s : State) (steps : List StepValue) → ended ≢ endings.Passed → steps_from library ended s steps ≡ unrun_steps library ended s steps
unrun_all library ended s [] n = refl
unrun_all library endings.Passed s (step ∷ steps) n = absurd (n refl)
unrun_all library endings.Failed s (step ∷ steps) n = ap (λ xs. unrun_step step (looked_up library Skipped step) s ∷ xs) (unrun_all library endings.Failed s steps n)
unrun_all library endings.Skipped s (step ∷ steps) n = ap (λ xs. unrun_step step Skipped s ∷ xs) (unrun_all library endings.Skipped s steps n)
unrun_all library endings.Memory s (step ∷ steps) n = ap (λ xs. unrun_step step (looked_up library Skipped step) s ∷ xs) (unrun_all library endings.Memory s steps n)

pub stopped_cases : StoppedCasesRunNoStep
stopped_cases = unrun_all

steps_by : (library : LibraryValue) (ended : Ending) (s : State) (steps : List StepValue) → steps_from library ended s steps ≡ cond (has_passed ended) (steps_from library endings.Passed s steps) (unrun_steps library ended s steps)
steps_by library endings.Passed s steps = refl
steps_by library endings.Failed s steps = unrun_all library endings.Failed s steps (λ e. cc)
steps_by library endings.Skipped s steps = unrun_all library endings.Skipped s steps (λ e. cc)
steps_by library endings.Memory s steps = unrun_all library endings.Memory s steps (λ e. cc)

-- steps that aren't carried out leave all as it was
unrun_leave : (library : LibraryValue) (section : SectionNow) (ended : Ending) (steps : List StepValue) → left_by section (unrun_steps library ended section.state steps) ≡ section
unrun_leave library section ended [] = refl
unrun_leave library section ended (step ∷ steps) = grind (arith, common_steps, unrun_leave library section ended steps)

pub steps_in_words : StepsEndAtTheLeastStop
steps_in_words library start steps =
    in_words library steps_of_case (unrun_steps library) (steps_from library endings.Passed) (λ s. refl)
    (λ s step steps. (let this = one_step library steps_of_case s step in ap (λ xs. event_of steps_of_case step this ∷ xs) (steps_by library (ending_of this.mark) this.state steps)))
    (unrun_leave library) start steps
