-- How events end, where they are cut, and where they leave a section.
use Rattle.gk_run.proofs.Common.{List, [], ap, length, refl, subst, suc, sym, true, zero, ℕ, ◌++◌, ◌∙◌, ◌∷◌, ◌≡◌, true≢false, arith, common_steps, FoldsTo, list_any, map-append, State, is_memory_mark, worse, Event, SectionNow, after_event, cut_at, ended_in, event_marks, left_by, of_cleanup, of_step, outcomes_of, refused, has_event}
use Rattle.gk_run.specs.declared.ending.Ending.TheVariants as endings

pub ended_both : (xs ys : List Event) → ended_in (xs ++ ys) ≡ worse (ended_in xs) (ended_in ys)
ended_both xs ys = grind (arith, common_steps, map-append)

-- where one part ends with memory, all do
pub first_refused : (xs ys : List Event) → ended_in xs ≡ endings.Memory → ended_in (xs ++ ys) ≡ endings.Memory
first_refused xs ys h = ended_both xs ys ∙ ap (λ e. worse e (ended_in ys)) h

pub later_refused : (xs ys : List Event) → ended_in ys ≡ endings.Memory → ended_in (xs ++ ys) ≡ endings.Memory
later_refused xs ys h = grind (arith, common_steps, ended_both)

pub outcomes_append : (xs ys : List Event) → outcomes_of (xs ++ ys) ≡ outcomes_of xs ++ outcomes_of ys
outcomes_append [] ys = refl
outcomes_append (of_step stage step mark used registered s ∷ xs) ys = outcomes_append xs ys
outcomes_append (of_cleanup level cleanup outcome s ∷ xs) ys = ap (λ os. outcome ∷ os) (outcomes_append xs ys)

pub left_both : (section : SectionNow) (xs ys : List Event) → left_by section (xs ++ ys) ≡ left_by (left_by section xs) ys
left_both section [] ys = refl
left_both section (x ∷ xs) ys = left_both (after_event section x) xs ys

-- messages one after another
pub heard_both : {S A : Type 0} (hears : S → A → S → Type 0) (a : S) (xs : List A) (b : S) (ys : List A) (c : S) → FoldsTo hears a xs b → FoldsTo hears b ys c → FoldsTo hears a (xs ++ ys) c
heard_both hears a [] b ys c p q = subst (λ s. FoldsTo hears s ys c) (sym p) q
heard_both hears a (x ∷ xs) b ys c p q = (p.0, p.1, heard_both hears p.0 xs b ys c p.2 q)

-- ---- where events are cut

pub place_there : (front : List Event) (event : Event) (rest : List Event) → has_event (length front) (front ++ event ∷ rest) ≡ true
place_there [] event rest = refl
place_there (x ∷ front) event rest = place_there front event rest

pub cut_there : (s : State) (front : List Event) (event : Event) (rest : List Event) → front ++ refused s event ∷ [] ≡ cut_at (length front) s (front ++ event ∷ rest)
cut_there s [] event rest = refl
cut_there s (x ∷ front) event rest = ap (λ xs. x ∷ xs) (cut_there s front event rest)

-- a cut is marked
pub cut_is_memory : (events : List Event) (n : ℕ) (s : State) → has_event n events ≡ true → list_any is_memory_mark (event_marks (cut_at n s events)) ≡ true
cut_is_memory [] n s h = absurd (true≢false (sym h))
cut_is_memory (x ∷ xs) zero s h = grind (arith, common_steps)
cut_is_memory (x ∷ xs) (suc n) s h = grind (arith, common_steps, cut_is_memory xs n s h)

pub cut_ends : (events : List Event) (n : ℕ) (s : State) → has_event n events ≡ true → ended_in (cut_at n s events) ≡ endings.Memory
cut_ends events n s h = grind (arith, common_steps, cut_is_memory)
