-- Cleanups, the last first.
use Rattle.gk_run.proofs.Common.{List, [], ap, false, refl, sym, ◌++◌, ◌∙◌, ◌∷◌, ◌≡◌, LibraryValue, State, Ending, Acted, Outcome, Level, CleanupValue, Done, IsDone, clean_each, cleanup_done, ending_of, is_memory_ending, worse, Event, SectionNow, of_cleanup, outcomes_of, Goes, Happens}
use Rattle.gk_run.specs.declared.ending.Ending.TheVariants as endings
use Rattle.gk_run.specs.declared.results.Outcome.TheVariants as outcomes
use Rattle.gk_run.proofs.EventLemmas.{outcomes_append}
use Rattle.gk_run.proofs.GoesLemmas.{begin, behind, chain, unrefused, with_rest}
use Rattle.gk_run.proofs.WalkLemmas.{at}

-- one cleanup happened, with this outcome
abbrev OneCleanup : {S : Type 0} → (S → Event → S → Type 0) → Event → Outcome → SectionNow → SectionNow → S → S → Type 0
OneCleanup hears event o start now first last = (g : Happens hears endings.Passed (event ∷ []) start now (ending_of (Acted o)) first last) × (outcomes_of g.messages ≡ o ∷ [])

-- what a cleanup leaves, as an event
abbrev event_by : Level → CleanupValue → Outcome → State → Event
event_by level c o s = of_cleanup level c o s

exactly : (level : Level) (c : CleanupValue) (done : Done) (o : Outcome) (new : State) → (o ≡ done.outcome) × (new ≡ done.state) → event_by level c done.outcome done.state ≡ event_by level c o new
exactly level c done o new d = sym (ap (λ x. event_by level c x new) d.0 ∙ ap (event_by level c done.outcome) d.1)

one_goes : {S : Type 0} (hears : S → Event → S → Type 0) (level : Level) (c : CleanupValue) (done : Done) (o : Outcome) (s new : State) (cs : List CleanupValue) (first last : S) → IsDone done o new → hears first (of_cleanup level c o new) last →
    OneCleanup hears (event_by level c done.outcome done.state) o (at s cs) (at new cs) first last
one_goes hears level c done outcomes.Memory s new cs first last d h = (
  record {
    messages = of_cleanup level c outcomes.Memory new ∷ [];
    heard = (last, h, refl);
    so_far = record { front = []; event = event_by level c done.outcome done.state; rest = []; left = new; whole = refl; cut = refl };
    ends = refl;
    leaves = refl;
  },
  refl,
)
one_goes hears level c done outcomes.Passed s new cs first last d h =
    (record { messages = of_cleanup level c outcomes.Passed new ∷ []; heard = (last, h, refl); so_far = ap (λ x. x ∷ []) (exactly level c done outcomes.Passed new d); ends = refl; leaves = refl }, refl)
one_goes hears level c done outcomes.Skip s new cs first last d h =
    (record { messages = of_cleanup level c outcomes.Skip new ∷ []; heard = (last, h, refl); so_far = ap (λ x. x ∷ []) (exactly level c done outcomes.Skip new d); ends = refl; leaves = refl }, refl)
one_goes hears level c done (outcomes.Failed why) s new cs first last d h =
    (record { messages = of_cleanup level c (outcomes.Failed why) new ∷ []; heard = (last, h, refl); so_far = ap (λ x. x ∷ []) (exactly level c done (outcomes.Failed why) new d); ends = refl; leaves = refl }, refl)

-- where memory wasn't refused, the state is the one that the cleanup leaves
left_state : (done : Done) (o : Outcome) (new : State) → is_memory_ending (ending_of (Acted o)) ≡ false → IsDone done o new → new ≡ done.state
left_state done outcomes.Memory new n d = let no : ⊥ = cc in absurd no
left_state done outcomes.Passed new n d = d.1
left_state done outcomes.Skip new n d = d.1
left_state done (outcomes.Failed why) new n d = d.1

-- what a loop over cleanups keeps: what happened so far, and that the outcomes are those of it
pub record CleansSoFar {S : Type 0} (hears : S → Event → S → Type 0) (all rest : List Event) (start now : SectionNow) (ended : Ending) (reported : List Outcome) (first last : S) : Type 0 where
  pub goes : Goes hears endings.Passed all rest start now ended first last
  pub outcomes : reported ≡ outcomes_of goes.messages

pub cleans_first : {S : Type 0} (hears : S → Event → S → Type 0) (all : List Event) (start : SectionNow) (first : S) → CleansSoFar hears all all start start endings.Passed [] first first
cleans_first hears all start first = record { goes = begin hears endings.Passed all start first; outcomes = refl }

pub cleans_on : {S : Type 0} (hears : S → Event → S → Type 0) (library : LibraryValue) (level : Level) (c : CleanupValue) (left : List CleanupValue) (o : Outcome) (s new : State) (cs : List CleanupValue) (all : List Event) (start : SectionNow) (ended : Ending) (reported more : List Outcome) (first here last : S) →
    is_memory_ending ended ≡ false → IsDone (cleanup_done library c s) o new → hears here (of_cleanup level c o new) last → more ≡ reported ++ o ∷ [] →
    CleansSoFar hears all (clean_each library level s (c ∷ left)) start (at s cs) ended reported first here → CleansSoFar hears all (clean_each library level new left) start (at new cs) (worse ended (ending_of (Acted o))) more first last
cleans_on hears library level c left o s new cs all start ended reported more first here last m d h pushed so_far =
    let done = cleanup_done library c s in
    let one = one_goes hears level c done o s new cs here last d h in
    record {
      goes = with_rest (clean_each library level new left) (chain (clean_each library level done.state left) so_far.goes (λ _. refl) (behind ended m one.0))
          (λ n. sym (ap (λ x. clean_each library level x left) (left_state done o new (unrefused ended (ending_of (Acted o)) m ∙ n) d)));
      outcomes = pushed ∙ ap (λ os. os ++ o ∷ []) so_far.outcomes ∙ sym (outcomes_append so_far.goes.messages one.0.messages ∙ ap (λ os. outcomes_of so_far.goes.messages ++ os) one.1);
    }
