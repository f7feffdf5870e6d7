-- What a section comes to and the messages about it, with what is inside of it.
use Rattle.gk_run.proofs.Common.{FoldsTo, Bool, List, [], ap, map, subst, true, ℕ, ◌++◌, ◌∙◌, ◌∷◌, ◌≡◌, State, Status, Level, Event, Ended, IsRan, Ran, happens, notifies, IsSectionEnd, SectionRow, section_events, section_of, section_state, Run, around_of, before_passed, happened}
use Rattle.gk_run.proofs.EventLemmas.{heard_both}

-- an observer was notified of the events that it heard
pub heard_messages : {S : Type 0} (hears : S → Event → S → Type 0) (ends : S → Ended → S → Type 0) (a : S) (events : List Event) (b : S) → FoldsTo hears a events b → FoldsTo (notifies hears ends) a (map happens events) b
heard_messages hears ends a [] b h = h
heard_messages hears ends a (e ∷ es) b h = (h.0, h.1, heard_messages hears ends h.0 es b h.2)

-- a section that was begun
pub section_ran : {S A : Type 0} (hears : S → Event → S → Type 0) (ends : S → Ended → S → Type 0) (run : Run) (level : Level) (tags : List (List ℕ)) (outside : State) (passed : Bool) (around : Status) (first last : List Event) (row : A) (inside : State → Bool → Ran A) (begin opened mid end : S) →
    (is : IsSectionEnd run level tags outside around first last) → passed ≡ before_passed (happened is.cut (section_events run level tags outside)) → FoldsTo hears begin first opened →
    IsRan (notifies hears ends) (inside (section_state run level tags outside) passed) row opened mid → FoldsTo hears mid last end →
    IsRan (notifies hears ends) (section_of run level tags outside true is.cut inside) (record { around = around; inside = row }) begin end
section_ran {S} {A} hears ends run level tags outside passed around first last row inside begin opened mid end is passes before within after =
    let messages_by = notifies hears ends in
    let events = happened is.cut (section_events run level tags outside) in
    let section = section_state run level tags outside in
    let closing = events.after ++ events.cleanups in
    let ran = inside section (before_passed events) in
    let here : IsRan messages_by ran row opened mid = subst (λ b. IsRan messages_by (inside section b) row opened mid) passes within in
    let with_around : Status → SectionRow A = λ a. record { around = a; inside = row } in
    let with_inside : A → SectionRow A = λ i. record { around = around_of events; inside = i } in
    record {
      is = ap with_around is.hooks ∙ ap with_inside here.is;
      heard = heard_both messages_by begin (map happens events.before) opened (ran.messages ++ map happens closing) end
          (heard_messages hears ends begin events.before opened (subst (λ es. FoldsTo hears begin es opened) is.opening before))
          (heard_both messages_by opened ran.messages mid (map happens closing) end here.heard (heard_messages hears ends mid closing end (subst (λ es. FoldsTo hears mid es end) is.closing after)));
    }
