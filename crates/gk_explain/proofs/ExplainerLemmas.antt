-- What an explainer says of a case that it received.
use Rattle.gk_explain.proofs.Common.{FoldsTo, ◌≡◌, ◌∙◌, ℕ, zero, suc, Bool, true, false, cond, List, [], ◌∷◌, ◌++◌, reverse, refl, ap, sym, subst, StepValue, CaseValue, LibraryValue, State, enter, Ending, Level, Stage, CleanupValue, act, done_of, clean_each, after_lists, before_list, entered, walk_each, ending_of, has_passed, of_step, of_cleanup, SectionNow, cut_at, ended_in, left_by, refused, Run, alone, Cut, nowhere, in_before, in_steps, in_after, in_cleanups, Events, after_of, before_of, happened, in_order, has_event, steps_of_case, one_step, steps_from, walk, Explainer, SectionValue, after_event, after_events, level_of, ExplanationValue, with_section, with_case, with_case_of, is_cut, said, Hears, CasesAreExplained, map, append-nil, append_assoc, kept_of, section_lines}
use Rattle.gk_run.specs.declared.ending.Ending.TheVariants as endings
use Rattle.gk_run.specs.declared.acting.Site.TheVariants as sites
use Rattle.gk_run.specs.declared.section.Level.TheVariants as levels
use Rattle.gk_run.specs.Events.{Event as RunEvent}

-- Events are all of one level.
abbrev pub AllAt : Level → List RunEvent → Type 0
AllAt level [] = Unit {0}
AllAt level (t ∷ ts) = (level_of t ≡ level) × AllAt level ts

at_both : (level : Level) (xs ys : List RunEvent) → AllAt level xs → AllAt level ys → AllAt level (xs ++ ys)
at_both level [] ys a b = b
at_both level (x ∷ xs) ys a b = (a.0, at_both level xs ys a.1 b)

at_if : (level : Level) (test : Bool) (xs : List RunEvent) → AllAt level xs → AllAt level (cond test xs [])
at_if level true xs a = a
at_if level false xs a = tt

at_walk : (library : LibraryValue) (stage : Stage) (s : State) (steps : List StepValue) → AllAt stage.level (walk library stage s steps)
at_walk library stage s [] = tt
at_walk library stage s (step ∷ steps) =
    let this = one_step library stage s step in
    (refl, at_if _ (has_passed (ending_of this.mark)) _ (at_walk library stage this.state steps))

at_steps : (library : LibraryValue) (stood : Ending) (s : State) (steps : List StepValue) → AllAt levels.Scenario (steps_from library stood s steps)
at_steps library stood s [] = tt
at_steps library endings.Passed s (step ∷ steps) = let this = one_step library steps_of_case s step in (refl, at_steps library (ending_of this.mark) this.state steps)
at_steps library endings.Failed s (step ∷ steps) = (refl, at_steps library endings.Failed s steps)
at_steps library endings.Skipped s (step ∷ steps) = (refl, at_steps library endings.Skipped s steps)
at_steps library endings.Memory s (step ∷ steps) = (refl, at_steps library endings.Memory s steps)

at_each : (library : LibraryValue) (level : Level) (section : SectionNow) (lists : List (List StepValue)) → AllAt level (walk_each library level section lists)
at_each library level section [] = tt
at_each library level section (steps ∷ others) =
    let this = walk library (after_of level) section.state steps in
    at_both _ this _ (at_walk library (after_of level) section.state steps) (at_each library level (left_by section this) others)

at_in_turn : (library : LibraryValue) (level : Level) (s : State) (cleanups : List CleanupValue) → AllAt level (clean_each library level s cleanups)
at_in_turn library level s [] = tt
at_in_turn library level s (c ∷ cs) = let done = done_of (act library sites.Cleanup c.found c.block s) in (refl, at_in_turn library level done.state cs)

at_refused : {level : Level} (s : State) (t : RunEvent) → level_of t ≡ level → level_of (refused s t) ≡ level
at_refused s (of_step stage step mark used registered s') a = a
at_refused s (of_cleanup level cleanup outcome s') a = a

at_cut : (level : Level) (n : ℕ) (s : State) (ts : List RunEvent) → AllAt level ts → AllAt level (cut_at n s ts)
at_cut level n s [] a = tt
at_cut level zero s (t ∷ ts) a = (at_refused s t a.0, tt)
at_cut level (suc n) s (t ∷ ts) a = (a.0, at_cut level n s ts a.1)

-- The events of a section are all of one level.
abbrev pub AreAt : Level → Events → Type 0
AreAt level t = AllAt level t.before × AllAt level t.steps × AllAt level t.after × AllAt level t.cleanups

either_at : (level : Level) (test : Bool) (x y : Events) → AreAt level x → AreAt level y → AreAt level (cond test x y)
either_at level true x y a b = a
either_at level false x y a b = b

are_happened : (level : Level) (cut : Cut) (t : Events) → AreAt level t → AreAt level (happened cut t)
are_happened level nowhere t a = a
are_happened level (in_before n s) t a = either_at level (has_event n t.before) _ t (at_cut level n s t.before a.0, tt, tt, tt) a
are_happened level (in_steps n s) t a = either_at level (has_event n t.steps) _ t (a.0, at_cut level n s t.steps a.1, tt, tt) a
are_happened level (in_after n s) t a = either_at level (has_event n t.after) _ t (a.0, a.1, at_cut level n s t.after a.2, tt) a
are_happened level (in_cleanups n s) t a = either_at level (has_event n t.cleanups) _ t (a.0, a.1, a.2, at_cut level n s t.cleanups a.3) a

are_case : (run : Run) (section : State) (c : CaseValue) → AreAt levels.Scenario (alone run section c)
are_case run section c =
    let events = alone run section c in
    let opened = left_by (entered section) events.before in
    let mid = left_by opened events.steps in
    let each = left_by mid events.after in (
      at_walk run.library (before_of levels.Scenario) (enter section) (before_list run.hooks levels.Scenario c.own_tags),
      at_steps run.library (ended_in events.before) opened.state c.steps,
      at_each run.library levels.Scenario mid (after_lists run.hooks levels.Scenario c.own_tags),
      at_in_turn run.library levels.Scenario each.state (reverse each.cleanups),
    )

at_order : (level : Level) (t : Events) → AreAt level t → AllAt level (in_order t)
at_order level t a = at_both _ t.before _ a.0 (at_both _ t.steps _ a.1 (at_both _ t.after _ a.2 a.3))

-- What is kept of the scenario.
abbrev with_scenario : SectionValue → ExplanationValue → ExplanationValue
with_scenario scenario e = record e { scenario = scenario }

-- An explainer that isn't cut keeps of a scenario all its events, which it received.
hears_all : (ts : List RunEvent) (old new : Explainer) → AllAt levels.Scenario ts → FoldsTo Hears old ts new → is_cut new ≡ false →
    (is_cut old ≡ false) × (said new ≡ with_scenario (after_events (said old).library ts (said old).scenario) (said old))
hears_all [] old new a h uncut =
    subst (λ (e : Explainer). (is_cut e ≡ false) × (said new ≡ with_scenario ((said e).scenario ++ []) (said e))) (sym h) (uncut, ap (λ (kept : SectionValue). with_scenario kept (said new)) (sym (append-nil (said new).scenario)))
hears_all (t ∷ ts) old new a h uncut =
    let rest = hears_all ts h.0 new a.1 h.2 uncut in
    let first = h.1 rest.0 in
    let e = said old in
    let next : said h.0 ≡ with_scenario (after_event e.library t e.scenario) e = first.1 ∙ ap (λ (level : Level). with_section level (after_event e.library t) e) a.0 in (
      first.0,
      rest.1 ∙ ap (λ (e : ExplanationValue). with_scenario (after_events e.library ts e.scenario) e) next
          ∙ ap (λ (kept : SectionValue). with_scenario kept e) (append_assoc e.scenario (kept_of e.library t ∷ []) (map (kept_of e.library) ts)),
    )

pub explained_by_its_events : CasesAreExplained
explained_by_its_events run section index c row old new messages uncut none =
    let events = messages.1 in
    let ended = messages.2.0 uncut in
    let at = at_order levels.Scenario _ (are_happened levels.Scenario events.cut (alone run section c) (are_case run section c)) in
    let ts = in_order (happened events.cut (alone run section c)) in
    let all = hears_all ts old messages.0 at events.messages ended.0 in
    let e = said old in (
      events.cut,
      events.is,
      all.0,
      ended.1 ∙ ap (with_case index row) all.1 ∙ ap (λ (before : SectionValue). with_case_of (section_lines e.names (after_events e.library ts before)) index row e) none,
    )
