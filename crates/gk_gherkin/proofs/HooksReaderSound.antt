-- The lines so far read as the hooks so far, and each line keeps that: what is read has that reading.
use Rattle.gk_gherkin.proofs.Common.{◌≡◌, ◌≢◌, ℕ, Bool, true, false, List, [], ◌∷◌, Option, Some, None, Ok, refl, sym, subst, AllByRecursion, last_or, HookLine, Plain, Blank, Comment, Class, HooksClass, hook_begun, hook_after, hook_from, hook_with, hooks_readers, last_hook_takes_text, last_hook_with_text, on_hook, on_plain_line, under_last, on_steps, steps_with_text, with_last, has_heading, heading_of, Outside, InText, State, finish, reading, run, HookValue, HookHeadingValue, StepValue, hook_heading, hooks_class, AreDistinct, IsHook, ReadsHooks, LineValue, Lines, class, IsDocString, IsIgnored, IsIgnoredClass, Many, Next, Skips, none, skip_none}
use Rattle.gk_gherkin.specs.HooksReader.{on}
use Rattle.gk_gherkin.proofs.LastItems.{Many-with_last}
use Rattle.gk_gherkin.proofs.ReadingRuns.{bind_is, bind_ok, no_ok, ok_same}
use Rattle.gk_gherkin.proofs.ReadingSound.{Built, built_run}
use Rattle.gk_gherkin.proofs.OpenPartsSound.{Many-push, Skips-more, StepsBuilt, on_steps-built, text_under}
use Rattle.gk_gherkin.proofs.HookClasses.{plain_class}
use Rattle.gk_gherkin.proofs.HookHeadingsDecided.{distinct_push, fresh_so}

-- nothing stands between a heading and its first step
abbrev pub Same : Lines → Lines → Type 0
Same a b = a ≡ b

abbrev pub HooksBuilt : List HookValue → Lines → Lines → Type 0
HooksBuilt hooks ls rest = Many IsHook ls hooks rest × AreDistinct hooks

pub steps_of : {ls rest : Lines} {hook : HookValue} → (i : IsHook ls hook rest) → StepsBuilt Same hook.steps i.after_heading rest
steps_of i = (i.after_heading, refl, i.steps)

-- the last hook, with other steps
differs_last : (heading : HookHeadingValue) (o : Option HookValue) (hooks : List HookValue) (hook : HookValue) (steps : List StepValue) → last_or o hooks ≡ Some hook → AllByRecursion (λ other. heading_of other ≢ heading) hooks → AllByRecursion (λ other. heading_of other ≢ heading) (with_last (hook_with hook steps) hooks)
unfolding with_last
differs_last heading o [] hook steps is d = tt
differs_last heading o (x ∷ []) hook steps is d = let same : x ≡ hook = cc is in (subst (λ (x : HookValue). heading_of x ≢ heading) same d.0, tt)
differs_last heading o (x ∷ y ∷ hooks) hook steps is d = (d.0, differs_last heading (Some x) (y ∷ hooks) hook steps is d.1)

distinct_last : (o : Option HookValue) (hooks : List HookValue) (hook : HookValue) (steps : List StepValue) → last_or o hooks ≡ Some hook → AreDistinct hooks → AreDistinct (with_last (hook_with hook steps) hooks)
unfolding with_last
distinct_last o [] hook steps is d = tt
distinct_last o (x ∷ []) hook steps is d = (tt, tt)
distinct_last o (x ∷ y ∷ hooks) hook steps is d = (differs_last (heading_of x) (Some x) (y ∷ hooks) hook steps is d.0, distinct_last (Some x) (y ∷ hooks) hook steps is d.1)

last_grown : (hooks : List HookValue) (hook : HookValue) (steps : List StepValue) (ls mid rest : Lines) → last_or None hooks ≡ Some hook → ((from : Lines) → StepsBuilt Same hook.steps from mid → StepsBuilt Same steps from rest) → HooksBuilt hooks ls mid → HooksBuilt (with_last (hook_with hook steps) hooks) ls rest
last_grown hooks hook steps ls mid rest is grow b = (
  Many-with_last IsHook (hook_with hook steps) hooks ls mid rest hook is (λ from i. let k = grow i.after_heading (steps_of i) in record { line = i.line; after_heading = k.0; next = subst (λ after. Next IsIgnored from i.line after) k.1 i.next; is = i.is; heading = i.heading; number = i.number; steps = k.2 }) b.0,
  distinct_last None hooks hook steps is b.1,
)

-- a heading
hook_begun-built : (b : Bool) (hooks : List HookValue) (heading : HookHeadingValue) (ls mid rest : Lines) (l : LineValue) (t : List HookValue) → has_heading heading hooks ≡ b → hooks_class l ≡ HookLine → hook_heading l ≡ Some heading → HooksBuilt hooks ls mid → Next IsIgnored mid l rest → hook_begun b hooks heading l ≡ Ok t → HooksBuilt t ls rest
hook_begun-built true hooks heading ls mid rest l t s c w b n e = no_ok e
hook_begun-built false hooks heading ls mid rest l t s c w b n e =
    let made : IsHook mid (hook_from heading l) rest = record { line = l; after_heading = rest; next = n; is = c; heading = w; number = refl; steps = record { parts = none; types = tt } } in
    subst (λ t. HooksBuilt t ls rest) (ok_same e) (Many-push b.0 made, distinct_push hooks (hook_from heading l) b.1 (fresh_so heading hooks s))

heading-built : (r : Option HookHeadingValue) (hooks : List HookValue) (ls mid rest : Lines) (l : LineValue) (t : List HookValue) → hook_heading l ≡ r → hooks_class l ≡ HookLine → HooksBuilt hooks ls mid → Next IsIgnored mid l rest → hook_after r hooks l ≡ Ok t → HooksBuilt t ls rest
heading-built None hooks ls mid rest l t w c b n e = no_ok e
heading-built (Some heading) hooks ls mid rest l t w c b n e = hook_begun-built (has_heading heading hooks) hooks heading ls mid rest l t refl c w b n e

on_hook-built : (hooks : List HookValue) (ls mid rest : Lines) (l : LineValue) (t : List HookValue) → hooks_class l ≡ HookLine → HooksBuilt hooks ls mid → Next IsIgnored mid l rest → on_hook hooks l ≡ Ok t → HooksBuilt t ls rest
unfolding on_hook
on_hook-built hooks ls mid rest l t c b n e = heading-built (hook_heading l) hooks ls mid rest l t refl c b n e

-- a line that is no hook line
under_last-built : (o : Option HookValue) (hooks : List HookValue) (ls mid rest : Lines) (l : LineValue) (c : Class) (t : List HookValue) → last_or None hooks ≡ o → class l ≡ c → HooksBuilt hooks ls mid → Next IsIgnored mid l rest → under_last o hooks l c ≡ Ok t → HooksBuilt t ls rest
under_last-built None hooks ls mid rest l k t is c b n e = no_ok e
under_last-built (Some hook) hooks ls mid rest l k t is c b n e =
    let r = bind_is (on_steps hook.steps l k) (λ (steps : List StepValue). with_last (hook_with hook steps) hooks) t e in
    subst (λ t. HooksBuilt t ls rest) r.2 (last_grown hooks hook r.0 ls mid rest is (λ from i. on_steps-built Same hook.steps from mid rest l k r.0 c i n r.1) b)

on_plain_line-built : (hooks : List HookValue) (ls mid rest : Lines) (l : LineValue) (c : Class) (t : List HookValue) → class l ≡ c → HooksBuilt hooks ls mid → Next IsIgnored mid l rest → on_plain_line hooks l c ≡ Ok t → HooksBuilt t ls rest
unfolding on_plain_line
on_plain_line-built hooks ls mid rest l k t c b n e = under_last-built (last_or None hooks) hooks ls mid rest l k t refl c b n e

ignored : (l : LineValue) (c : Class) → IsIgnoredClass c → hooks_class l ≡ Plain c → IsIgnored l
ignored l c i e = subst IsIgnoredClass (sym (plain_class l c e)) i

-- The lines of whole, up to rest, are what these hooks say.
abbrev pub Holds : List HookValue → Lines → Lines → Type 0
Holds hooks whole rest = (mid : Lines) × HooksBuilt hooks whole mid × Skips IsIgnored mid rest

on-built : (reader next : List HookValue) (whole rest : Lines) (l : LineValue) (c : HooksClass) → hooks_class l ≡ c → Holds reader whole (l ∷ rest) → on reader l c ≡ Ok next → Holds next whole rest
unfolding on
on-built reader next whole rest l HookLine c b e = (rest, on_hook-built reader whole b.0 rest l next c b.1 b.2 e, skip_none)
on-built reader next whole rest l (Plain Blank) c b e = subst (λ next. Holds next whole rest) (ok_same e) (b.0, b.1, Skips-more (ignored l Blank tt c) b.2)
on-built reader next whole rest l (Plain Comment) c b e = subst (λ next. Holds next whole rest) (ok_same e) (b.0, b.1, Skips-more (ignored l Comment tt c) b.2)
on-built reader next whole rest l (Plain k) c b e = (rest, on_plain_line-built reader whole b.0 rest l k next (plain_class l k c) b.1 b.2 e, skip_none)

keeps : (reader next : List HookValue) (whole rest : Lines) (l : LineValue) → Holds reader whole (l ∷ rest) → hooks_readers.after_line reader l ≡ Ok next → Holds next whole rest
keeps reader next whole rest l b e = on-built reader next whole rest l (hooks_class l) refl b e

text_under_last : (o : Option HookValue) (hooks : List HookValue) (whole mid ls rest : Lines) (text : List ℕ) → last_or None hooks ≡ o → last_hook_takes_text o ≡ true → HooksBuilt hooks whole mid → Skips IsIgnored mid ls → IsDocString ls text rest → HooksBuilt (last_hook_with_text o hooks text) whole rest
text_under_last None hooks whole mid ls rest text is t b n d = let no : ⊥ = cc t in absurd no
text_under_last (Some hook) hooks whole mid ls rest text is t b n d = last_grown hooks hook (steps_with_text hook.steps text) whole mid rest is (λ from i. text_under Same hook.steps from mid ls rest text t i n d) b

after : (reader : List HookValue) (whole ls rest : Lines) (text : List ℕ) → hooks_readers.takes_text reader ≡ true → Holds reader whole ls → IsDocString ls text rest → Holds (hooks_readers.after_text reader text) whole rest
after reader whole ls rest text t b d = (rest, text_under_last (last_or None reader) reader whole b.0 ls rest text refl t b.1 b.2 d, skip_none)

-- What is reached stands in the state.
pub reached_built : (before : Lines) (s : State (List HookValue)) → run hooks_readers (Outside []) before ≡ Ok s → Built hooks_readers Holds s before []
reached_built before s r = built_run hooks_readers Holds keeps after (Outside []) before before s (before, (none, tt), skip_none) r

finish_ok : (s : State (List HookValue)) (ls : Lines) (hooks : List HookValue) → Built hooks_readers Holds s ls [] → finish hooks_readers s ≡ Ok hooks → ReadsHooks ls hooks
unfolding finish
finish_ok (Outside found) ls hooks b e = subst (ReadsHooks ls) (ok_same e) (record { tail = b.0; parts = b.1.0; end = b.2; distinct = b.1.1 })
finish_ok (InText reader text) ls hooks b e = no_ok e

-- What is read has that reading.
pub hooks_sound : (ls : Lines) (hooks : List HookValue) → reading hooks_readers ls ≡ Ok hooks → ReadsHooks ls hooks
unfolding reading
hooks_sound ls hooks e = let r = bind_ok (run hooks_readers (Outside []) ls) (finish hooks_readers) hooks e in finish_ok r.0 ls hooks (reached_built ls r.0 r.1) r.2
