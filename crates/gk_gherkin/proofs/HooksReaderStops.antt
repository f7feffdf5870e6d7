-- Where a run over the lines of a hooks file stops, and what the fault there says.
use Rattle.gk_gherkin.proofs.Common.{◌≡◌, ℕ, Bool, true, false, List, [], ◌∷◌, Option, Some, None, Result, Ok, Err, refl, sym, subst, ◌++◌, ap, ◌∙◌, ◌⊎◌, inl, inr, ◌||◌, ◌≢◌, IfOk, IfErr, arith, common_steps, append-nil, HookLine, Plain, BeforeTag, Blank, Comment, RowLine, BadHook, Memory, UnclosedText, Unexpected, Class, ReadFault, HooksClass, Needs, hook_begun, hook_after, hooks_readers, on_hook, on_plain_line, on_steps, has_heading, Outside, FailsAs, FailsBy, InText, State, finish, opening, reading, run, step, HookValue, hooks_value, HookHeadingValue, hook_heading, hooks_class, AreHooksReadable, ReadsHooks, heading_of, IsText, LineValue, Lines, lines_of, class, cells_of, IsIgnored, IsIgnoredClass, skip, skip_none, AnswersOrLacksMemory, BeginsNone, BeginsSome, FaultSays, HooksFault, HooksLineSays, HooksNeedMemory, IsHooksLineFault, NoneLikeIt, SomeLikeIt, StoodBefore, line_of_fault, ◌>>=◌, HookFile, last_or, hook_from, hook_with, under_last, with_last, StepValue}
use Rattle.gk_gherkin.specs.HooksReader.{after_text, on, takes_text}
use Rattle.gk_gherkin.proofs.ReadingRuns.{Halts, bind_err, err_same, halts, no_err, no_ok, ok_same, one_more_line}
use Rattle.gk_gherkin.proofs.ReadingStates.{never, no_fence, refused_at, step_plain, step_refused}
use Rattle.gk_gherkin.proofs.ReadingStops.{ends_in_text, halted, marks, needed}
use Rattle.gk_gherkin.proofs.ReadingWhole.{only_memory, said}
use Rattle.gk_gherkin.proofs.LastItems.{Many-last}
use Rattle.gk_gherkin.proofs.HooksReaderSound.{HooksBuilt, Same, hooks_sound, reached_built, steps_of}
use Rattle.gk_gherkin.proofs.HooksReaderComplete.{heading_step, hooks_complete, hooks_run}
use Rattle.gk_gherkin.proofs.RowStops.{Refuses, Stopped, row_says, row_stops, steps_stop, stopped_then}
use Rattle.gk_gherkin.proofs.HookClasses.{class_plain, opens_alike, plain_class}
use Rattle.gk_gherkin.proofs.HookHeadingsDecided.{fresh_stands, heading_so, is_same_heading}
use Rattle.gk_gherkin.proofs.FreshHookHeadings.{fresh_class, fresh_heading, fresh_line, is_fresh, size_of, tag_of}

pub hook_runs : (ls : Lines) → AreHooksReadable ls → (reader : List HookValue) × (run hooks_readers (Outside []) ls ≡ Ok (Outside reader))
hook_runs ls readable = (readable.0, hooks_run ls readable.0 readable.1)

-- after a line that halts, nothing is readable
hooks_halted : (before : Lines) (l : LineValue) (s : State (List HookValue)) (e : ReadFault) → run hooks_readers (Outside []) before ≡ Ok s → step hooks_readers s l ≡ Err e → BeginsNone AreHooksReadable hooks_class (before ++ l ∷ [])
hooks_halted before l s e r h = halted hooks_readers AreHooksReadable hooks_class hook_runs before l s e r h

-- what a reader reached is readable
reads_at : (ls : Lines) (reader : List HookValue) → run hooks_readers (Outside []) ls ≡ Ok (Outside reader) → ReadsHooks ls reader
unfolding reading finish
reads_at ls reader r = hooks_sound ls reader (ap (λ (r : Result (State (List HookValue)) ReadFault). r >>= finish hooks_readers) r)

pub hooks_readable_at : (ls : Lines) (reader : List HookValue) → run hooks_readers (Outside []) ls ≡ Ok (Outside reader) → AreHooksReadable ls
hooks_readable_at ls reader r = (reader, reads_at ls reader r)

readable_more : (ls : Lines) (reader next : List HookValue) (l : LineValue) → run hooks_readers (Outside []) ls ≡ Ok (Outside reader) → step hooks_readers (Outside reader) l ≡ Ok (Outside next) → AreHooksReadable (ls ++ l ∷ [])
readable_more ls reader next l r e = hooks_readable_at (ls ++ l ∷ []) next (one_more_line (step hooks_readers) (Outside []) ls (Outside reader) (Outside next) l r e)

begins_more : (ls : Lines) (l : LineValue) → AreHooksReadable (ls ++ l ∷ []) → BeginsSome AreHooksReadable hooks_class (ls ++ l ∷ [])
begins_more ls l readable = ([], subst AreHooksReadable (sym (append-nil (ls ++ l ∷ []))) readable)

fits : (before : Lines) (s : State (List HookValue)) (l : LineValue) (e : ReadFault) → run hooks_readers (Outside []) before ≡ Ok s → step hooks_readers s l ≡ Err e → AreHooksReadable before
fits before (Outside reader) l e r h = hooks_readable_at before reader r
fits before (InText reader text) l e r h = never hooks_readers reader text l e h

-- a fault names a line, and says something of it and of those before it
abbrev Says : ReadFault → Lines → LineValue → Type 0
Says e before l = (line_of_fault e ≡ Some l.line) × HooksLineSays e before l

-- lines that are refused
under_last_stops : (last : Option HookValue) (hooks : List HookValue) (ls mid : Lines) (l : LineValue) (c : Class) (e : ReadFault) → last_or None hooks ≡ last → HooksBuilt hooks ls mid → under_last last hooks l c ≡ Err e → Stopped (λ o. under_last last hooks o c) l c e
under_last_stops None hooks ls mid l k e is b h = inl (err_same h, λ o. refl)
under_last_stops (Some hook) hooks ls mid l k e is b h =
    let i = (Many-last hooks ls mid hook is b.0).1 in
    stopped_then (λ o. on_steps hook.steps o k) (λ steps. with_last (hook_with hook steps) hooks) l k e (steps_stop Same hook.steps i.after_heading mid l k e (steps_of i) (bind_err (on_steps hook.steps l k) (λ (steps : List StepValue). with_last (hook_with hook steps) hooks) e h))

plain_line_stops : (hooks : List HookValue) (ls mid : Lines) (l : LineValue) (c : Class) (e : ReadFault) → HooksBuilt hooks ls mid → on_plain_line hooks l c ≡ Err e → Stopped (λ o. on_plain_line hooks o c) l c e
unfolding on_plain_line
plain_line_stops hooks ls mid l k e b h = under_last_stops (last_or None hooks) hooks ls mid l k e refl b h

-- a line that opens no doc string
says : (before : Lines) (reader : List HookValue) (l : LineValue) (c : HooksClass) (e : ReadFault) (g : LineValue → Result (List HookValue) ReadFault) → run hooks_readers (Outside []) before ≡ Ok (Outside reader) → hooks_class l ≡ c → opening (takes_text reader) (class l) ≡ None → ((o : LineValue) → on reader o c ≡ g o) → Refuses g l e → Says e before l
says before reader l c e g reached is bare same r =
    let refused : NoneLikeIt AreHooksReadable hooks_class before l = λ other alike. hooks_halted before other (Outside reader) (Unexpected other.line) reached (step_refused hooks_readers reader other (Unexpected other.line) (opens_alike (takes_text reader) l other alike bare) (ap (on reader other) (alike ∙ is) ∙ same other ∙ r.1 other)) in
    subst (λ e. Says e before l) r.0 (refl, refused)

stopped_says : (before : Lines) (reader : List HookValue) (l : LineValue) (c : Class) (e : ReadFault) → run hooks_readers (Outside []) before ≡ Ok (Outside reader) → hooks_class l ≡ Plain c → opening (takes_text reader) (class l) ≡ None → ((o : LineValue) → on reader o (Plain c) ≡ on_plain_line reader o c) → Stopped (λ o. on_plain_line reader o c) l c e → Says e before l
stopped_says before reader l c e r is bare same (inl k) = says before reader l (Plain c) e (λ o. on_plain_line reader o c) r is bare same k
stopped_says before reader l c e r is bare same (inr k) =
    let free : (o : LineValue) → class o ≡ RowLine → opening (takes_text reader) (class o) ≡ None = λ o o_is. ap (opening (takes_text reader)) o_is ∙ no_fence (takes_text reader) RowLine tt in
    let row : (o : LineValue) → class o ≡ RowLine → on reader o (hooks_class o) ≡ on_plain_line reader o c = λ o o_is. ap (on reader o) (class_plain o RowLine o_is (λ e. cc) ∙ ap Plain (sym k.is)) ∙ same o in
    row_says AreHooksReadable hooks_class before k.width (cells_of l) k.row l k.cells e (λ e. Says e before l) (λ bad. (refl, bad)) (λ bad. (refl, bad)) k.row_is (class_plain k.row RowLine k.row_is (λ e. cc) ∙ sym (is ∙ ap Plain k.is)) k.row_cells (plain_class l c is ∙ k.is)
    (λ o cells o_is h. let t = k.takes o cells h in readable_more before reader t.0 o r (step_plain hooks_readers reader t.0 o (free o o_is) (row o o_is ∙ t.1)))
    (λ o e o_is h. hooks_halted before o (Outside reader) e r (step_refused hooks_readers reader o e (free o o_is) (row o o_is ∙ k.refuses o e h)))
    refl (row_stops k.width l e k.stops)

plain_says : (before : Lines) (reader : List HookValue) (l : LineValue) (c : Class) (e : ReadFault) → run hooks_readers (Outside []) before ≡ Ok (Outside reader) → hooks_class l ≡ Plain c → opening (takes_text reader) (class l) ≡ None → ((o : LineValue) → on reader o (Plain c) ≡ on_plain_line reader o c) → on_plain_line reader l c ≡ Err e → Says e before l
plain_says before reader l c e r is bare same h =
    let built = reached_built before (Outside reader) r in
    stopped_says before reader l c e r is bare same (plain_line_stops reader before built.0 l c e built.1 h)

-- where a hook line stands, one with a fresh heading may
may_stand : (before : Lines) (reader : List HookValue) (l : LineValue) → run hooks_readers (Outside []) before ≡ Ok (Outside reader) → hooks_class l ≡ HookLine → SomeLikeIt AreHooksReadable hooks_class before l
may_stand before reader l r is =
    let n = size_of reader in
    let fresh = fresh_line n in
    let heading : HookHeadingValue = record { kind = BeforeTag; tag = Some (tag_of n) } in
    let taken = heading_step reader heading fresh (fresh_class n) (fresh_heading n) (fresh_stands heading reader (is_fresh reader)) in
    (fresh, fresh_class n ∙ sym is, begins_more before fresh (readable_more before reader (reader ++ hook_from heading fresh ∷ []) fresh r taken))

-- a heading that stands among some hooks
record Among (heading : HookHeadingValue) (hooks : List HookValue) : Type 0 where
  earlier : List HookValue
  hook : HookValue
  later : List HookValue
  whole : hooks ≡ earlier ++ hook ∷ later
  same : heading ≡ heading_of hook

among_by : (b : Bool) (heading : HookHeadingValue) (hook : HookValue) (hooks : List HookValue) → is_same_heading (heading_of hook) heading ≡ b → (b || has_heading heading hooks) ≡ true → (has_heading heading hooks ≡ true → Among heading hooks) → Among heading (hook ∷ hooks)
among_by true heading hook hooks s h again = record { earlier = []; hook = hook; later = hooks; whole = refl; same = sym (heading_so (heading_of hook) heading s) }
among_by false heading hook hooks s h again =
    let k = again h in
    record { earlier = hook ∷ k.earlier; hook = k.hook; later = k.later; whole = ap (λ (hooks : List HookValue). hook ∷ hooks) k.whole; same = k.same }

among : (heading : HookHeadingValue) (hooks : List HookValue) → has_heading heading hooks ≡ true → Among heading hooks
among heading [] h = let no : ⊥ = cc in absurd no
among heading (hook ∷ hooks) h = among_by (is_same_heading (heading_of hook) heading) heading hook hooks refl h (λ k. among heading hooks k)

stood : (before : Lines) (reader : List HookValue) (l : LineValue) (heading : HookHeadingValue) → run hooks_readers (Outside []) before ≡ Ok (Outside reader) → hook_heading l ≡ Some heading → has_heading heading reader ≡ true → StoodBefore before l
stood before reader l heading r w s =
    let k = among heading reader s in
    record { hooks = reader; reading = reads_at before reader r; earlier = k.earlier; hook = k.hook; later = k.later; whole = k.whole; same = w ∙ ap Some k.same }

named_bad : (before : Lines) (reader : List HookValue) (l : LineValue) (e : ReadFault) → run hooks_readers (Outside []) before ≡ Ok (Outside reader) → hooks_class l ≡ HookLine → BadHook l.line ≡ e → (hook_heading l ≡ None) ⊎ StoodBefore before l → Says e before l
named_bad before reader l e r is named bad = grind (arith, common_steps, fits, may_stand)

hook_begun_says : (b : Bool) (before : Lines) (reader : List HookValue) (l : LineValue) (heading : HookHeadingValue) (e : ReadFault) → run hooks_readers (Outside []) before ≡ Ok (Outside reader) → hooks_class l ≡ HookLine → hook_heading l ≡ Some heading → has_heading heading reader ≡ b → hook_begun b reader heading l ≡ Err e → Says e before l
hook_begun_says true before reader l heading e r is w s h = named_bad before reader l e r is (err_same h) (inr (stood before reader l heading r w s))
hook_begun_says false before reader l heading e r is w s h = no_err h

hook_says : (o : Option HookHeadingValue) (before : Lines) (reader : List HookValue) (l : LineValue) (e : ReadFault) → run hooks_readers (Outside []) before ≡ Ok (Outside reader) → hooks_class l ≡ HookLine → hook_heading l ≡ o → hook_after o reader l ≡ Err e → Says e before l
hook_says None before reader l e r is w h = named_bad before reader l e r is (err_same h) (inl w)
hook_says (Some heading) before reader l e r is w h = hook_begun_says (has_heading heading reader) before reader l heading e r is w refl h

on_hook_says : (before : Lines) (reader : List HookValue) (l : LineValue) (e : ReadFault) → run hooks_readers (Outside []) before ≡ Ok (Outside reader) → hooks_class l ≡ HookLine → on_hook reader l ≡ Err e → Says e before l
unfolding on_hook
on_hook_says before reader l e r is h = hook_says (hook_heading l) before reader l e r is refl h

at_says : (before : Lines) (reader : List HookValue) (l : LineValue) (c : HooksClass) (e : ReadFault) → run hooks_readers (Outside []) before ≡ Ok (Outside reader) → hooks_class l ≡ c → opening (takes_text reader) (class l) ≡ None → on reader l c ≡ Err e → Says e before l
unfolding on
at_says before reader l HookLine e r is bare h = on_hook_says before reader l e r is h
at_says before reader l (Plain Blank) e r is bare h = no_err h
at_says before reader l (Plain Comment) e r is bare h = no_err h
at_says before reader l (Plain k) e r is bare h = plain_says before reader l k e r is bare (λ o. refl) h

stop_says : (before : Lines) (s : State (List HookValue)) (l : LineValue) (e : ReadFault) → run hooks_readers (Outside []) before ≡ Ok s → step hooks_readers s l ≡ Err e → Says e before l
stop_says before (Outside reader) l e r h = let k = refused_at hooks_readers reader l e h in at_says before reader l (hooks_class l) e r refl k.0 k.1
stop_says before (InText reader text) l e r h = never hooks_readers reader text l e h

stops_at : (ls : Lines) (e : ReadFault) (k : Halts (step hooks_readers) (Outside []) ls e) → Says e k.before k.line → IsHooksLineFault e ls
stops_at ls e k h = record { before = k.before; line = k.line; after = k.after; whole = k.whole; number = h.0; fits = inl (fits k.before k.state k.line e k.reached k.stops); stops = hooks_halted k.before k.line k.state e k.reached k.stops; says = h.1 }

line_fault : (ls : Lines) (e : ReadFault) (k : Halts (step hooks_readers) (Outside []) ls e) → Says e k.before k.line → HooksFault e ls
line_fault ls (UnclosedText n) k h = absurd h.1
line_fault ls Memory k h = absurd h.1
line_fault ls e k h = stops_at ls e k h

end_fault : (ls : Lines) (s : State (List HookValue)) (e : ReadFault) → run hooks_readers (Outside []) ls ≡ Ok s → finish hooks_readers s ≡ Err e → HooksFault e ls
unfolding finish
end_fault ls (Outside reader) e r h = no_err h
end_fault ls (InText reader text) e r h =
    let remembered = marks hooks_readers (λ reader done. Unit {0}) (λ reader next l done m e. tt) (λ reader text done t. tt) ls (InText reader text) tt r in
    let ends = ends_in_text hooks_readers AreHooksReadable hooks_class hook_runs (λ ls reader r t. hooks_readable_at ls reader r) (λ ls reader text r t. hooks_readable_at ls (after_text reader text) r) ls reader text r remembered in
    let same : UnclosedText text.line ≡ e = err_same h in
    subst (λ e. HooksFault e ls) same ends

fault_by : (ls : Lines) (r : Result (State (List HookValue)) ReadFault) (e : ReadFault) → run hooks_readers (Outside []) ls ≡ r → (r >>= finish hooks_readers) ≡ Err e → HooksFault e ls
fault_by ls (Ok s) e same h = end_fault ls s e same h
fault_by ls (Err x) e same h =
    let named : x ≡ e = err_same h in
    let k = halts (step hooks_readers) (Outside []) ls x same in
    subst (λ e. HooksFault e ls) named (line_fault ls x k (stop_says k.before k.state k.line x k.reached k.stops))

-- Each fault is what it says.
pub hooks_faulty : (ls : Lines) (e : ReadFault) → reading hooks_readers ls ≡ Err e → HooksFault e ls
unfolding reading
hooks_faulty ls e h = fault_by ls (run hooks_readers (Outside []) ls) e refl h

-- where memory is needed
behind : (l : LineValue) (ls : Lines) → IsIgnored l → HooksNeedMemory ls → HooksNeedMemory (l ∷ ls)
behind l ls i k = record { line = k.line; rest = k.rest; next = skip i k.next; is = k.is; heading = k.heading }

some_heading : (heading : HookHeadingValue) (l : LineValue) → hook_heading l ≡ Some heading → hook_heading l ≢ None
some_heading heading l w nothing = let no : ⊥ = cc in no

heading_first : (o : Option HookHeadingValue) (l : LineValue) (ls : Lines) (t : List HookValue) → hooks_class l ≡ HookLine → hook_heading l ≡ o → hook_after o [] l ≡ Ok t → HooksNeedMemory (l ∷ ls)
heading_first (Some heading) l ls t is w e = record { line = l; rest = ls; next = skip_none; is = is; heading = some_heading heading l w }
heading_first None l ls t is w e = no_ok e

here : (c : HooksClass) (l : LineValue) (ls : Lines) → hooks_class l ≡ c → Needs [] l c → HooksNeedMemory (l ∷ ls)
here HookLine l ls is h = record { line = l; rest = ls; next = skip_none; is = is; heading = h }
here (Plain c) l ls is h = absurd (h refl)

later : (c : HooksClass) (l : LineValue) (ls : Lines) (t : List HookValue) → hooks_class l ≡ c → on [] l c ≡ Ok t → ([] ≡ t → HooksNeedMemory ls) → HooksNeedMemory (l ∷ ls)
unfolding on on_hook on_plain_line
later HookLine l ls t is e again = heading_first (hook_heading l) l ls t is refl e
later (Plain Blank) l ls t is e again = behind l ls (subst IsIgnoredClass (sym (plain_class l Blank is)) tt) (again (ok_same e))
later (Plain Comment) l ls t is e again = behind l ls (subst IsIgnoredClass (sym (plain_class l Comment is)) tt) (again (ok_same e))
later _ l ls t is e again = no_ok e

hooks_fail : (e : ReadFault) (ls : Lines) → FailsBy hooks_readers e ls → HooksFault e ls
hooks_fail Memory ls h = needed hooks_readers HooksNeedMemory (λ l ls n. here (hooks_class l) l ls refl n) (λ l ls next e again. later (hooks_class l) l ls next refl e again) refl ls h
hooks_fail e ls h = hooks_faulty ls e h

-- What a fault of the reading says of the bytes.
pub hooks_said : (e : ReadFault) (bytes : List ℕ) → FailsAs hooks_readers e bytes → FaultSays HooksFault e bytes
hooks_said e bytes h = said hooks_readers HooksFault (λ ls h. h.says) (λ n ls h. h.says) hooks_fail e bytes h

-- What the lines say is answered, unless memory ran out.
pub hooks_only : (r : Result HookFile ReadFault) (hooks : List HookValue) (bytes : List ℕ) → IfOk r (λ a. IsText bytes × (reading hooks_readers (lines_of bytes) ≡ Ok (hooks_value a))) → IfErr r (λ e. FailsAs hooks_readers e bytes) → IsText bytes → ReadsHooks (lines_of bytes) hooks → AnswersOrLacksMemory hooks_value r hooks
hooks_only (Ok x) hooks bytes g m t h = ok_same (sym g.1 ∙ hooks_complete (lines_of bytes) hooks h)
hooks_only (Err e) hooks bytes g m t h = only_memory hooks_readers e bytes hooks m t (hooks_complete (lines_of bytes) hooks h)
