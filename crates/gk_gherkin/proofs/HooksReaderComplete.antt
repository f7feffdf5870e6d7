-- What has a reading as hooks is read so, and so no lines have two.
use Rattle.gk_gherkin.proofs.Common.{◌≡◌, ℕ, Bool, false, List, [], ◌∷◌, Option, None, Some, Result, Ok, refl, sym, subst, ◌++◌, ap, ◌∙◌, append_assoc, append-nil, HookLine, Blank, Comment, RowLine, StepLine, Class, ReadFault, hook_after, hook_begun, hook_from, hook_with, hooks_readers, last_hook_takes_text, on_hook, on_plain_line, on_steps, steps_with_text, has_heading, Outside, State, finish, reading, run, step, HookValue, HookHeadingValue, StepValue, hook_heading, hooks_class, AreDistinct, HaveOneHooksReading, IsHook, ReadsHooks, heading_of, LineValue, Lines, class, AreSteps, IsIgnored, IsIgnoredClass, Many, Skips, more, none, skip, skip_none, ◌>>=◌}
use Rattle.gk_gherkin.specs.HooksReader.{after_text, on, takes_text}
use Rattle.gk_gherkin.proofs.LastItems.{last_or-push, with_last-push}
use Rattle.gk_gherkin.proofs.ReadingRuns.{no_ok, ok_same, run_nil, run_over}
use Rattle.gk_gherkin.proofs.ReadingStates.{ignored_no_fence, no_fence, step_plain}
use Rattle.gk_gherkin.proofs.ReadingSteps.{run_steps}
use Rattle.gk_gherkin.proofs.HookClasses.{class_plain, hook_opens_none}
use Rattle.gk_gherkin.proofs.HookHeadingsDecided.{fresh_after, fresh_stands}

-- ignored lines are passed over
quiet_class : (reader : List HookValue) (l : LineValue) (c : Class) → class l ≡ c → IsIgnoredClass c → on reader l (hooks_class l) ≡ Ok reader
unfolding on
quiet_class reader l Blank is i = ap (on reader l) (class_plain l Blank is (λ e. cc))
quiet_class reader l Comment is i = ap (on reader l) (class_plain l Comment is (λ e. cc))
quiet_class reader l _ is i = absurd i

quiet : (reader : List HookValue) (l : LineValue) → IsIgnored l → on reader l (hooks_class l) ≡ Ok reader
quiet reader l i = quiet_class reader l (class l) refl i

run_skips : (reader : List HookValue) {ls rest : Lines} → Skips IsIgnored ls rest → run hooks_readers (Outside reader) ls ≡ run hooks_readers (Outside reader) rest
run_skips reader skip_none = refl
run_skips reader (skip {l = l} {ls = ls} n sk) =
    run_over (step hooks_readers) (Outside reader) (Outside reader) l ls (step_plain hooks_readers reader reader l (no_fence (takes_text reader) (class l) (ignored_no_fence (class l) n)) (quiet reader l n)) ∙ run_skips reader sk

-- the steps of the last hook
module _ (before : List HookValue) (hook : HookValue) where
  abbrev at : List StepValue → List HookValue
  at steps = before ++ hook_with hook steps ∷ []

  line_under : (steps next : List StepValue) (l : LineValue) (c : Class) → on_steps steps l c ≡ Ok next → on_plain_line (at steps) l c ≡ Ok (at next)
  unfolding on_plain_line
  line_under steps next l c e = rw (last_or-push None before (hook_with hook steps), e, with_last-push (hook_with hook next) before (hook_with hook steps)) refl

  taken : (steps next : List StepValue) (l : LineValue) (c : Class) → class l ≡ c → on_steps steps l c ≡ Ok next → on (at steps) l (hooks_class l) ≡ Ok (at next)
  unfolding on on_steps
  taken steps next l StepLine is e = ap (on (at steps) l) (class_plain l StepLine is (λ e. cc)) ∙ line_under steps next l StepLine e
  taken steps next l RowLine is e = ap (on (at steps) l) (class_plain l RowLine is (λ e. cc)) ∙ line_under steps next l RowLine e
  taken steps next l _ is e = no_ok e

  text_below : (steps : List StepValue) (text : List ℕ) → after_text (at steps) text ≡ at (steps_with_text steps text)
  text_below steps text = rw (last_or-push None before (hook_with hook steps), with_last-push (hook_with hook (steps_with_text steps text)) before (hook_with hook steps)) refl

  run_steps_at : {ls rest : Lines} → AreSteps ls hook.steps rest → run hooks_readers (Outside (at [])) ls ≡ run hooks_readers (Outside (before ++ hook ∷ [])) rest
  run_steps_at s = run_steps hooks_readers at (λ steps l i. quiet (at steps) l i) taken (λ steps. ap last_hook_takes_text (last_or-push None before (hook_with hook steps))) text_below [] s.parts s.types

-- a heading
pub hook_line : (reader next : List HookValue) (l : LineValue) → hooks_class l ≡ HookLine → on_hook reader l ≡ Ok next → step hooks_readers (Outside reader) l ≡ Ok (Outside next)
unfolding on
hook_line reader next l is e = step_plain hooks_readers reader next l (hook_opens_none (takes_text reader) l is) (ap (on reader l) is ∙ e)

pub heading_step : (hooks : List HookValue) (heading : HookHeadingValue) (l : LineValue) → hooks_class l ≡ HookLine → hook_heading l ≡ Some heading → has_heading heading hooks ≡ false → step hooks_readers (Outside hooks) l ≡ Ok (Outside (hooks ++ hook_from heading l ∷ []))
unfolding on_hook
heading_step hooks heading l is w f =
    hook_line hooks (hooks ++ hook_from heading l ∷ []) l is (ap (λ (r : Option HookHeadingValue). hook_after r hooks l) w ∙ ap (λ (b : Bool). hook_begun b hooks heading l) f)

run_hook : {ls rest : Lines} (hooks : List HookValue) (hook : HookValue) → IsHook ls hook rest → has_heading (heading_of hook) hooks ≡ false → run hooks_readers (Outside hooks) ls ≡ run hooks_readers (Outside (hooks ++ hook ∷ [])) rest
run_hook hooks hook i f =
    run_skips hooks i.next
    ∙ run_over (step hooks_readers) (Outside hooks) (Outside (hooks ++ hook_from (heading_of hook) i.line ∷ [])) i.line i.after_heading (heading_step hooks (heading_of hook) i.line i.is i.heading f)
    ∙ ap (λ (n : ℕ). run hooks_readers (Outside (hooks ++ record { kind = hook.kind; tag = hook.tag; line = n; steps = [] } ∷ [])) i.after_heading) (sym i.number)
    ∙ run_steps_at hooks hook i.steps

run_hooks : {ls rest : Lines} {others : List HookValue} (hooks : List HookValue) → Many IsHook ls others rest → AreDistinct (hooks ++ others) → run hooks_readers (Outside hooks) ls ≡ run hooks_readers (Outside (hooks ++ others)) rest
run_hooks {rest = rest} hooks none d = ap (λ (hooks : List HookValue). run hooks_readers (Outside hooks) rest) (sym (append-nil hooks))
run_hooks {rest = rest} hooks (more {x = hook} {xs = others} p many) d =
    run_hook hooks hook p (fresh_stands (heading_of hook) hooks (fresh_after hooks hook others d))
    ∙ run_hooks (hooks ++ hook ∷ []) many (subst AreDistinct (sym (append_assoc hooks (hook ∷ []) others)) d)
    ∙ ap (λ (hooks : List HookValue). run hooks_readers (Outside hooks) rest) (append_assoc hooks (hook ∷ []) others)

-- What has a reading is run over, up to the hooks that it says.
pub hooks_run : (ls : Lines) (hooks : List HookValue) → ReadsHooks ls hooks → run hooks_readers (Outside []) ls ≡ Ok (Outside hooks)
hooks_run ls hooks r = run_hooks [] r.parts r.distinct ∙ run_skips hooks r.end ∙ run_nil (step hooks_readers) (Outside hooks)

pub hooks_complete : (ls : Lines) (hooks : List HookValue) → ReadsHooks ls hooks → reading hooks_readers ls ≡ Ok hooks
unfolding reading finish
hooks_complete ls hooks r = ap (λ (r : Result (State (List HookValue)) ReadFault). r >>= finish hooks_readers) (hooks_run ls hooks r)

pub one_hooks_reading : HaveOneHooksReading
one_hooks_reading ls one other r s = ok_same (sym (hooks_complete ls one r) ∙ hooks_complete ls other s)
