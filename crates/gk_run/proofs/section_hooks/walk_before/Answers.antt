use Rattle.gk_run.proofs.Common.{[], ◌∙◌, ◌≡◌, ◌+◌, ◌<◌, Bool, Global, List, None, Some, String, ℕ, ap, append-nil, cond, drop, get_or, length, map, refl, string_bytes, subst, sym, arith, StepValue, step_value, texts, HookValue, hooks_value, LibraryValue, library_value, State, state_of, CleanupValue, Event, SectionNow, section_now, Ending, Level, has_passed, before_of, before_kind, before_list, hook_steps, walk, Goes, Happens, common_steps}
use Rattle.gk_gherkin.specs.declared.hooks.HookKind.TheVariants as kinds
use Rattle.gk_run.specs.declared.ending.Ending.TheVariants as endings
use Rattle.gk_run.proofs.GoesLemmas.{begin, chain, passing, with_rest}
use Rattle.gk_run.proofs.WalkLemmas.{at, drop_next, drop_none, list_on}
use Rattle.gk_run.proofs.section_hooks.walk_before.Goals as goal

-- one tag's list more
tag_on : {S : Type 0} (hears : S → Event → S → Type 0) (library : LibraryValue) (hooks : List HookValue) (level : Level) (tags : List (String Global)) (i : ℕ) (tag : String Global) (steps : List StepValue) (s : State) (cs : List CleanupValue) (now : SectionNow) (e : Ending) (all : List Event) (start : SectionNow) (first here last : S) →
    i < length tags → tag ≡ get_or tags i tag → steps ≡ hook_steps hooks kinds.BeforeTag (Some (string_bytes tag)) →
    Goes hears endings.Passed all (walk library (before_of level) s (before_list hooks level (texts (drop i tags)))) start (at s cs) endings.Passed first here → Happens hears endings.Passed (walk library (before_of level) s steps) (at s cs) now e here last →
    Goes hears endings.Passed all (cond (has_passed e) (walk library (before_of level) now.state (before_list hooks level (texts (drop (i + 1) tags)))) []) start now e first last
tag_on hears library hooks level tags i tag steps s cs now e all start first here last some is are goes walked = grind (arith, common_steps, string_bytes, list_on, drop_next)

pub loop-tag-init : goal.loop-tag-init
loop-tag-init g c = record { goes = begin g.O.Observer.hears endings.Passed _ _ _; layers = record { layers = refl; starts = refl } }

pub loop-tag-preserved : goal.loop-tag-preserved
loop-tag-preserved g c =
    let library = library_value c.args.run.now.library.now in
    let hooks = hooks_value c.args.run.now.hooks.now.file.now in
    let level = c.args.section.now.level in
    let tags = c.args.section.now.tags.now in
    let i = c.loop-tag.tag-index in
    let now = section_now c.walk_hook-ending.new.sandbox c.walk_hook-ending.new.cleanups in
    let steps = c.hook_steps-steps.ensures ∙ ap (λ (t : List ℕ). hook_steps hooks kinds.BeforeTag (Some t)) c.as_str.ensures.value in
    let gone = tag_on g.O.Observer.hears library hooks level tags i c.tag-item.result _ (state_of c.loop-tag.sandbox.now) c.loop-tag.cleanups now c.walk_hook-ending.result _ _ c.args.observer.now c.loop-tag.observer c.walk_hook-ending.new.observer c.loop-tag-test.true c.tag-item.is steps c.loop-tag.invariant.goes c.walk_hook-ending.ensures.walked in
    let left = walk library (before_of level) now.state (before_list hooks level (texts (drop (i + 1) tags))) in
    record {
      goes = passing left c.walk_hook-ending.result (sym c.has_passed.ensures ∙ c.if-not-has_passed.false) gone;
      layers = record { layers = c.walk_hook-ending.ensures.layers.layers ∙ c.loop-tag.invariant.layers.layers; starts = c.walk_hook-ending.ensures.layers.starts ∙ c.loop-tag.invariant.layers.starts };
    }

pub returns-then-not-has_passed-clause-walked : goal.returns-then-not-has_passed-clause-walked
returns-then-not-has_passed-clause-walked g c =
    let library = library_value c.args.run.now.library.now in
    let hooks = hooks_value c.args.run.now.hooks.now.file.now in
    let level = c.args.section.now.level in
    let tags = c.args.section.now.tags.now in
    let i = c.loop-tag.tag-index in
    let now = section_now c.walk_hook-ending.new.sandbox c.walk_hook-ending.new.cleanups in
    let steps = c.hook_steps-steps.ensures ∙ ap (λ (t : List ℕ). hook_steps hooks kinds.BeforeTag (Some t)) c.as_str.ensures.value in
    let gone = tag_on g.O.Observer.hears library hooks level tags i c.tag-item.result _ (state_of c.loop-tag.sandbox.now) c.loop-tag.cleanups now c.walk_hook-ending.result _ _ c.args.observer.now c.loop-tag.observer c.walk_hook-ending.new.observer c.loop-tag-test.true c.tag-item.is steps c.loop-tag.invariant.goes c.walk_hook-ending.ensures.walked in
    let left = walk library (before_of level) now.state (before_list hooks level (texts (drop (i + 1) tags))) in
    with_rest [] gone (λ _. ap (λ (b : Bool). cond b left []) (sym c.has_passed.ensures ∙ c.if-not-has_passed.true))

pub returns-clause-walked : goal.returns-clause-walked
returns-clause-walked g c =
    let hears = g.O.Observer.hears in
    let library = library_value c.args.run.now.library.now in
    let hooks = hooks_value c.args.run.now.hooks.now.file.now in
    let level = c.args.section.now.level in
    let place = before_of level in
    let tags = c.args.section.now.tags.now in
    let s = state_of c.loop-tag.sandbox.now in
    let cs = c.loop-tag.cleanups in
    let e = c.walk_hook.result in
    let now = section_now c.walk_hook.new.sandbox c.walk_hook.new.cleanups in
    let all = walk library place (state_of c.args.sandbox.now.now) (before_list hooks level (texts tags)) in
    let start = section_now c.args.sandbox.now c.args.cleanups.now in
    let steps : map step_value c.hook_steps-steps-2.result.now ≡ hook_steps hooks (before_kind level) None = c.hook_steps-steps-2.ensures ∙ rw c.before_kind.ensures refl in
    let walked = subst (λ (xs : List StepValue). Happens hears endings.Passed (walk library place s xs) (at s cs) now e c.loop-tag.observer c.walk_hook.new.observer) steps c.walk_hook.ensures.walked in
    let here = subst (λ (ts : List (List ℕ)). Goes hears endings.Passed all (walk library place s (before_list hooks level ts)) start (at s cs) endings.Passed c.args.observer.now c.loop-tag.observer)
    (drop_none string_bytes tags c.loop-tag.tag-index c.loop-tag-test.false) c.loop-tag.invariant.goes in
    chain [] here (λ _. sym (append-nil (walk library place s (hook_steps hooks (before_kind level) None)))) walked
