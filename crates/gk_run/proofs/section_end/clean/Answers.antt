use Rattle.gk_run.proofs.Common.{◌≡◌, ◌∙◌, ◌++◌, ◌∷◌, [], List, ap, arith, length, map, refl, reverse, subst, sym, map_push, reverse-append, library_value, state_of, section_now, Ending, Cleanup, Acted, Outcome, CleanupValue, cleanup_value, clean_each, cleaned, ending_of, worse}
use Rattle.gk_run.specs.declared.ending.Ending.TheVariants as endings
use Rattle.gk_run.proofs.Nothing.{nothing_in}
use Rattle.gk_run.proofs.CleanLemmas.{CleansSoFar, cleans_first, cleans_on}
use Rattle.gk_run.proofs.GoesLemmas.{with_rest}
use Rattle.gk_run.proofs.WalkLemmas.{at}
use Rattle.gk_run.proofs.section_end.clean.Goals as goal

popped : (list left : List Cleanup) (last : Cleanup) → list ≡ left ++ last ∷ [] → map cleanup_value list ≡ map cleanup_value left ++ cleanup_value last ∷ []
popped list left last is = ap (map cleanup_value) is ∙ map_push cleanup_value left last

pub loop-cleanup-init : goal.loop-cleanup-init
loop-cleanup-init g c =
    let hears = g.O.Observer.hears in
    let library = library_value c.args.run.now.library.now in
    let level = c.args.level in
    let registered = c.args.cleanups in
    let start = section_now c.args.sandbox.now registered in
    let all = cleaned library level start in
    let first = c.args.observer.now in
    let list = c.cleanups.inside.list.items in
    let empty = c.cleanups.invariant.0 in
    record {
      goes = subst (λ (cs : List CleanupValue). CleansSoFar hears all (clean_each library level (state_of c.args.sandbox.now.now) (reverse cs)) start start endings.Passed c.cleanups.inside.outcomes.items first first) (sym c.cleanups.view_is)
          (subst (λ (os : List Outcome). CleansSoFar hears all all start start endings.Passed os first first) (sym empty) (cleans_first hears all start first));
      layers = record { layers = refl; starts = refl };
      room = omega (arith, c.cleanups.invariant.1, ap length empty);
    }

pub loop-cleanup-preserved : goal.loop-cleanup-preserved
loop-cleanup-preserved g c =
    let hears = g.O.Observer.hears in
    let library = library_value c.args.run.now.library.now in
    let level = c.args.level in
    let registered = c.args.cleanups in
    let start = section_now c.args.sandbox.now registered in
    let all = cleaned library level start in
    let s = state_of c.loop-cleanup.sandbox.now in
    let new = state_of c.clean_one-outcome.new.sandbox.now in
    let left = map cleanup_value c.pop.new.self.items in
    let this = cleanup_value c.in-Some.cleanup in
    let o = c.clean_one-outcome.result in
    let e = c.loop-cleanup.ending in
    let first = c.args.observer.now in
    let last = c.clean_one-outcome.new.observer in
    let is : reverse (map cleanup_value c.loop-cleanup.list.items) ≡ this ∷ reverse left = ap reverse (popped c.loop-cleanup.list.items c.pop.new.self.items c.in-Some.cleanup c.in-Some.ensures.items) ∙ reverse-append left (this ∷ []) in
    let here = subst (λ (cs : List CleanupValue). CleansSoFar hears all (clean_each library level s cs) start (at s registered) e c.loop-cleanup.outcomes.items first c.loop-cleanup.observer) is c.loop-cleanup.invariant.goes in
    let gone = cleans_on hears library level this (reverse left) o s new registered all start e c.loop-cleanup.outcomes.items c.push_reserved.new.self.items first c.loop-cleanup.observer last (sym c.is_memory.ensures ∙ c.if-is_memory.false)
    c.clean_one-outcome.ensures.acted.carried_out c.clean_one-outcome.ensures.notified c.push_reserved.ensures.items here in
    let ended : c.worse-ending.result ≡ worse e (ending_of (Acted o)) = c.worse-ending.ensures ∙ ap (worse e) c.ending_of.ensures in
    record {
      goes = subst (λ (x : Ending). CleansSoFar hears all (clean_each library level new (reverse left)) start (at new registered) x c.push_reserved.new.self.items first last) (sym ended) gone;
      layers = record { layers = c.clean_one-outcome.ensures.acted.layers.layers ∙ c.loop-cleanup.invariant.layers.layers; starts = c.clean_one-outcome.ensures.acted.layers.starts ∙ c.loop-cleanup.invariant.layers.starts };
      room = let a = c.push_reserved.ensures.capacity in let o = c.push_reserved.new.self.ok.0 in let p = c.pop.new.self.ok.0 in let q = c.loop-cleanup.list.ok.0 in let r = c.loop-cleanup.outcomes.ok.0 in omega (arith, c.push_reserved.ensures.len, c.in-Some.ensures.len, c.loop-cleanup.invariant.room);
    }

pub returns-then-is_memory-clause-cleaned : goal.returns-then-is_memory-clause-cleaned
returns-then-is_memory-clause-cleaned g c =
    let so_far = c.loop-cleanup.invariant.goes in
    record { goes = with_rest [] so_far.goes (λ n. let a = c.is_memory.ensures in let b = c.if-is_memory.true in let no : ⊥ = cc in absurd no); outcomes = so_far.outcomes }

pub returns-clause-cleaned : goal.returns-clause-cleaned
returns-clause-cleaned g c =
    let none : c.loop-cleanup.list.items ≡ [] = nothing_in c.loop-cleanup.list.items (let q = c.loop-cleanup.list.ok.0 in omega (arith, c.in_default.ensures.cases)) in
    let hears = g.O.Observer.hears in
    let library = library_value c.args.run.now.library.now in
    let level = c.args.level in
    let registered = c.args.cleanups in
    let start = section_now c.args.sandbox.now registered in
    let s = state_of c.loop-cleanup.sandbox.now in
    let ended = subst (λ (cs : List Cleanup). CleansSoFar hears (cleaned library level start) (clean_each library level s (reverse (map cleanup_value cs))) start (at s registered) c.loop-cleanup.ending c.loop-cleanup.outcomes.items c.args.observer.now c.loop-cleanup.observer) none c.loop-cleanup.invariant.goes in
    record { goes = ended.goes; outcomes = ended.outcomes }
