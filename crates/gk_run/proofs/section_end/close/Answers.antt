use Rattle.gk_run.proofs.Common.{◌∙◌, ap, refl, sym, append-nil, texts, hooks_value, library_value, cleaned, after_lists, walk_each, ended_in, section_now, worse}
use Rattle.gk_run.proofs.GoesLemmas.{behind, nothing, under, unrefused, worse_messages}
use Rattle.gk_run.proofs.section_end.close.Goals as goal

pub returns-then-is_memory-clause-closed : goal.returns-then-is_memory-clause-closed
returns-then-is_memory-clause-closed g c =
    let hears = g.O.Observer.hears in
    let library = library_value c.args.run.now.library.now in
    let level = c.args.section.now.level in
    let lists = after_lists (hooks_value c.args.run.now.hooks.now.file.now) level (texts c.args.section.now.tags.now) in
    let start = section_now c.args.sandbox.now c.args.cleanups in
    let first = c.args.observer.now in
    let refused = sym c.is_memory.ensures ∙ c.if-is_memory.true in
    record {
      here = first;
      mid = start;
      now = start;
      between = c.args.ending;
      end = c.args.ending;
      after = nothing hears c.args.ending (walk_each library level start lists) start first refused;
      cleanups = nothing hears c.args.ending (cleaned library level start) start first refused;
      ending = refl;
      outcomes = c.none.ensures;
    }

pub returns-then-is_memory-2-clause-closed : goal.returns-then-is_memory-2-clause-closed
returns-then-is_memory-2-clause-closed g c =
    let before = c.args.ending in
    let e = worse before c.walk_after-after.result in
    let goes_on = sym c.is_memory.ensures ∙ c.if-is_memory.false in
    let refused = sym (unrefused before c.walk_after-after.result goes_on) ∙ sym c.is_memory-2.ensures ∙ c.if-is_memory-2.true in
    let mid = section_now c.walk_after-after.new.sandbox c.walk_after-after.new.cleanups in
    let after = c.walk_after-after.ensures.walked in
    record {
      here = c.walk_after-after.new.observer;
      mid = mid;
      now = mid;
      between = e;
      end = e;
      after = behind before goes_on after;
      cleanups = nothing g.O.Observer.hears e (cleaned (library_value c.args.run.now.library.now) c.args.section.now.level mid) mid c.walk_after-after.new.observer refused;
      ending = after.ends ∙ ap ended_in (sym (append-nil after.messages));
      outcomes = c.none-then-is_memory-2.ensures;
    }

pub returns-clause-closed : goal.returns-clause-closed
returns-clause-closed g c =
    let before = c.args.ending in
    let between = c.walk_after-after.result in
    let goes_on = sym c.is_memory.ensures ∙ c.if-is_memory.false in
    let after = c.walk_after-after.ensures.walked in
    let cleaned = c.clean-ending.ensures.cleaned in
    record {
      here = c.walk_after-after.new.observer;
      mid = section_now c.walk_after-after.new.sandbox c.walk_after-after.new.cleanups;
      now = section_now c.clean-ending.new.sandbox c.walk_after-after.new.cleanups;
      between = worse before between;
      end = worse before (worse between c.clean-ending.result.ending);
      after = behind before goes_on after;
      cleanups = under before (worse before between) goes_on refl (behind between (sym c.is_memory-2.ensures ∙ c.if-is_memory-2.false) cleaned.goes);
      ending = c.worse.ensures ∙ worse_messages after.messages cleaned.goes.messages after.ends cleaned.goes.ends;
      outcomes = cleaned.outcomes;
    }
