use Rattle.gk_run.proofs.Common.{drop, texts, hooks_value, library_value, state_of, KeepsLayers, section_now, before_of, before_list, walk, Goes}
use Rattle.gk_run.specs.declared.ending.Ending.TheVariants as endings
use Rattle.gk_run.proofs.section_hooks.walk_before.Given as goal

-- the lists of the tags so far passed, and that of those that are left is to be walked through
abbrev pub invariant-loop-tag : goal.invariant-loop-tag
invariant-loop-tag g l = record {
  goes : Goes g.O.Observer.hears endings.Passed (walk (library_value l.fn.run.library.now) (before_of l.fn.section.level) (state_of l.fn.sandbox.now) (before_list (hooks_value l.fn.run.hooks.now.file.now) l.fn.section.level (texts l.fn.section.tags.now)))
      (walk (library_value l.fn.run.library.now) (before_of l.fn.section.level) (state_of l.sandbox.now) (before_list (hooks_value l.fn.run.hooks.now.file.now) l.fn.section.level (texts (drop l.tag-index l.fn.section.tags.now)))) (section_now l.fn.sandbox l.fn.cleanups) (section_now l.sandbox l.cleanups) endings.Passed l.fn.observer l.observer;
  layers : KeepsLayers l.fn.sandbox l.sandbox;
}
