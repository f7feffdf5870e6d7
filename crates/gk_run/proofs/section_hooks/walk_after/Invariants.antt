use Rattle.gk_run.proofs.Common.{drop, texts, hooks_value, library_value, KeepsLayers, section_now, after_lists, tag_lists, walk_each, Goes}
use Rattle.gk_run.specs.declared.ending.Ending.TheVariants as endings
use Rattle.gk_run.proofs.section_hooks.walk_after.Given as goal

-- the section's own list and those of the tags so far were walked through, and those of the tags that are left are to be
abbrev pub invariant-loop-tag : goal.invariant-loop-tag
invariant-loop-tag g l = record {
  goes : Goes g.O.Observer.hears endings.Passed (walk_each (library_value l.fn.run.library.now) l.fn.section.level (section_now l.fn.sandbox l.fn.cleanups) (after_lists (hooks_value l.fn.run.hooks.now.file.now) l.fn.section.level (texts l.fn.section.tags.now)))
      (walk_each (library_value l.fn.run.library.now) l.fn.section.level (section_now l.sandbox l.cleanups) (tag_lists (hooks_value l.fn.run.hooks.now.file.now) (texts (drop l.tag-index l.fn.section.tags.now)))) (section_now l.fn.sandbox l.fn.cleanups) (section_now l.sandbox l.cleanups) l.ending l.fn.observer l.observer;
  layers : KeepsLayers l.fn.sandbox l.sandbox;
}
