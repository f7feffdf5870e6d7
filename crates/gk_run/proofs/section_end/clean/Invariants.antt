use Rattle.gk_run.proofs.Common.{◌+◌, ◌≤◌, length, map, reverse, vec_capacity, library_value, state_of, KeepsLayers, section_now, cleanup_value, clean_each, cleaned}
use Rattle.gk_run.proofs.CleanLemmas.{CleansSoFar}
use Rattle.gk_run.proofs.section_end.clean.Given as goal

-- the cleanups so far were run, and those that are left are to be
abbrev pub invariant-loop-cleanup : goal.invariant-loop-cleanup
invariant-loop-cleanup g l = record {
  goes : CleansSoFar g.O.Observer.hears (cleaned (library_value l.fn.run.library.now) l.fn.level (section_now l.fn.sandbox l.fn.cleanups)) (clean_each (library_value l.fn.run.library.now) l.fn.level (state_of l.sandbox.now) (reverse (map cleanup_value l.list.items)))
      (section_now l.fn.sandbox l.fn.cleanups) (section_now l.sandbox l.fn.cleanups) l.ending l.outcomes.items l.fn.observer l.observer;
  layers : KeepsLayers l.fn.sandbox l.sandbox;
  room : length l.outcomes.items + length l.list.items ≤ vec_capacity l.outcomes;
}

abbrev pub decreases-loop-cleanup : goal.decreases-loop-cleanup
decreases-loop-cleanup g l = length l.list.items
