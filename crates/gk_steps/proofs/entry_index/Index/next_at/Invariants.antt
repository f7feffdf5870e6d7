use Rattle.gk_steps.proofs.Common.{◌≤◌}
use Rattle.gk_steps.proofs.EntryIndexLemmas.{LeastOf}
use Rattle.gk_steps.proofs.entry_index.Index.next_at.Given as goal

abbrev pub invariant-loop-k : goal.invariant-loop-k
invariant-loop-k l = record {
  low : l.from ≤ l.most → l.from ≤ l.least;
  high : l.least ≤ l.most;
  least : LeastOf l.self l.start l.from l.bytes l.lengths l.k l.least;
}
