use Rattle.gk_steps.proofs.Common.{ℕ, ◌<◌, ◌≤◌, key_over, IsLeast, NoneIsLessAt}
use Rattle.gk_steps.proofs.entry_index.Index.next_inside.Given as goal

abbrev pub invariant-loop-start : goal.invariant-loop-start
invariant-loop-start l = record {
  low : l.from ≤ l.most → l.from ≤ l.least;
  high : l.least ≤ l.most;
  whole : IsLeast l.self (key_over 0 l.text) l.from l.least;
  literals : (start : ℕ) → start < l.start → NoneIsLessAt l.self start l.from l.text l.least;
}
