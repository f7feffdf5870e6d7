use Rattle.gk_steps.proofs.Common.{◌≤◌}
use Rattle.gk_steps.proofs.KeyedNumbersLemmas.{LeastOfFirst}
use Rattle.gk_steps.proofs.keyed_numbers.KeyedNumbers.least_under.Given as goal

abbrev pub invariant-loop-k : goal.invariant-loop-k
invariant-loop-k l = record {
  low : l.from ≤ l.most → l.from ≤ l.least;
  high : l.least ≤ l.most;
  least : LeastOfFirst l.bucket l.key l.from l.k l.least;
}
