use Rattle.gk_steps.proofs.Common.{◌-◌, ◌≤◌, length}
use Rattle.gk_steps.proofs.keyed_numbers.KeyedNumbers.with_buckets.Given as goal

abbrev pub invariant-loop-alloc : goal.invariant-loop-alloc
invariant-loop-alloc l = length l.buckets.items ≤ l.count

abbrev pub decreases-loop-alloc : goal.decreases-loop-alloc
decreases-loop-alloc l = l.count - length l.buckets.items
