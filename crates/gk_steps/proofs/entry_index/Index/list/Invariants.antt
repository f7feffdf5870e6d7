use Rattle.gk_steps.proofs.Common.{◌<◌, ◌-◌, length, IsIndexOf}
use Rattle.gk_steps.proofs.entry_index.Index.list.Given as goal

abbrev pub invariant-loop-self : goal.invariant-loop-self
invariant-loop-self l = record {
  lengths : 0 < length l.self.lengths.buckets.items;
  positions : 0 < length l.self.positions.buckets.items;
  index : IsIndexOf l.self l.entries;
}

abbrev pub decreases-loop-self : goal.decreases-loop-self
decreases-loop-self l = length l.entries - l.self.listed
