use Rattle.gk_select.proofs.Common.{◌≤◌, drop, length, texts, IsIndexFrom}
use Rattle.gk_select.proofs.names.NameIndex.of.Given as goal

abbrev pub invariant-names : goal.invariant-names
invariant-names l = record {
  within : l.position ≤ length l.list;
  indexed : IsIndexFrom l.position (texts (drop l.position l.list)) l.index;
}

abbrev pub decreases-names : goal.decreases-names
decreases-names l = l.position
