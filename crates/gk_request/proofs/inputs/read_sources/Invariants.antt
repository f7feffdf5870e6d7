use Rattle.gk_request.proofs.Common.{map, take, AllByRecursion, chosen_by, row_lists, chosen_value, source_value, IsFormed, AreRead, AreRowsIf}
use Rattle.gk_request.proofs.inputs.read_sources.Given as goal

-- the sources so far read as the features so far
abbrev pub invariant-loop-input : goal.invariant-loop-input
invariant-loop-input l = record {
  read : AreRead (chosen_by l.choice) (take l.input (map source_value l.sources)) (map chosen_value l.read.features.items);
  rows : AreRowsIf l.with_rows (take l.input (map source_value l.sources)) (row_lists l.read.rows.items);
  formed : AllByRecursion IsFormed l.read.features.items;
}
