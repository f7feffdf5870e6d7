use Rattle.gk_lint.proofs.Common.{◌≡◌, ◌++◌, false, drop, IsAbove, finding_values, of_worded}
use Rattle.gk_lint.proofs.misspelt.add_of_worded.Given as goal

abbrev pub invariant-loop-index : goal.invariant-loop-index
invariant-loop-index l = record {
  so_far : finding_values l.findings.items ++ of_worded l.above.plain (drop l.index l.all) ≡ finding_values l.fn.findings.items ++ of_worded false l.all;
  known : IsAbove l.above (drop l.index l.all);
}
