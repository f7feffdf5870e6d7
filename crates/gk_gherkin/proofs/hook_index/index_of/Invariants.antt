use Rattle.gk_gherkin.proofs.Common.{AreListedTo, ListsOnly}
use Rattle.gk_gherkin.proofs.hook_index.index_of.Given as goal

abbrev pub invariant-loop-position : goal.invariant-loop-position
invariant-loop-position l = AreListedTo l.index l.hooks l.position × ListsOnly l.index l.hooks
