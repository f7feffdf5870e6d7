use Rattle.gk_steps.proofs.Common.{refl, sym, subst, Index, IsIndexOf}
use Rattle.gk_steps.proofs.EntryIndexLemmas.{nothing_listed}
use Rattle.gk_steps.proofs.entry_index.Index.grow.Goals as goal
use Rattle.gk_steps.proofs.entry_index.Index.grow.Goals.{then-len-entries+in_ok-with_buckets+in_ok-with_buckets-2, else-len-entries+else-is_empty}

pub list-requires-clause-before : goal.list-requires-clause-before
list-requires-clause-before c = elim c.if-len-entries.branch [
  | then-len-entries+in_ok-with_buckets+in_ok-with_buckets-2 w ↦ subst (λ (index : Index). IsIndexOf index c.args.entries.now) (sym w.self-is) (nothing_listed _ c.args.entries.now refl)
  | else-len-entries+else-is_empty w ↦ subst (λ (index : Index). IsIndexOf index c.args.entries.now) (sym w.self-is) c.requires
]
