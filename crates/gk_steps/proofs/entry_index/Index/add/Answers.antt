use Rattle.gk_steps.proofs.Common.{subst, sym}
use Rattle.gk_steps.specs.declared.keyed_numbers.KeyedNumbers.{KeyedNumbers}
use Rattle.gk_steps.specs.KeyedNumbers.{IsUnder}
use Rattle.gk_steps.proofs.EntryIndexLemmas.{key_kept}
use Rattle.gk_steps.proofs.entry_index.Index.add.Goals as goal

pub returns-clause-kept : goal.returns-clause-kept
returns-clause-kept c p ps lists = (
  lists.0,
  key_kept c.args.self.now _ lists.0 ps c.in_ok-key.ensures.grows.inside c.in_ok-key.ensures.grows.kept lists.1,
  c.in_ok-push.ensures.kept lists.0 p (subst (λ (numbers : KeyedNumbers). IsUnder numbers.buckets.items lists.0 p) (sym c.in_ok-key.ensures.grows.positions) lists.2),
)

pub returns-clause-added : goal.returns-clause-added
returns-clause-added c = (
  c.in_ok-key.key,
  key_kept c.key_for.new.self _ c.in_ok-key.key _ (λ yes. yes) (λ k n is. is) c.in_ok-key.ensures.key,
  c.in_ok-push.ensures.added,
)
