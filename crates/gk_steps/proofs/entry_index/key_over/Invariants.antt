use Rattle.gk_steps.proofs.Common.{◌≡◌, drop}
use Rattle.gk_steps.specs.EntryIndex as spec
use Rattle.gk_steps.proofs.entry_index.key_over.Given as goal

abbrev pub invariant-loop-position : goal.invariant-loop-position
invariant-loop-position l = spec.key_over l.over (drop l.position l.bytes) ≡ spec.key_over l.key l.bytes
