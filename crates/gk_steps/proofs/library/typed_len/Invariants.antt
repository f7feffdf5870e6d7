use Rattle.gk_steps.proofs.Common.{◌≤◌, length, IsTrue, are_for_each_from}
use Rattle.gk_steps.proofs.library.typed_len.Given as goal

abbrev pub invariant-loop-typed : goal.invariant-loop-typed
invariant-loop-typed l = record { within : l.typed ≤ length l.entries; rest : IsTrue (are_for_each_from l.typed l.entries) }

abbrev pub decreases-loop-typed : goal.decreases-loop-typed
decreases-loop-typed l = l.typed
