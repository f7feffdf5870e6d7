use Rattle.gk_program.proofs.Common.{◌≡◌, ◌++◌, drop, string_bytes, blocks}
use Rattle.gk_program.proofs.ended.push_later.Given as goal

abbrev pub invariant-loop-fault : goal.invariant-loop-fault
invariant-loop-fault l = string_bytes l.out ++ blocks l.mode l.inputs (drop l.fault-index l.later) ≡ string_bytes l.initial.out ++ blocks l.mode l.inputs l.later
