use Rattle.gk_program.proofs.Common.{into_iter_items, map, pair_value}
use Rattle.gk_program.proofs.WorldFilesLemmas.{AreTakenSoFar}
use Rattle.gk_program.proofs.world_files.put_variables.Given as goal

-- the variables before this one are taken, and the others are left
abbrev pub invariant-loop-name : goal.invariant-loop-name
invariant-loop-name l = AreTakenSoFar (map pair_value l.fn.variables.items) (map pair_value (into_iter_items l.name-iterator)) l.fn.sandbox l.sandbox
