use Rattle.gk_program.proofs.Common.{into_iter_items, map, pair_value}
use Rattle.gk_program.proofs.WorldFilesLemmas.{ArePutSoFar}
use Rattle.gk_program.proofs.world_files.put_files.Given as goal

-- the files before this one are put, and the others are left
abbrev pub invariant-loop-file : goal.invariant-loop-file
invariant-loop-file g l = ArePutSoFar g.S.System.reads (map pair_value l.fn.files.items) (map pair_value (into_iter_items l.file-iterator)) l.fn.system l.system l.fn.sandbox l.sandbox
