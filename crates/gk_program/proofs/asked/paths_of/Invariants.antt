use Rattle.gk_program.proofs.Common.{◌≡◌, ◌++◌, map, string_bytes, into_iter_items, pair_value}
use Rattle.gk_program.proofs.asked.paths_of.Given as goal

-- the paths so far and those of the files that are left are all paths
abbrev pub invariant-loop-file : goal.invariant-loop-file
invariant-loop-file l =
    map string_bytes l.paths.items ++ map (λ file. (pair_value file).text) (into_iter_items l.file-iterator)
    ≡ map (λ file. (pair_value file).text) l.fn.world_files.items
