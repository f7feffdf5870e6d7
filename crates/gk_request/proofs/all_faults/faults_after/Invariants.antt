use Rattle.gk_request.proofs.Common.{List, drop, ◌++◌, RunFault, AreFaultsOf, files_after, files_value, run_files}
use Rattle.gk_request.proofs.all_faults.faults_after.Given as goal

-- with the faults of the files that are left, all are found
abbrev pub invariant-loop-number : goal.invariant-loop-number
invariant-loop-number l = (later : List RunFault) → AreFaultsOf (drop l.number (run_files (files_value l.files))) later → AreFaultsOf (files_after (files_value l.files) l.fn.first) (l.faults.items ++ later)
