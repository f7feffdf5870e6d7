use Rattle.gk_run.proofs.OpenRunLemmas.{judged_so_far}
use Rattle.gk_run.proofs.laws.unfinished_runs_are_judged.Goals as goal

pub returns : goal.returns
returns c = judged_so_far
