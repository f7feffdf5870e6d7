use Rattle.gk_run.proofs.OpenRunLemmas.{judged_all}
use Rattle.gk_run.proofs.laws.finished_runs_are_judged.Goals as goal

pub returns : goal.returns
returns c = judged_all
