use Rattle.gk_run.proofs.FileOrder.{in_file_order}
use Rattle.gk_run.proofs.laws.results_stand_in_file_order.Goals as goal

pub returns : goal.returns
returns c = in_file_order
