use Rattle.gk_select.proofs.CaseLines.{in_file_order}
use Rattle.gk_select.proofs.laws.cases_are_in_file_order.Goals as goal

pub returns : goal.returns
returns c = in_file_order
