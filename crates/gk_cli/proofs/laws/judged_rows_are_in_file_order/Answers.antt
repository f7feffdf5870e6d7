use Rattle.gk_cli.proofs.RowOrderLaw.{judged_in_order}
use Rattle.gk_cli.proofs.laws.judged_rows_are_in_file_order.Goals as goal

pub returns : goal.returns
returns c = judged_in_order c.cases_are_in_file_order.ensures c.cases_fall_into_rules.ensures c.results_stand_in_file_order.ensures
