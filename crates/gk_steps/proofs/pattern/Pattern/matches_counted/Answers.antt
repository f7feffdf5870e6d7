use Rattle.gk_steps.proofs.Common.{arith, common_steps}
use Rattle.gk_steps.proofs.TableLemmas.{width_is}
use Rattle.gk_steps.proofs.FilledCellsLemmas.{whole_table}
use Rattle.gk_steps.proofs.pattern.Pattern.matches_counted.Goals as goal

pub returns-clause-count : goal.returns-clause-count
returns-clause-count c = grind (arith, common_steps, width_is, whole_table)
