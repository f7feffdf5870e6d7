use Rattle.gk_report.proofs.Common.{arith, common_steps}
use Rattle.gk_report.proofs.SummaryLemmas.{feature_added}
use Rattle.gk_report.proofs.summary.Summary.add.Goals as goal

pub returns-clause-added : goal.returns-clause-added
returns-clause-added c = grind (arith, common_steps, feature_added)
