use Rattle.gk_report.proofs.Common.{rules}
use Rattle.gk_report.proofs.SummaryLemmas.{status_from}
use Rattle.gk_report.proofs.summary.Summary.status.Goals as goal

pub returns-then-eq-clause-status : goal.returns-then-eq-clause-status
returns-then-eq-clause-status c = status_from c.args.self.now c.args.around 4 (search rules)

pub returns-then-eq-2-clause-status : goal.returns-then-eq-2-clause-status
returns-then-eq-2-clause-status c = status_from c.args.self.now c.args.around 1 (search rules)

pub returns-clause-status : goal.returns-clause-status
returns-clause-status c = status_from c.args.self.now c.args.around 0 (search rules)
