use Rattle.gk_cli.proofs.Common.{◌&&◌, inr, refl, subst, sym, arith, feature_row, is_empty, part, GrowingReport, device_of, IsStopped, passed_on, common_steps}
use Rattle.gk_cli.proofs.report_run.GrowingReportReporter.feature_ended.Goals as goal

pub returns-in_err-self-clause-err : goal.returns-in_err-self-clause-err
returns-in_err-self-clause-err g c =
    let old = device_of g.W.Write.contents c.args.out.now in
    let new = device_of g.W.Write.contents c.write_part.new.out in
    let self = c.args.self.now in
    let text = part self.style self.is_first (feature_row c.args.feature.now) in
    let notified : GrowingReport = record { style = self.style; is_first = self.is_first && is_empty text } in
    passed_on c.from_residual.result c.from_residual.ensures.1
    (λ fault same. inr (text, notified, record { is = refl; style = refl; first = refl }, subst (IsStopped old new text) (sym same) c.in_err-self.ensures.err))

pub returns-clause-ok : goal.returns-clause-ok
returns-clause-ok g c = grind (arith, common_steps)
