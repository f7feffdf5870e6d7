use Rattle.gk_report.proofs.Common.{string_bytes, IfOk-weaker, text_of_value, summary_data}
use Rattle.gk_report.proofs.JsonReportLemmas.{summary_whole}
use Rattle.gk_report.proofs.json_report.summary_text.Goals as goal

pub returns : goal.returns
returns c =
    let summary = c.args.summary.now in
    IfOk-weaker c.json_text.result _ _ (λ text sent. text_of_value (summary_data summary) sent.0 (string_bytes text) sent.1 sent.2 (summary_whole summary)) c.json_text.ensures
