use Rattle.gk_report.proofs.Common.{string_bytes, IfOk-weaker, text_of_value, case_row, case_data}
use Rattle.gk_report.proofs.JsonReportLemmas.{case_whole}
use Rattle.gk_report.proofs.json_report.case_text.Goals as goal

pub returns : goal.returns
returns c =
    IfOk-weaker c.json_text.result _ _ (λ text sent. text_of_value (case_data (case_row c.args.case.now)) sent.0 (string_bytes text) sent.1 sent.2 (case_whole (case_row c.args.case.now))) c.json_text.ensures
