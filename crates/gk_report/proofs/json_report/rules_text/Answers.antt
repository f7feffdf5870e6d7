use Rattle.gk_report.proofs.Common.{map, string_bytes, IfOk-weaker, text_of_value, rule_row, rules_data}
use Rattle.gk_report.proofs.JsonReportLemmas.{rules_data_whole}
use Rattle.gk_report.proofs.json_report.rules_text.Goals as goal

pub returns : goal.returns
returns c =
    IfOk-weaker c.json_text.result _ _ (λ text sent. text_of_value (rules_data (map rule_row c.args.rules.now)) sent.0 (string_bytes text) sent.1 sent.2 (rules_data_whole (map rule_row c.args.rules.now))) c.json_text.ensures
