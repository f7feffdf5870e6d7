use Rattle.gk_report.proofs.Common.{◌++◌, ap, string_bytes, ◌∙◌, string, compact_text, object_end}
use Rattle.gk_report.proofs.JsonReportLemmas.{end_written}
use Rattle.gk_report.proofs.json_report.push_object_end.Goals as goal

pub returns : goal.returns
unfolding object_end
returns c =
    let source = c.in_ok-push_string.ensures ∙ ap (λ text. string_bytes c.push_str.new.self ++ compact_text (string text)) c.as_str.ensures.value in
    end_written _ _ _ c.in_ok-push_str.ensures.bytes source c.in_ok-push_str-2.ensures.bytes c.in_ok-push_status.ensures c.in_ok-push_str-3.ensures.bytes
