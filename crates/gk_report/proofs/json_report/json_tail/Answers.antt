use Rattle.gk_report.proofs.Common.{ap, ◌∙◌, IfOk-weaker, string, compact_text}
use Rattle.gk_report.proofs.JsonReportLemmas.{tail_from}
use Rattle.gk_report.proofs.json_report.json_tail.Goals as goal

pub returns : goal.returns
returns c = IfOk-weaker c.tail_text.result _ _ (λ text e.
    tail_from c.args.around c.args.summary.now _ _ _ _ e (c.as_str.ensures.value ∙ (c.in_ok-run.ensures ∙ ap (λ name. compact_text (string name)) c.status_text.ensures)) c.status-status.ensures.counts (c.as_str-2.ensures.value ∙ c.in_ok-counts.ensures)) c.tail_text.ensures
