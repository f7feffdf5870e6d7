use Rattle.gk_report.proofs.Common.{Some, map, sym, subst, on_ok_weaker, Logs, seq_begins, items_of, SendsItems, rule_row, rule_data}
use Rattle.gk_report.proofs.PrintedLemmas.{left_none}
use Rattle.gk_report.proofs.JsonReportLemmas.{items_len_by}
use Rattle.gk_report.proofs.json_report.write_rules.Goals as goal

pub returns : goal.returns
returns g c =
    let rules = c.args.rules.now in
    let at = g.S.Serializer.written in
    let old = at c.args.out.now in
    let before = at c.begin_seq.new.self in
    let end = at c.end_seq.new.self in
    on_ok_weaker c.end_seq.result (λ sent. (
      before,
      subst (λ n. Logs old before (seq_begins (Some n))) (sym (items_len_by rule_data rule_row rules)) c.in_ok-begin_seq.ensures,
      c.loop-rule.invariant end (subst (λ rows. SendsItems (items_of (map rule_data rows)) (at c.loop-rule.out) end) (sym (left_none rule_row rules c.loop-rule.rule-index c.loop-rule-test.false)) sent),
    )) c.end_seq.ensures
