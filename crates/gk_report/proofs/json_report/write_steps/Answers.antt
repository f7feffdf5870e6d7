use Rattle.gk_report.proofs.Common.{Some, map, sym, subst, on_ok_weaker, Logs, seq_begins, items_of, SendsItems, step_row, step_data}
use Rattle.gk_report.proofs.PrintedLemmas.{left_none}
use Rattle.gk_report.proofs.JsonReportLemmas.{items_len_by}
use Rattle.gk_report.proofs.json_report.write_steps.Goals as goal

pub returns : goal.returns
returns g c =
    let steps = c.args.steps.now in
    let named = g.S.Serializer.written c.key.new.self in
    let first = g.S.Serializer.written c.begin_seq.new.self in
    let last = g.S.Serializer.written c.end_seq.new.self in
    let begun = subst (λ n. Logs named first (seq_begins (Some n))) (sym (items_len_by step_data step_row steps)) c.in_ok-begin_seq.ensures in
    let none = left_none step_row steps c.loop-step.step-index c.loop-step-test.false in
    on_ok_weaker c.end_seq.result (λ e rest end others. (
      named,
      last,
      c.in_ok-key.ensures,
      (first, begun, c.loop-step.invariant last (subst (λ rows. SendsItems (items_of (map step_data rows)) (g.S.Serializer.written c.loop-step.out) last) (sym none) e)),
      others,
    )) c.end_seq.ensures
