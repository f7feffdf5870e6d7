use Rattle.gk_report.proofs.Common.{codes, subst, on_ok_weaker, string, member, step_row, number_data, AddsMembers}
use Rattle.gk_report.proofs.JsonReportLemmas.{step_sent}
use Rattle.gk_report.proofs.json_report.write_step.Goals as goal

pub returns : goal.returns
returns g c =
    let old = g.S.Serializer.written c.args.out.now in
    let first = g.S.Serializer.written c.begin_map.new.self in
    let one = g.S.Serializer.written c.write_text.new.out in
    let two = g.S.Serializer.written c.write_number.new.out in
    let three = g.S.Serializer.written c.write_reason.new.out in
    let four = g.S.Serializer.written c.write_status.new.out in
    let five = g.S.Serializer.written c.write_text-2.new.out in
    let end = g.S.Serializer.written c.end_map.new.self in
    let keyword = subst (λ text. AddsMembers (member (codes "keyword") (string text)) first one) c.as_str.ensures c.in_ok-write_text.ensures in
    let line = subst (λ n. AddsMembers (member (codes "line") (number_data n)) one two) c.from.ensures c.in_ok-write_number.ensures in
    let text = subst (λ text. AddsMembers (member (codes "text") (string text)) four five) c.as_str-2.ensures.value c.in_ok-write_text-2.ensures in
    on_ok_weaker c.end_map.result (step_sent (step_row c.args.step.now) old first one two three four five end c.step_members.result c.step_members.ensures c.in_ok-begin_map.ensures
    keyword line c.in_ok-write_reason.ensures c.in_ok-write_status.ensures text) c.end_map.ensures
