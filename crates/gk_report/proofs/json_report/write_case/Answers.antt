use Rattle.gk_report.proofs.Common.{codes, map, subst, on_ok_weaker, string, member, step_row, case_row, number_data, array_data, step_data, AddsMembers}
use Rattle.gk_report.proofs.JsonReportLemmas.{case_sent}
use Rattle.gk_report.proofs.json_report.write_case.Goals as goal

pub returns : goal.returns
returns g c =
    let old = g.S.Serializer.written c.args.out.now in
    let first = g.S.Serializer.written c.begin_map.new.self in
    let one = g.S.Serializer.written c.write_status.new.out in
    let two = g.S.Serializer.written c.write_text.new.out in
    let three = g.S.Serializer.written c.write_number.new.out in
    let four = g.S.Serializer.written c.write_text-2.new.out in
    let five = g.S.Serializer.written c.write_status-2.new.out in
    let six = g.S.Serializer.written c.write_steps.new.out in
    let end = g.S.Serializer.written c.end_map.new.self in
    let keyword = subst (λ text. AddsMembers (member (codes "keyword") (string text)) one two) c.as_str.ensures c.in_ok-write_text.ensures in
    let line = subst (λ n. AddsMembers (member (codes "line") (number_data n)) two three) c.from.ensures c.in_ok-write_number.ensures in
    let name = subst (λ text. AddsMembers (member (codes "name") (string text)) three four) c.as_str-2.ensures.value c.in_ok-write_text-2.ensures in
    let steps = subst (λ steps. AddsMembers (member (codes "steps") (array_data (map step_data (map step_row steps)))) five six) c.as_slice.ensures.value c.in_ok-write_steps.ensures in
    on_ok_weaker c.end_map.result (case_sent (case_row c.args.case.now) old first one two three four five six end c.in_ok-begin_map.ensures
    c.in_ok-write_status.ensures keyword line name c.in_ok-write_status-2.ensures steps) c.end_map.ensures
