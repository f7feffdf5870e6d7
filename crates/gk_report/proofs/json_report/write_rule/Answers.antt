use Rattle.gk_report.proofs.Common.{codes, subst, on_ok_weaker, member, rule_row, number_data, AddsMembers}
use Rattle.gk_report.proofs.JsonReportLemmas.{rule_sent}
use Rattle.gk_report.proofs.json_report.write_rule.Goals as goal

pub returns : goal.returns
returns g c =
    let old = g.S.Serializer.written c.args.out.now in
    let first = g.S.Serializer.written c.begin_map.new.self in
    let one = g.S.Serializer.written c.write_status.new.out in
    let two = g.S.Serializer.written c.write_number.new.out in
    let end = g.S.Serializer.written c.end_map.new.self in
    let line = subst (λ n. AddsMembers (member (codes "line") (number_data n)) one two) c.from.ensures c.in_ok-write_number.ensures in
    on_ok_weaker c.end_map.result (rule_sent (rule_row c.args.rule) old first one two end c.in_ok-begin_map.ensures c.in_ok-write_status.ensures line) c.end_map.ensures
