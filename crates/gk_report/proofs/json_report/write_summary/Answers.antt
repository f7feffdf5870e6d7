use Rattle.gk_report.proofs.Common.{on_ok_weaker}
use Rattle.gk_report.proofs.JsonReportLemmas.{summary_sent}
use Rattle.gk_report.proofs.json_report.write_summary.Goals as goal

pub returns : goal.returns
returns g c =
    let old = g.S.Serializer.written c.args.out.now in
    let first = g.S.Serializer.written c.begin_map.new.self in
    let one = g.S.Serializer.written c.write_counts.new.out in
    let two = g.S.Serializer.written c.write_counts-2.new.out in
    let three = g.S.Serializer.written c.write_counts-3.new.out in
    let end = g.S.Serializer.written c.end_map.new.self in
    on_ok_weaker c.end_map.result (summary_sent c.args.summary.now old first one two three end c.in_ok-begin_map.ensures c.in_ok-write_counts.ensures c.in_ok-write_counts-2.ensures c.in_ok-write_counts-3.ensures) c.end_map.ensures
