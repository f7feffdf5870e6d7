use Rattle.gk_report.proofs.Common.{on_ok_weaker}
use Rattle.gk_report.proofs.JsonReportLemmas.{counts_sent}
use Rattle.gk_report.proofs.json_report.write_counts.Goals as goal

pub returns : goal.returns
returns g c =
    let named = g.S.Serializer.written c.key.new.self in
    let first = g.S.Serializer.written c.begin_map.new.self in
    let one = g.S.Serializer.written c.write_number.new.out in
    let two = g.S.Serializer.written c.write_number-2.new.out in
    let three = g.S.Serializer.written c.write_number-3.new.out in
    let four = g.S.Serializer.written c.write_number-4.new.out in
    let five = g.S.Serializer.written c.write_undefined.new.out in
    let six = g.S.Serializer.written c.write_number-5.new.out in
    let last = g.S.Serializer.written c.end_map.new.self in
    on_ok_weaker c.end_map.result (λ e rest end others. (
      named,
      last,
      c.in_ok-key.ensures,
      counts_sent c.args.of_steps c.args.counts.now named first one two three four five six last c.count_members.result c.count_members.ensures c.in_ok-begin_map.ensures
          c.in_ok-write_number.ensures c.in_ok-write_number-2.ensures c.in_ok-write_number-3.ensures c.in_ok-write_number-4.ensures c.in_ok-write_undefined.ensures c.in_ok-write_number-5.ensures e,
      others,
    )) c.end_map.ensures
