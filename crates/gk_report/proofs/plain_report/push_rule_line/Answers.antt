use Rattle.gk_report.proofs.Common.{◌≡◌, false, string_bytes, rules, on_ok_weaker, rule_row, is_passed}
use Rattle.gk_report.proofs.RuleLemmas.{rule_written}
use Rattle.gk_report.proofs.plain_report.push_rule_line.Goals as goal

pub returns : goal.returns
returns c =
    let other : is_passed c.args.rule.around ≡ false = search rules in
    on_ok_weaker c.push_ending.result (λ b. rule_written (rule_row c.args.rule) (string_bytes c.args.out.now) other c.in_ok-write.ensures.bytes b) c.push_ending.ensures
