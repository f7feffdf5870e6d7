use Rattle.gk_report.proofs.Common.{ap, map, option_map, refl, sym, ◌∙◌, case_row, rule_row, lines_in}
use Rattle.gk_report.proofs.PushLemmas.{pushed}
use Rattle.gk_report.proofs.RuleLemmas.{lines_in_next}
use Rattle.gk_report.proofs.plain_report.LinesLeft.push_next.Goals as goal

pub returns-in_ok-push_printed-in-Some-clause-pushed : goal.returns-in_ok-push_printed-in-Some-clause-pushed
returns-in_ok-push_printed-in-Some-clause-pushed c =
    let left = c.args.self.now in
    let rule = option_map rule_row left.rule in
    let rules = map rule_row left.rules.now in
    let others = map case_row c.in-Some.others.now in
    let e = sym c.begins_above.ensures ∙ c.if-begins_above.false in
    let next = ap (λ cases. lines_in c.args.no_skipped rule rules (map case_row cases)) c.in-Some.ensures.cases.0 ∙ lines_in_next c.args.no_skipped rule rules (case_row c.in-Some.case.now) others e in
    pushed _ _ _ c.in_ok-push_printed-in-Some.ensures next refl
