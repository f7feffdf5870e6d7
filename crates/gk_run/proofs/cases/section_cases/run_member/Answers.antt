use Rattle.gk_run.proofs.Common.{refl, arith, state_of, CaseResult, member_of, IsMember, case_row, run_value, common_steps}
use Rattle.gk_run.proofs.CasesLemmas.{member_reached, member_unreached, member_unselected, of_ok}
use Rattle.gk_run.proofs.PartLemmas.{at_err}
use Rattle.gk_run.proofs.cases.section_cases.run_member.Goals as goal

pub returns-then-not-selected-clause-ran : goal.returns-then-not-selected-clause-ran
returns-then-not-selected-clause-ran g c = grind (arith, common_steps, of_ok, member_unselected)

pub returns-then-not-is_open-clause-ran : goal.returns-then-not-is_open-clause-ran
returns-then-not-is_open-clause-ran g c =
    let run = run_value c.args.run.now in
    let m = member_of c.args.member.case c.args.member.selected in
    let now = state_of c.args.sandbox.now.now in
    let first = c.args.observer.now in
    of_ok (λ (r : CaseResult). IsMember g.O.Observer.hears run now c.args.is_open m (case_row r) first first) c.unrun_case-then-not-is_open.result c.unrun_case-then-not-is_open.ensures
    (λ r e. member_unreached g.O.Observer.hears run now c.args.is_open m (case_row r) first c.if-not-selected.false c.if-not-is_open.true e)

pub returns-clause-ran : goal.returns-clause-ran
returns-clause-ran g c =
    let run = run_value c.args.run.now in
    let m = member_of c.args.member.case c.args.member.selected in
    let now = state_of c.args.sandbox.now.now in
    let first = c.args.observer.now in
    let last = c.case_in.new.observer in
    of_ok (λ (r : CaseResult). IsMember g.O.Observer.hears run now c.args.is_open m (case_row r) first last) c.case_in.result c.case_in.ensures.notified
    (λ r messages. member_reached g.O.Observer.hears run now c.args.is_open m (case_row r) first last c.if-not-selected.false c.if-not-is_open.false messages)

pub returns-then-not-selected-clause-silent : goal.returns-then-not-selected-clause-silent
returns-then-not-selected-clause-silent g c = at_err c.unrun_case.result refl

pub returns-then-not-is_open-clause-silent : goal.returns-then-not-is_open-clause-silent
returns-then-not-is_open-clause-silent g c = at_err c.unrun_case-then-not-is_open.result refl

pub returns-clause-silent : goal.returns-clause-silent
returns-clause-silent g c = c.case_in.ensures.silent
