use Rattle.gk_run.proofs.Common.{◌∙◌, false, List, map, ap, subst, arith, library_value, CaseRow, step_row, member_of, AreDrySteps, StepValue, step_value, case_value, Outcome, common_steps}
use Rattle.gk_run.proofs.CasesLemmas.{of_ok}
use Rattle.gk_run.proofs.DryRunLemmas.{dry_unselected, dry_selected, dry_is}
use Rattle.gk_run.specs.declared.results.Status.TheVariants as statuses
use Rattle.gk_run.proofs.dry_run.dry_member.Goals as goal

pub returns-then-not-selected : goal.returns-then-not-selected
returns-then-not-selected c = grind (arith, common_steps, of_ok, dry_unselected)

pub returns : goal.returns
returns c =
    let library = library_value c.args.library.now in
    let case = case_value c.args.case in
    let looked = c.dry_steps-looked.result in
    let rows = map step_row looked.results.items in
    let steps = ap (λ ss. map step_value ss.items) c.in_ok-reserve.ensures in
    let are = subst (λ (ss : List StepValue). AreDrySteps library false ss rows looked.is_refused) steps c.dry_steps-looked.ensures in
    let is = dry_is library case rows looked.is_refused c.dry_status.result c.dry_status.ensures are in
    let row : List Outcome → CaseRow = λ os. record { keyword = case.keyword; name = case.name; line = case.line; status = c.dry_status.result; around = statuses.Passed; cleanups = os; steps = rows } in
    dry_selected library (member_of c.args.case c.args.selected) _ c.if-not-selected.false (is.0, ap row c.new.ensures.items ∙ is.1)
