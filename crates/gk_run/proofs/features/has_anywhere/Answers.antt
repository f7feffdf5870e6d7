use Rattle.gk_run.proofs.Common.{sym, ◌∙◌, is_status}
use Rattle.gk_run.proofs.CasesLemmas.{around_or, statuses_any}
use Rattle.gk_run.proofs.features.has_anywhere.Goals as goal

pub returns : goal.returns
returns c =
    let is = is_status c.args.wanted in
    let either = c.either.ensures in
    let around = around_or is c.args.rules.now c.args.around _ _ _ c.has_status.ensures c.has_around.ensures c.either-has_ended.ensures in
    let case = c.has_case.ensures ∙ sym (statuses_any is c.args.cases.now) in
    cc
