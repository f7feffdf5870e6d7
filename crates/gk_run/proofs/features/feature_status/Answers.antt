use Rattle.gk_run.proofs.Common.{sym, ◌∙◌, is_passed, is_untested}
use Rattle.gk_run.proofs.CasesLemmas.{statuses_any}
use Rattle.gk_run.proofs.features.feature_status.Goals as goal

pub returns : goal.returns
returns c =
    let verdict = c.verdict_by.ensures in
    let memory = c.has_anywhere.ensures in
    let failed = c.has_anywhere-2.ensures in
    let untested = c.has_case.ensures ∙ sym (statuses_any is_untested c.args.cases.now) in
    let passed = c.has_case-2.ensures ∙ sym (statuses_any is_passed c.args.cases.now) in
    cc
