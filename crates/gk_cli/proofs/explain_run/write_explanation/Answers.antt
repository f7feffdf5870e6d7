use Rattle.gk_cli.proofs.Common.{if_ok, if_err}
use Rattle.gk_cli.proofs.explain_run.write_explanation.Goals as goal

pub returns-clause-ok : goal.returns-clause-ok
returns-clause-ok g c =
    let silent = rw (c.as_slice.ensures.value) at c.new-explainer.ensures.said in
    let ran = rw (c.new-table.ensures) at c.run_notifying.ensures.ok in
    if_ok c.run_notifying.result (λ status written. (c.new-explainer.result, silent, written)) ran

pub returns-clause-err : goal.returns-clause-err
returns-clause-err g c =
    let silent = rw (c.as_slice.ensures.value) at c.new-explainer.ensures.said in
    let ran = rw (c.new-table.ensures) at c.run_notifying.ensures.err in
    if_err c.run_notifying.result (λ fault written. (c.new-explainer.result, silent, written)) ran
