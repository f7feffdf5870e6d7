use Rattle.gk_cli.proofs.Common.{arith, ExplainedInPart, row_lists, inputs_value, files_value, request_of_files, hooks_name, device_of, if_ok, if_err, passed_on, common_steps}
use Rattle.gk_cli.proofs.ReportRunLemmas.{untouched}
use Rattle.gk_cli.proofs.SuiteLemmas.{cut_says, unread_says, used_by_run}
use Rattle.gk_cli.proofs.suite.explain_suite.Goals as goal

pub returns-clause-explained : goal.returns-clause-explained
returns-clause-explained g c =
    let read = rw (c.bytes_of-library.ensures, c.bytes_of-hooks.ensures, c.as_slice-sources.ensures.value) at c.in_ok-inputs.ensures.read in
    let rows = rw c.as_slice-sources.ensures.value at c.in_ok-inputs.ensures.rows in
    let done = rw (c.name_of.ensures) at c.write_explanation.ensures.ok in
    if_ok c.write_explanation.result (λ status explained. (inputs_value c.in_ok-inputs.inputs, row_lists c.in_ok-inputs.inputs.rows.items, read, rows, explained)) done

pub returns-clause-fault : goal.returns-clause-fault
returns-clause-fault g c =
    let request = request_of_files c.args.options.now (files_value c.args.files.now) in
    let hooks = hooks_name (files_value c.args.files.now) in
    let old = device_of g.W.Write.contents c.args.out.now in
    let new = device_of g.W.Write.contents c.write_explanation.new.out in
    let read = rw (c.bytes_of-library.ensures, c.bytes_of-hooks.ensures, c.as_slice-sources.ensures.value) at c.in_ok-inputs.ensures.read in
    let rows = rw c.as_slice-sources.ensures.value at c.in_ok-inputs.ensures.rows in
    let done = rw (c.name_of.ensures) at c.write_explanation.ensures.err in
    if_err c.write_explanation.result (λ fault part. cut_says (ExplainedInPart request hooks c.args.sandbox.now.now old new) request old new fault part.2.2.why (inputs_value c.in_ok-inputs.inputs, row_lists c.in_ok-inputs.inputs.rows.items, read, rows, part)) done

pub returns-in_err-inputs-clause-fault : goal.returns-in_err-inputs-clause-fault
returns-in_err-inputs-clause-fault g c = grind (arith, common_steps, unread_says, untouched, passed_on)

pub returns-clause-used : goal.returns-clause-used
returns-clause-used g c =
    used_by_run c.write_explanation.result (device_of g.W.Write.contents c.args.out.now) (device_of g.W.Write.contents c.write_explanation.new.out)
    (λ status explained. (explained.2.text, explained.2.written)) (λ fault part. part.2.2.unflushed) c.write_explanation.ensures.ok c.write_explanation.ensures.err
