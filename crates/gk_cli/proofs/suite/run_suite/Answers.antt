use Rattle.gk_cli.proofs.Common.{inputs_value, ReportedInPart, SaysFault, asked, device_of, if_ok, if_err, passed_on, subst, sym, arith, common_steps}
use Rattle.gk_cli.proofs.SuiteLemmas.{cut_says, reported_in_part, unread_says, used_by_run, whole_is_judged, whole_is_only}
use Rattle.gk_cli.proofs.ReportRunLemmas.{untouched}
use Rattle.gk_cli.proofs.suite.run_suite.Goals as goal

pub returns-clause-judged : goal.returns-clause-judged
returns-clause-judged g c =
    let request = asked c.args.options.now c.args.library c.args.hooks c.args.sources.now in
    let old = device_of g.W.Write.contents c.args.out.now in
    let new = device_of g.W.Write.contents c.write_run.new.out in
    if_ok c.write_run.result (λ status whole. whole_is_judged request c.args.sandbox.now.now old new (inputs_value c.in_ok-inputs.inputs) status c.in_ok-inputs.ensures.read whole) c.write_run.ensures.ok

pub returns-clause-plain : goal.returns-clause-plain
returns-clause-plain g c =
    let request = asked c.args.options.now c.args.library c.args.hooks c.args.sources.now in
    let old = device_of g.W.Write.contents c.args.out.now in
    let new = device_of g.W.Write.contents c.write_run.new.out in
    if_ok c.write_run.result (λ status whole. whole_is_only c.inputs_are_unique.ensures c.without_memory_there_is_one_list.ensures request c.args.sandbox.now.now old new (inputs_value c.in_ok-inputs.inputs) status c.in_ok-inputs.ensures.read whole) c.write_run.ensures.ok

pub returns-clause-fault : goal.returns-clause-fault
returns-clause-fault g c =
    let request = asked c.args.options.now c.args.library c.args.hooks c.args.sources.now in
    let old = device_of g.W.Write.contents c.args.out.now in
    let new = device_of g.W.Write.contents c.write_run.new.out in
    let contents = c.args.sandbox.now.now in
    if_err c.write_run.result (λ fault part. cut_says (ReportedInPart request contents old new) request old new fault part.2.why (reported_in_part request contents old new (inputs_value c.in_ok-inputs.inputs) fault c.in_ok-inputs.ensures.read part)) c.write_run.ensures.err

pub returns-in_err-inputs-clause-fault : goal.returns-in_err-inputs-clause-fault
returns-in_err-inputs-clause-fault g c =
    let request = asked c.args.options.now c.args.library c.args.hooks c.args.sources.now in
    let old = device_of g.W.Write.contents c.args.out.now in
    passed_on c.from_residual.result c.from_residual.ensures.1 (λ fault same. subst (SaysFault request c.args.sandbox.now.now old old) (sym same)
    (unread_says (ReportedInPart request c.args.sandbox.now.now old old) request old old c.in_err-inputs.field-0.0 c.in_err-inputs.ensures.fault (untouched old)))

pub returns-clause-used : goal.returns-clause-used
returns-clause-used g c = grind (arith, common_steps, used_by_run)
