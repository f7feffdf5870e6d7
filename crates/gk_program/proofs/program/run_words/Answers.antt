use Rattle.gk_program.proofs.Common.{inl, inr, refl, subst, Err, Ok, device_of, SaysFlush}
use Rattle.gk_program.proofs.ProgramLemmas.{are_given, not_begun, prepared, ran}
use Rattle.gk_program.proofs.program.run_words.Goals as goal

pub returns-in_err-put_variables : goal.returns-in_err-put_variables
returns-in_err-put_variables g c = not_begun g.S.System.reads c.args.words _ _ _ c.in_err-put_variables.field-0.0 c.from_residual.result (inl (c.in_err-put_variables.ensures.fault.0, refl)) c.from_residual.ensures.1

pub returns-in_err-put_files : goal.returns-in_err-put_files
returns-in_err-put_files g c =
    not_begun g.S.System.reads c.args.words _ _ _ c.in_err-put_files.field-0.0 c.from_residual-in_err-put_files.result (inr (inl (c.in_ok-put_variables.ensures.taken, c.in_err-put_files.ensures.fault))) c.from_residual-in_err-put_files.ensures.1

pub returns-in_err-files : goal.returns-in_err-files
returns-in_err-files g c =
    let ready = prepared g.S.System.reads c.args.words c.args.system.now c.put_files.new.system c.new-sandbox.result c.put_variables.new.sandbox c.put_files.new.sandbox
    c.new-sandbox.ensures c.in_ok-put_variables.ensures.put c.in_ok-put_variables.ensures.taken c.in_ok-put_files.ensures.put in
    not_begun g.S.System.reads c.args.words _ _ _ c.in_err-files.field-0.0 c.from_residual-in_err-files.result (inr (inr (c.put_files.new.system, c.put_files.new.sandbox.now, ready, c.in_err-files.ensures.fault))) c.from_residual-in_err-files.ensures.1

pub returns-in-Ok : goal.returns-in-Ok
returns-in-Ok g c =
    let ready = prepared g.S.System.reads c.args.words c.args.system.now c.put_files.new.system c.new-sandbox.result c.put_variables.new.sandbox c.put_files.new.sandbox
    c.new-sandbox.ensures c.in_ok-put_variables.ensures.put c.in_ok-put_variables.ensures.taken c.in_ok-put_files.ensures.put in
    let files = c.in_ok-files.ensures in
    ran g.S.System.reads c.args.words _ c.put_files.new.system _ c.put_files.new.sandbox.now c.in_ok-files.files _ (device_of (λ w. g.W.Write.contents w) c.write_suite-written.new.out) _ c.write_suite-written.result (Ok c.in-Ok.status) _
    ready (are_given c.args.words c.in_ok-files.files files.library files.hooks files.named) files.read c.write_suite-written.ensures.written c.write_suite-written.ensures.fault c.write_suite-written.ensures.used
    (subst (SaysFlush _ _ _) c.in-Ok.is c.flushed.ensures) refl

pub returns-in-Err : goal.returns-in-Err
returns-in-Err g c =
    let ready = prepared g.S.System.reads c.args.words c.args.system.now c.put_files.new.system c.new-sandbox.result c.put_variables.new.sandbox c.put_files.new.sandbox
    c.new-sandbox.ensures c.in_ok-put_variables.ensures.put c.in_ok-put_variables.ensures.taken c.in_ok-put_files.ensures.put in
    let files = c.in_ok-files.ensures in
    ran g.S.System.reads c.args.words _ c.put_files.new.system _ c.put_files.new.sandbox.now c.in_ok-files.files _ (device_of (λ w. g.W.Write.contents w) c.write_suite-written.new.out) _ c.write_suite-written.result (Err c.in-Err.fault) _
    ready (are_given c.args.words c.in_ok-files.files files.library files.hooks files.named) files.read c.write_suite-written.ensures.written c.write_suite-written.ensures.fault c.write_suite-written.ensures.used
    (subst (SaysFlush _ _ _) c.in-Err.is c.flushed.ensures) (record { tags = c.args.words.options.tags; files = c.in_ok-files.files }, refl, refl, refl)
