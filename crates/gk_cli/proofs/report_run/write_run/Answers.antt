use Rattle.gk_cli.proofs.Common.{Bool, Memory, false, head, map, rules, sym, subst, ◌∙◌, Run, chosen_value, inputs_value, run_by, device_of, refl, CountingReporter, IsWhole, IsPrefix, if_ok, if_err, passed_on}
use Rattle.gk_cli.proofs.ReportRunLemmas.{head_stopped, new_report, refused, run_reported, run_stopped, dry_reported, dry_close_stopped, dry_run_stopped}
use Rattle.gk_cli.proofs.report_run.write_run.Goals as goal

pub returns-in_err-text-clause-err : goal.returns-in_err-text-clause-err
returns-in_err-text-clause-err g c =
    let run = run_by c.args.options.now (inputs_value c.args.inputs) in
    let contents = c.args.sandbox.now.now in
    let features = map chosen_value c.args.inputs.features.items in
    let style = c.args.options.now.style in
    let old = device_of g.W.Write.contents c.args.out.now in
    passed_on c.from_residual.result c.from_residual.ensures.1 (λ fault same.
    subst (IsPrefix run contents features style old old) (sym same) (head_stopped run contents features style old old Memory (refused old (head style))))

pub returns-in_err-write_piece-clause-err : goal.returns-in_err-write_piece-clause-err
returns-in_err-write_piece-clause-err g c =
    let run = run_by c.args.options.now (inputs_value c.args.inputs) in
    let contents = c.args.sandbox.now.now in
    let features = map chosen_value c.args.inputs.features.items in
    let style = c.args.options.now.style in
    let old = device_of g.W.Write.contents c.args.out.now in
    let new = device_of g.W.Write.contents c.write_piece.new.out in
    let stopped = rw (c.as_str.ensures.value ∙ c.in_ok-text.ensures.text) at c.in_err-write_piece.ensures.err in
    passed_on c.from_residual-in_err-write_piece.result c.from_residual-in_err-write_piece.ensures.1 (λ fault same.
    subst (IsPrefix run contents features style old new) (sym same) (head_stopped run contents features style old new c.in_err-write_piece.field-0.0 stopped))

pub returns-in_err-look_up_features-clause-err : goal.returns-in_err-look_up_features-clause-err
returns-in_err-look_up_features-clause-err g c =
    let run = run_by c.args.options.now (inputs_value c.args.inputs) in
    let contents = c.args.sandbox.now.now in
    let features = map chosen_value c.args.inputs.features.items in
    let style = c.args.options.now.style in
    let old = device_of g.W.Write.contents c.args.out.now in
    let headed = device_of g.W.Write.contents c.write_piece.new.out in
    let begun = rw (c.as_str.ensures.value ∙ c.in_ok-text.ensures.text) at c.in_ok-write_piece.ensures.ok in
    let new = device_of g.W.Write.contents c.look_up_features.new.out in
    let so_far : CountingReporter _ = record { alloc = c.args.alloc; reporter = new_report style; summary = c.new.result } in
    passed_on c.from_residual-in_err-look_up_features.result c.from_residual-in_err-look_up_features.ensures.1 (λ fault same.
    subst (IsPrefix run contents features style old new) (sym same)
    (dry_run_stopped c.reports_grow_by_parts.ensures c.unfinished_dry_runs_are_judged.ensures run c.if-options.true contents features so_far style old headed new c.in_err-look_up_features.field-0.0
    refl begun c.in_err-look_up_features.ensures.err))

pub returns-then-options : goal.returns-then-options
returns-then-options g c =
    let run = run_by c.args.options.now (inputs_value c.args.inputs) in
    let contents = c.args.sandbox.now.now in
    let features = map chosen_value c.args.inputs.features.items in
    let style = c.args.options.now.style in
    let old = device_of g.W.Write.contents c.args.out.now in
    let headed = device_of g.W.Write.contents c.write_piece.new.out in
    let begun = rw (c.as_str.ensures.value ∙ c.in_ok-text.ensures.text) at c.in_ok-write_piece.ensures.ok in
    let there = device_of g.W.Write.contents c.look_up_features.new.out in
    let so_far : CountingReporter _ = record { alloc = c.args.alloc; reporter = new_report style; summary = c.new.result } in
    let new = device_of g.W.Write.contents c.close.new.out in
    record {
      ok = if_ok c.close.result (λ status closed. dry_reported c.dry_runs_are_judged.ensures run c.if-options.true contents features so_far c.look_up_features.new.counting style old headed there new status
          refl c.new.ensures begun c.in_ok-look_up_features.ensures.ok closed) c.close.ensures.ok;
      err = if_err c.close.result (λ fault stops. dry_close_stopped c.dry_runs_are_judged.ensures run c.if-options.true contents features so_far c.look_up_features.new.counting style old headed there new fault
          refl c.new.ensures begun c.in_ok-look_up_features.ensures.ok stops) c.close.ensures.err;
      same = search rules;
    }

pub returns : goal.returns
returns g c =
    let inputs = inputs_value c.args.inputs in
    let run_if : Bool → Run = λ dry. record (run_by c.args.options.now inputs) { dry_run = dry } in
    let contents = c.args.sandbox.now.now in
    let features = map chosen_value c.args.inputs.features.items in
    let style = c.args.options.now.style in
    let old = device_of g.W.Write.contents c.args.out.now in
    let headed = device_of g.W.Write.contents c.write_piece.new.out in
    let begun = rw (c.as_str.ensures.value ∙ c.in_ok-text.ensures.text) at c.in_ok-write_piece.ensures.ok in
    let new = device_of g.W.Write.contents c.run_notifying.new.out in
    let ran = rw (c.new-hooks.ensures) at c.run_notifying.ensures.ok in
    let failed = rw (c.new-hooks.ensures) at c.run_notifying.ensures.err in
    record {
      ok = if_ok c.run_notifying.result (λ status notified. subst (λ (dry : Bool). IsWhole (run_if dry) contents features style old new status) (sym c.if-options.false)
          (run_reported (run_if false) contents features style old headed new status begun notified)) ran;
      err = if_err c.run_notifying.result (λ fault notified. subst (λ (dry : Bool). IsPrefix (run_if dry) contents features style old new fault) (sym c.if-options.false)
          (run_stopped c.reports_grow_by_parts.ensures (run_if false) contents features style old headed new fault begun notified)) failed;
      same = search rules;
    }
