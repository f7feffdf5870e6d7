use Rattle.gk_run.proofs.Common.{◌≡◌, ◌∙◌, Bool, Some, ap, length, nat_eq, not, refl, subst, sym, ℕ, step_value, library_value, found, IsUseOf, state_of, Site, Used, Mark, HasRegistered, IsActed, IsDoneBy, IsStepRun, called, done_of, one_step, place_of, use_value}
use Rattle.gk_run.specs.declared.results.Outcome.TheVariants as outcomes
use Rattle.gk_run.proofs.WalkLemmas.{used_event, used_kept, used_step}
use Rattle.gk_run.proofs.walk.run_step.Goals as goal

pub returns-in-Ok-Some-clause-ran : goal.returns-in-Ok-Some-clause-ran
returns-in-Ok-Some-clause-ran g c =
    let library = library_value c.args.run.now.library.now in
    let step = step_value c.args.step.now in
    let s = state_of c.args.sandbox.now.now in
    let new = state_of c.carry_out-outcome.new.sandbox.now in
    let u = c.in-Ok-Some.found in
    let used : Used = record { action = u.action; arguments = c.arguments_by.result } in
    let o = c.carry_out-outcome.result in
    let looked : IsUseOf library (found library step.step_type step.text) (Some u) = subst (λ text. IsUseOf library (found library step.step_type text) (Some u)) c.as_str.ensures.value (subst (IsUseOf library (found library step.step_type c.as_str.result.now)) c.in-Ok-Some.field-0-is c.in-Ok-Some.ensures.found) in
    let acted = subst (λ (site : Site). IsActed (done_of (called c.args.run.now.library.now site used s)) c.args.sandbox.now o c.carry_out-outcome.new.sandbox) c.site_of-site.ensures c.carry_out-outcome.ensures.acted in
    let registered = subst (λ (site : Site). HasRegistered (called c.args.run.now.library.now site used s) (place_of c.args.stage step) c.args.cleanups.now o c.carry_out-outcome.new.cleanups) c.site_of-site.ensures c.carry_out-outcome.ensures.registered in
    subst (λ (m : Mark). IsStepRun (one_step library c.args.stage s step) c.args.cleanups.now m new c.carry_out-outcome.new.cleanups) (sym c.done_by-done.ensures.mark)
    (used_step library c.args.stage s new c.args.cleanups.now c.carry_out-outcome.new.cleanups step (found library step.step_type step.text) u (use_value used) o looked refl c.arguments_by.ensures acted.carried_out registered)

pub returns-in-Ok-Some-clause-notified : goal.returns-in-Ok-Some-clause-notified
returns-in-Ok-Some-clause-notified g c =
    let library = library_value c.args.run.now.library.now in
    let step = step_value c.args.step.now in
    let s = state_of c.args.sandbox.now.now in
    let new = state_of c.carry_out-outcome.new.sandbox.now in
    let u = c.in-Ok-Some.found in
    let used : Used = record { action = u.action; arguments = c.arguments_by.result } in
    let o = c.carry_out-outcome.result in
    let cs = c.args.cleanups.now in
    let left = c.carry_out-outcome.new.cleanups in
    let looked : IsUseOf library (found library step.step_type step.text) (Some u) = subst (λ text. IsUseOf library (found library step.step_type text) (Some u)) c.as_str.ensures.value (subst (IsUseOf library (found library step.step_type c.as_str.result.now)) c.in-Ok-Some.field-0-is c.in-Ok-Some.ensures.found) in
    let ran = subst (λ (m : Mark). IsStepRun (one_step library c.args.stage s step) cs m new left) c.done_by-done.ensures.mark (returns-in-Ok-Some-clause-ran g c) in
    let more : not (nat_eq c.len.result c.len-before.result) ≡ not (nat_eq (length left) (length cs)) = ap (λ (n : ℕ). not (nat_eq n c.len-before.result)) c.len.ensures ∙ ap (λ (n : ℕ). not (nat_eq (length left) n)) c.len-before.ensures in
    let by = subst (λ (b : Bool). IsDoneBy used o b c.done_by-done.result) more c.done_by-done.ensures.done in
    used_event g.O.Observer.hears library c.args.stage s new cs left step (found library step.step_type step.text) u used o c.done_by-done.result c.args.observer.now c.step.new.self looked refl c.arguments_by.ensures ran by c.done_by-done.ensures.mark c.step.ensures

pub returns-in-Ok-Some-clause-kept : goal.returns-in-Ok-Some-clause-kept
returns-in-Ok-Some-clause-kept g c is =
    let library = library_value c.args.run.now.library.now in
    let step = step_value c.args.step.now in
    let s = state_of c.args.sandbox.now.now in
    let u = c.in-Ok-Some.found in
    let used : Used = record { action = u.action; arguments = c.arguments_by.result } in
    let o = c.carry_out-outcome.result in
    let looked : IsUseOf library (found library step.step_type step.text) (Some u) = subst (λ text. IsUseOf library (found library step.step_type text) (Some u)) c.as_str.ensures.value (subst (IsUseOf library (found library step.step_type c.as_str.result.now)) c.in-Ok-Some.field-0-is c.in-Ok-Some.ensures.found) in
    let acted = subst (λ (site : Site). IsActed (done_of (called c.args.run.now.library.now site used s)) c.args.sandbox.now o c.carry_out-outcome.new.sandbox) c.site_of-site.ensures c.carry_out-outcome.ensures.acted in
    let memory : o ≡ outcomes.Memory = let m = c.done_by-done.ensures.mark in cc (is, m) in
    used_kept library c.args.stage c.args.sandbox.now c.carry_out-outcome.new.sandbox step (found library step.step_type step.text) u (use_value used) looked refl c.arguments_by.ensures (acted.kept memory)
