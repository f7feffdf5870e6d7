use Rattle.gk_run.proofs.Common.{◌∙◌, ap, sym, subst, Does, ActionRowValue, library_value, state_of, does_at_site, arguments_value, HasRegistered}
use Rattle.gk_run.proofs.acting.carry_out.Goals as goal

pub returns-in-Registers-clause-registered : goal.returns-in-Registers-clause-registered
returns-in-Registers-clause-registered c =
    let used = c.args.used.now in
    let s = state_of c.args.sandbox.now.now in
    let is = sym (ap (λ (row : ActionRowValue). row.does) c.row.ensures) ∙ c.in-Registers.is in
    subst (λ (d : Does). HasRegistered (does_at_site d used.action c.args.site (library_value c.args.library.now) (arguments_value used.arguments) s) c.args.at c.args.cleanups.now c.at_cleanup.result c.at_cleanup.new.cleanups) (sym is) (c.at_cleanup.ensures.registered s)
