use Rattle.gk_request.proofs.Common.{sym, subst, library_value, asked_of, IsUnread}
use Rattle.gk_request.proofs.InputsLemmas.{library_unread, hooks_unread}
use Rattle.gk_request.proofs.ResultLemmas.{passed_on}
use Rattle.gk_request.proofs.inputs.read_before.Goals as goal

pub returns-in_err-library-clause-fault : goal.returns-in_err-library-clause-fault
returns-in_err-library-clause-fault c =
    let rules = c.in-Ok.rules.items in
    let tags = rw (c.in-Ok.is, c.as_slice.ensures.value) at c.in_ok-rules.ensures.rules in
    passed_on c.from_residual-in_err-library.result c.from_residual-in_err-library.ensures.1 (λ fault same sources.
    let request = asked_of c.args.options.now c.args.library c.args.hooks sources in
    subst (IsUnread request) (sym same) (library_unread request rules c.in_err-library.field-0.0 tags c.in_err-library.ensures.fault))

pub returns-in_err-hooks-clause-fault : goal.returns-in_err-hooks-clause-fault
returns-in_err-hooks-clause-fault c =
    let rules = c.in-Ok.rules.items in
    let tags = rw (c.in-Ok.is, c.as_slice.ensures.value) at c.in_ok-rules.ensures.rules in
    passed_on c.from_residual-in_err-hooks.result c.from_residual-in_err-hooks.ensures.1 (λ fault same sources.
    let request = asked_of c.args.options.now c.args.library c.args.hooks sources in
    subst (IsUnread request) (sym same) (hooks_unread request rules (library_value c.in_ok-library.library) c.in_err-hooks.field-0.0 tags c.in_ok-library.ensures.read c.in_err-hooks.ensures.fault))
