use Rattle.gk_request.proofs.Common.{map, sym, subst, asked, hooks_value, library_value, source_value, IsUnread}
use Rattle.gk_request.proofs.InputsLemmas.{sources_unread}
use Rattle.gk_request.proofs.ResultLemmas.{passed_on}
use Rattle.gk_request.proofs.inputs.read_inputs.Goals as goal

pub returns-in_err-before-clause-fault : goal.returns-in_err-before-clause-fault
returns-in_err-before-clause-fault c =
    let request = asked c.args.options.now c.args.library c.args.hooks c.args.sources.now in
    passed_on c.from_residual.result c.from_residual.ensures.1 (λ fault same. subst (IsUnread request) (sym same) (c.in_err-before.ensures.fault (map source_value c.args.sources.now)))

pub returns-in_err-features-clause-fault : goal.returns-in_err-features-clause-fault
returns-in_err-features-clause-fault c =
    let request = asked c.args.options.now c.args.library c.args.hooks c.args.sources.now in
    let before = c.in_ok-before.before in
    let read = c.in_ok-before.ensures.read in
    let says = rw (c.new-choice.ensures, c.in_ok-lines.ensures.items, c.as_slice.ensures.value) at c.in_err-features.ensures.fault in
    passed_on c.from_residual-in_err-features.result c.from_residual-in_err-features.ensures.1 (λ fault same.
    subst (IsUnread request) (sym same) (sources_unread request before.rules.items (library_value before.library) (hooks_value before.hooks) c.in_err-features.field-0.0 read.tags read.library read.hooks says))
