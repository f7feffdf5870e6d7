use Rattle.gk_request.proofs.Common.{◌-◌, map, subst, sym, arith, bytes_of, option_map, source_at, source_value, SaysFile, DoesRead}
use Rattle.gk_request.proofs.InputsLemmas.{at_place, source_file}
use Rattle.gk_request.proofs.AllFaultsLemmas.{says_err}
use Rattle.gk_request.proofs.all_faults.check_file.Goals as goal

pub returns : goal.returns
returns c = λ file there.
    let files = c.args.files.now in
    let source = source_value c.index.result.now in
    let at = at_place source_value files.sources.items (c.args.number - 2) c.index.result.now (omega (arith, c.requires, c.if-number-eq0.false, c.if-number-eq1.false)) c.index.ensures in
    let is = source_file (bytes_of (option_map source_value files.library)) (bytes_of (option_map source_value files.hooks)) (map source_value files.sources.items) c.args.number (c.args.number - 2) source file (omega (arith, c.if-number-eq0.false, c.if-number-eq1.false)) at there in
    subst DoesRead is (_, rw c.as_slice.ensures.value at c.in_ok-_feature.ensures.read)

pub returns-in_err-_feature : goal.returns-in_err-_feature
returns-in_err-_feature c = λ file there.
    let files = c.args.files.now in
    let source = source_value c.index.result.now in
    let at = at_place source_value files.sources.items (c.args.number - 2) c.index.result.now (omega (arith, c.requires, c.if-number-eq0.false, c.if-number-eq1.false)) c.index.ensures in
    let is = source_file (bytes_of (option_map source_value files.library)) (bytes_of (option_map source_value files.hooks)) (map source_value files.sources.items) c.args.number (c.args.number - 2) source file (omega (arith, c.if-number-eq0.false, c.if-number-eq1.false)) at there in
    let says = rw c.as_slice.ensures.value at c.in_err-_feature.ensures.fault in
    says_err file c.from_residual-in_err-_feature.result c.from_residual-in_err-_feature.ensures.1 (λ fault same. subst (λ f. SaysFile f fault) is (subst (SaysFile (source_at (c.args.number - 2) source.bytes)) (sym same) says))
