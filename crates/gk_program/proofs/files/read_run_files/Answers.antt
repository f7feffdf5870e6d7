use Rattle.gk_program.proofs.Common.{map, option_map, subst, sym, arith, string_bytes, source_value, StopsReading, names_in_order, one_of, common_steps}
use Rattle.gk_program.proofs.FilesLemmas.{one_named, reads_both, stops_later, stops_sooner}
use Rattle.gk_request.proofs.ResultLemmas.{passed_on}
use Rattle.gk_program.proofs.files.read_run_files.Goals as goal

pub returns-in_err-library-clause-fault : goal.returns-in_err-library-clause-fault
returns-in_err-library-clause-fault g c = grind (arith, common_steps, passed_on, stops_sooner, option_map)

pub returns-in_err-hooks-clause-fault : goal.returns-in_err-hooks-clause-fault
returns-in_err-hooks-clause-fault g c =
    let reads = g.S.System.reads in
    let start = c.args.system.now in
    let middle = c.read_named_file.new.system in
    let end = c.read_named_file-2.new.system in
    let library = c.in_ok-library.library in
    let fault = c.in_err-hooks.field-0.0 in
    passed_on c.from_residual-in_err-hooks.result c.from_residual-in_err-hooks.ensures.1 (λ other same.
    subst (λ f. StopsReading reads start (names_in_order c.args.library c.args.hooks c.args.names.items) end f) (sym same)
    (stops_later reads start middle end (one_of (option_map source_value library)) (one_of (option_map string_bytes c.args.library)) _ fault
    c.in_ok-library.ensures.read (one_named library c.args.library c.in_ok-library.ensures.named)
    (stops_sooner reads middle end (one_of (option_map string_bytes c.args.hooks)) (map string_bytes c.args.names.items) fault c.in_err-hooks.ensures.fault)))

pub returns-in_err-sources-clause-fault : goal.returns-in_err-sources-clause-fault
returns-in_err-sources-clause-fault g c =
    let reads = g.S.System.reads in
    let start = c.args.system.now in
    let middle = c.read_named_file.new.system in
    let later = c.read_named_file-2.new.system in
    let end = c.read_files.new.system in
    let library = c.in_ok-library.library in
    let hooks = c.in_ok-hooks.hooks in
    let fault = c.in_err-sources.field-0.0 in
    passed_on c.from_residual-in_err-sources.result c.from_residual-in_err-sources.ensures.1 (λ other same.
    subst (λ f. StopsReading reads start (names_in_order c.args.library c.args.hooks c.args.names.items) end f) (sym same)
    (stops_later reads start middle end (one_of (option_map source_value library)) (one_of (option_map string_bytes c.args.library)) _ fault
    c.in_ok-library.ensures.read (one_named library c.args.library c.in_ok-library.ensures.named)
    (stops_later reads middle later end (one_of (option_map source_value hooks)) (one_of (option_map string_bytes c.args.hooks)) _ fault
    c.in_ok-hooks.ensures.read (one_named hooks c.args.hooks c.in_ok-hooks.ensures.named) c.in_err-sources.ensures.fault)))

pub returns-clause-read : goal.returns-clause-read
returns-clause-read g c = grind (arith, common_steps, reads_both, option_map)
