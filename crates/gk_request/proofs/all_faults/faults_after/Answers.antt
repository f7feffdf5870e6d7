use Rattle.gk_request.proofs.Common.{◌++◌, [], drop, suc, refl, subst, sym, arith, add-one, append-nil, drop_all, length-map, source_value, AreFaultsOf, files_after, files_value, run_files}
use Rattle.gk_request.proofs.AllFaultsLemmas.{file_at, file_next, length_sources, one_more}
use Rattle.gk_request.proofs.all_faults.faults_after.Goals as goal

pub loop-number-init : goal.loop-number-init
loop-number-init c = λ later rest.
    let files = files_value c.args.files.now in
    let counted = length_sources 0 files.sources in
    let mapped = length-map c.args.files.now.sources.items source_value in
    let same = c.files_until-number.ensures files (let o = c.args.files.now.sources.ok in let small = c.args.files.now.sources.small in let k = o.1 in omega (arith, counted, mapped, o.0, k, small)) in
    subst (λ faults. AreFaultsOf (files_after files c.args.first) (faults ++ later)) (sym c.new-faults.ensures.items) (subst (λ left. AreFaultsOf left later) same rest)

pub loop-number-preserved : goal.loop-number-preserved
loop-number-preserved c = λ later rest.
    let files = files_value c.args.files.now in
    let number = c.loop-number.number in
    let counted = length_sources 0 files.sources in
    let mapped = length-map c.args.files.now.sources.items source_value in
    let there = file_at (run_files files) number (let len = c.args.files.now.sources.ok.0 in omega (arith, counted, mapped, len, c.len-number-end.ensures, c.loop-number-test.true)) in
    one_more (AreFaultsOf (files_after files c.args.first)) there.0 (drop (suc number) (run_files files)) c.loop-number.faults.items c.add_fault.new.faults.items
    (λ more found. c.loop-number.invariant more (subst (λ left. AreFaultsOf left more) (sym (file_next (run_files files) number there.0 there.1)) found))
    (c.in_ok-add_fault.ensures there.0 (c.check_file.ensures there.0 there.1)) later (subst (λ n. AreFaultsOf (drop n (run_files files)) later) (add-one number) rest)

pub returns : goal.returns
returns c =
    let files = files_value c.args.files.now in
    let counted = length_sources 0 files.sources in
    let mapped = length-map c.args.files.now.sources.items source_value in
    let none = drop_all c.loop-number.number (run_files files) (let len = c.args.files.now.sources.ok.0 in omega (arith, counted, mapped, len, c.len-number-end.ensures, c.loop-number-test.false)) in
    subst (AreFaultsOf (files_after files c.args.first)) (append-nil c.loop-number.faults.items) (c.loop-number.invariant [] (subst (λ left. AreFaultsOf left []) (sym none) refl))
