use Rattle.gk_cli.proofs.Common.{files_value, request_of_files}
use Rattle.gk_cli.proofs.ModesLemmas.{in_mode}
use Rattle.gk_request.proofs.ResultLemmas.{if_ok_both}
use Rattle.gk_cli.proofs.suite.write_suite.Goals as goal

pub returns-in-Report-clause-written : goal.returns-in-Report-clause-written
returns-in-Report-clause-written g c =
    let files = files_value c.args.files.now in
    let judged = rw (c.bytes_of-library.ensures, c.bytes_of-hooks.ensures, c.as_slice-sources.ensures.value) at c.run_suite.ensures.judged in
    let plain = rw (c.bytes_of-library.ensures, c.bytes_of-hooks.ensures, c.as_slice-sources.ensures.value) at c.run_suite.ensures.plain in
    in_mode _ _ files (request_of_files c.args.options.now files) _ _ _ _ c.in-Report.is (if_ok_both _ _ c.run_suite.result judged plain)
