use Rattle.gk_findings.proofs.Common.{source_value, map, ap, sym, subst, hooks_value, is_chosen, library_value, IsLibrary, bytes_of, files_value, request_of_files, noted_library, read_of, sources_unread}
use Rattle.gk_findings.proofs.linted_suite.findings_text.Goals as goal

pub returns-in-Ok-lint_sources-clause-linted : goal.returns-in-Ok-lint_sources-clause-linted
returns-in-Ok-lint_sources-clause-linted c =
    let read = rw (c.bytes_of-library.ensures, c.bytes_of-hooks.ensures) at c.in-Ok.ensures.read in
    let lint = rw (c.as_slice.ensures.value) at c.in-Ok-lint_sources.ensures.linted in
    let files = files_value c.args.files.now in
    let library = noted_library c.args.steps c.name_of.result.now c.in_ok-new.field-0 in
    record {
      tags = read.tags;
      read = read_of library c.in-Ok.before c.in-Ok-lint_sources.so_far;
      library = subst (λ e. IsLibrary (bytes_of files.library) e) (sym c.in_ok-new.ensures) read.library;
      noted = ap (λ name. noted_library c.args.steps name c.in_ok-new.field-0) c.name_of.ensures;
      hooks = read.hooks;
      readings = lint.readings;
      features = lint.features;
      sources = lint.linted;
      whole = c.in_ok-whole_text-in-Ok-lint_sources.ensures;
    }

pub returns-in-Err-clause-fault : goal.returns-in-Err-clause-fault
returns-in-Err-clause-fault c =
    let unread = rw (c.bytes_of-library.ensures, c.bytes_of-hooks.ensures) at c.in-Err.ensures.fault (map source_value c.args.files.now.sources.items) in
    unread

pub returns-clause-fault : goal.returns-clause-fault
returns-clause-fault c =
    let request = request_of_files c.args.options.now (files_value c.args.files.now) in
    let rules = c.in-Ok.before.rules.items in
    let read = rw (c.bytes_of-library.ensures, c.bytes_of-hooks.ensures) at c.in-Ok.ensures.read in
    let says = rw (c.as_slice.ensures.value) at c.in-Err-lint_sources.ensures.fault in
    sources_unread request rules (library_value c.in-Ok.before.library) (hooks_value c.in-Ok.before.hooks) c.in-Err-lint_sources.fault read.tags read.library read.hooks
    (says (is_chosen rules request.lines))
