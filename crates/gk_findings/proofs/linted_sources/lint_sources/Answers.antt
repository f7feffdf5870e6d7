use Rattle.gk_findings.proofs.Common.{map, take, sym, subst, string_bytes, source_value, noted_library_value, IsLintOf, at_place, take_one, first_unread}
use Rattle.gk_findings.proofs.LintedSourcesLemmas.{are_read, lint_of_more}
use Rattle.gk_findings.proofs.linted_sources.lint_sources.Goals as goal

pub returns-in-Err : goal.returns-in-Err
returns-in-Err c =
    let library = noted_library_value c.args.library.now in
    let sources = map source_value c.args.sources.now in
    let source = source_value c.index-sources-input.result in
    let place = at_place source_value c.args.sources.now c.loop-input.input c.index-sources-input.result c.loop-input-test.true c.index-sources-input.is in
    let before = c.loop-input.invariant in
    record {
      linted = tt;
      fault = λ chooses.
          let read = are_read chooses library (take c.loop-input.input sources) before.readings (string_bytes c.loop-input.so_far.text) before.linted in
          first_unread chooses sources read.0 c.loop-input.input source c.in-Err.fault read.1 place c.in-Err.ensures.fault;
    }

pub loop-input-preserved : goal.loop-input-preserved
loop-input-preserved c =
    let library = noted_library_value c.args.library.now in
    let sources = map source_value c.args.sources.now in
    let source = source_value c.index-sources-input.result in
    let place = at_place source_value c.args.sources.now c.loop-input.input c.index-sources-input.result c.loop-input-test.true c.index-sources-input.is in
    subst (λ ss. IsLintOf library ss c.lint_source.new.so_far) (sym (take_one sources c.loop-input.input source place))
    (lint_of_more library (take c.loop-input.input sources) source c.loop-input.so_far c.lint_source.new.so_far c.loop-input.invariant c.in_default.ensures.ok)
