use Rattle.gk_gherkin.proofs.Common.{◌≡◌, ◌≤◌, ◌+◌, length, Utf8, shadow, lines, numbered_from, state_value}
use Rattle.gk_gherkin.specs.Reading as spec
use Rattle.gk_gherkin.proofs.reading.run.Given as goal

abbrev pub invariant-lines : goal.invariant-lines
invariant-lines g l =
    let readers = g.P.FileReader.readers in
    let value = g.P.FileReader.value in
    let left = numbered_from l.number (lines l.rest) in
    let all = numbered_from 1 (lines l.text) in
    record {
      utf8 : shadow (Utf8 l.rest);
      so_far : spec.run readers (state_value (value l.reader) l.doc_string) left ≡ spec.run readers (state_value (value l.fn.reader) l.fn.doc_string) all;
      counted : l.number + length l.rest ≤ 1 + length l.text;
      within : length l.rest ≤ length l.text;
      needs : spec.NeedSome readers (state_value (value l.reader) l.doc_string) left → spec.NeedSome readers (state_value (value l.fn.reader) l.fn.doc_string) all;
    }

abbrev pub decreases-lines : goal.decreases-lines
decreases-lines g l = length l.rest
