use Rattle.gk_gherkin.proofs.Common.{rules, ap, sym, ◌∙◌, subst, arith, common_steps, err_from_is_err_and, lines, Fails, LineValue, state_value}
use Rattle.gk_gherkin.specs.Reading as spec
use Rattle.gk_gherkin.proofs.FirstLines.{no_lines}
use Rattle.gk_gherkin.proofs.ReadingLoop.{rest_of_run, ends, is_done, needed_here, needed_later}
use Rattle.gk_gherkin.proofs.reading.run.Goals as goal

pub returns-in_err-next_line-clause-says : goal.returns-in_err-next_line-clause-says
returns-in_err-next_line-clause-says g c =
    let readers = g.P.FileReader.readers in
    let s = state_value (g.P.FileReader.value c.lines.reader) c.lines.doc_string in
    let p = err_from_is_err_and c.from_residual.result c.from_residual.ensures.1 in
    let fails = subst (λ l. Fails c.in_err-next_line.field-0.0 (spec.step readers s l)) c.borrowed_line.ensures c.in_err-next_line.ensures.says in
    rw (p.1, p.2) (ends (spec.step readers) s c.lines.number (lines c.lines.rest.now) (lines c.first_line.result.1.now) c.first_line.result.0.now c.first_line.ensures.lines _ c.lines.invariant.so_far c.in_err-next_line.field-0.0 fails)

pub returns-in_err-next_line-clause-memory : goal.returns-in_err-next_line-clause-memory
returns-in_err-next_line-clause-memory g c =
    let readers = g.P.FileReader.readers in
    let s = state_value (g.P.FileReader.value c.lines.reader) c.lines.doc_string in
    let p = err_from_is_err_and c.from_residual.result c.from_residual.ensures.1 in
    rw (p.1, p.2) (λ memory. c.lines.invariant.needs (needed_here (spec.step readers) s c.lines.number (lines c.lines.rest.now) (lines c.first_line.result.1.now) c.first_line.result.0.now c.first_line.ensures.lines (spec.NeedsIn readers)
    (subst (λ (l : LineValue). spec.NeedsIn readers s l) c.borrowed_line.ensures (c.in_err-next_line.ensures.memory memory))))

pub lines-preserved : goal.lines-preserved
lines-preserved g c =
    let readers = g.P.FileReader.readers in
    let s = state_value (g.P.FileReader.value c.lines.reader) c.lines.doc_string in
    let next = state_value (g.P.FileReader.value c.next_line.new.reader) c.next_line.new.text in
    let taken = ap (spec.step readers s) (sym c.borrowed_line.ensures) ∙ c.in_ok-next_line.ensures.says in
    record {
      utf8 = search rules;
      so_far = rest_of_run (spec.step readers) s c.lines.number (lines c.lines.rest.now) (lines c.first_line.result.1.now) c.first_line.result.0.now c.first_line.ensures.lines _ c.lines.invariant.so_far next taken;
      counted = omega (arith, c.lines.invariant.counted, c.first_line.ensures.shorter);
      within = omega (arith, c.lines.invariant.within, c.first_line.ensures.shorter);
      needs = λ h. c.lines.invariant.needs (needed_later (spec.step readers) s c.lines.number (lines c.lines.rest.now) (lines c.first_line.result.1.now) c.first_line.result.0.now c.first_line.ensures.lines (spec.NeedsIn readers) next taken h);
    }

pub returns-clause-says : goal.returns-clause-says
returns-clause-says g c = grind (arith, common_steps, is_done, no_lines)
