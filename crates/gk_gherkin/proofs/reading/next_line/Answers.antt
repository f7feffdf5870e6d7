use Rattle.gk_gherkin.proofs.Common.{Option, Ok, refl, ap, sym, ◌∙◌, DocString, borrowed_value, state_value, text_value}
use Rattle.gk_gherkin.specs.Reading as spec
use Rattle.gk_gherkin.proofs.ReadingStates.{step_closes}
use Rattle.gk_gherkin.proofs.reading.next_line.Goals as goal

pub returns-then-is_closed_by-clause-says : goal.returns-then-is_closed_by-clause-says
returns-then-is_closed_by-clause-says g c =
    let readers = g.P.FileReader.readers in
    let reader = g.P.FileReader.value c.args.reader.now in
    let text = text_value c.in-Some.it in
    ap (λ (t : Option DocString). spec.step readers (state_value reader t) (borrowed_value c.args.line.now)) c.in-Some.is
    ∙ step_closes readers reader text (borrowed_value c.args.line.now) (sym c.is_closed_by.ensures ∙ c.if-is_closed_by.true)
    ∙ ap Ok (sym (c.end_text.ensures text refl))
