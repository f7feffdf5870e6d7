use Rattle.gk_gherkin.proofs.Common.{subst, err_from_is_err_and, lines, numbered_from}
use Rattle.gk_gherkin.specs.Reading as spec
use Rattle.gk_gherkin.proofs.ReadingWhole.{if_err}
use Rattle.gk_gherkin.proofs.reading.read_text.Goals as goal

pub returns-in_err-run-clause-memory : goal.returns-in_err-run-clause-memory
returns-in_err-run-clause-memory g c =
    let readers = g.P.FileReader.readers in
    let p = err_from_is_err_and c.from_residual.result c.from_residual.ensures.1 in
    rw (p.1, p.2) (λ memory. subst (λ reader. spec.NeedSome readers (spec.Outside reader) (numbered_from 1 (lines c.args.text.now))) c.first-reader.ensures (c.in_err-run.ensures.memory memory))

pub returns-clause-memory : goal.returns-clause-memory
returns-clause-memory g c = if_err c.finish.result _ _ (λ e free memory. absurd (free memory)) c.finish.ensures.free
