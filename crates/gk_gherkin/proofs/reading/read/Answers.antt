use Rattle.gk_gherkin.proofs.Common.{ap, lines, numbered_from}
use Rattle.gk_gherkin.proofs.ReadingWhole.{read_fault}
use Rattle.gk_gherkin.proofs.reading.read.Goals as goal

pub returns-clause-fault : goal.returns-clause-fault
returns-clause-fault g c =
    read_fault g.P.FileReader.readers g.P.FileReader.answer_value c.read_text.result c.args.bytes.now (numbered_from 1 (lines c.in_ok-text.text.now)) (ap (λ t. numbered_from 1 (lines t)) c.in_ok-text.ensures.ok.1) c.in_ok-text.ensures.ok.0 c.read_text.ensures.says c.read_text.ensures.memory
