use Rattle.gk_gherkin.proofs.Common.{arith, common_steps, IsCharBoundary-after_ascii}
use Rattle.gk_gherkin.proofs.FirstLines.{up_to_end, without_end}
use Rattle.gk_gherkin.proofs.lines.first_line.Goals as goal

pub range_from-requires : goal.range_from-requires
range_from-requires c = grind (arith, common_steps, IsCharBoundary-after_ascii)

pub returns-in-Some-clause-lines : goal.returns-in-Some-clause-lines
returns-in-Some-clause-lines c = grind (arith, common_steps, up_to_end)

pub returns-in-None-clause-lines : goal.returns-in-None-clause-lines
returns-in-None-clause-lines c = grind (arith, common_steps, without_end)
