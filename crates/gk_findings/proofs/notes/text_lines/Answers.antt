use Rattle.gk_findings.proofs.Common.{map_from_collect, YieldsList-from_lines}
use Rattle.gk_findings.proofs.notes.text_lines.Goals as goal

pub returns-clause-lines : goal.returns-clause-lines
returns-clause-lines c = map_from_collect _ c.collect.ensures.ran (YieldsList-from_lines c.args.text.now cc)
