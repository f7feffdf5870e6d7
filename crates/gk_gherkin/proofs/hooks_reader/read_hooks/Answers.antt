use Rattle.gk_gherkin.proofs.Common.{hooks_value, lines_of}
use Rattle.gk_gherkin.proofs.ReadingWhole.{if_ok, if_err}
use Rattle.gk_gherkin.proofs.HooksReaderSound.{hooks_sound}
use Rattle.gk_gherkin.proofs.HooksReaderStops.{hooks_said, hooks_only}
use Rattle.gk_gherkin.proofs.hooks_reader.read_hooks.Goals as goal

pub returns-clause-found : goal.returns-clause-found
returns-clause-found c = if_ok c.read.result _ _ (λ file h. (h.0, hooks_sound (lines_of c.args.bytes.now) (hooks_value file) h.1)) c.read.ensures.says

pub returns-clause-only : goal.returns-clause-only
returns-clause-only c = λ hooks t h. hooks_only c.read.result hooks c.args.bytes.now c.read.ensures.says c.read.ensures.fault t h

pub returns-clause-fault : goal.returns-clause-fault
returns-clause-fault c = if_err c.read.result _ _ (λ e h. hooks_said e c.args.bytes.now h) c.read.ensures.fault
