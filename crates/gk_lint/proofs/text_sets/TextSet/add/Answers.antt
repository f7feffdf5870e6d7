use Rattle.gk_lint.proofs.Common.{◌∙◌, bytes_eq, in_set}
use Rattle.gk_lint.proofs.NamedAgain.{or_of_cond}
use Rattle.gk_lint.proofs.text_sets.TextSet.add.Goals as goal

pub returns-clause-has : goal.returns-clause-has
returns-clause-has c = λ other. c.in_ok-insert.ensures.updates.0 (record { ref_ptr = (0, 0); now = other }) ∙ or_of_cond (bytes_eq c.args.text.now other) (in_set c.args.self.now other)
