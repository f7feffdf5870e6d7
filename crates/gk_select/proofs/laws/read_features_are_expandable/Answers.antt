use Rattle.gk_select.proofs.Common.{lines_of}
use Rattle.gk_select.proofs.ReadableRows.{expandable}
use Rattle.gk_select.proofs.laws.read_features_are_expandable.Goals as goal

pub returns : goal.returns
returns c = λ bytes f text reads. expandable (lines_of bytes) f reads (c.rules_are_counted.ensures bytes f text reads)
