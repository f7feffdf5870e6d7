use Rattle.gk_select.proofs.IndexedNames.{no_names}
use Rattle.gk_select.proofs.names.NameIndex.new.Goals as goal

pub returns : goal.returns
returns c = λ first. no_names first _ c.new-2.ensures.empty
