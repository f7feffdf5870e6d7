use Rattle.gk_steps.proofs.Common.{ap, take}
use Rattle.gk_steps.proofs.EntryIndexLemmas.{listed_taken}
use Rattle.gk_steps.proofs.library.Library.indexed.Goals as goal

pub returns-clause-listed : goal.returns-clause-listed
returns-clause-listed c = listed_taken c.args.self.now.index c.args.self.now.entries.items (take c.args.size c.deref.result.now) c.args.size (ap (take c.args.size) c.deref.ensures.value) c.args.self.now.listed
