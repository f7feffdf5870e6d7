use Rattle.gk_steps.proofs.EntryIndexLemmas.{skips_entries}
use Rattle.gk_steps.proofs.entry_index.IndexedEntries.next.Goals as goal

pub returns-then-from-self : goal.returns-then-from-self
returns-then-from-self c = skips_entries c.args.self.now.index.now c.args.self.now.entries.now c.args.from c.next.result c.args.text.now c.if-from-self.true c.requires.indexed c.next.ensures
