use Rattle.gk_steps.proofs.EntryIndexLemmas.{skips_by_ends, skips_both}
use Rattle.gk_steps.proofs.entry_index.Index.next.Goals as goal

pub returns-then-self : goal.returns-then-self
returns-then-self c = skips_both c.args.self.now c.args.from c.args.most c.next_by_ends-least.result c.next_inside.result c.args.text.now c.args.ends c.requires c.next_by_ends-least.ensures c.next_inside.ensures

pub returns-else-self : goal.returns-else-self
returns-else-self c = skips_by_ends c.args.self.now c.args.from c.args.most c.next_by_ends-least.result c.args.text.now c.args.ends c.requires c.if-self.false c.next_by_ends-least.ensures
