use Rattle.gk_world.proofs.Common.{IfOk, arith, subst, map_at, Lists}
use Rattle.std.specs.FinMap as finite
use Rattle.gk_world.proofs.ListingLemmas.{lists_none, lists_next, table_listed}
use Rattle.gk_world.proofs.table.Table.listing.Goals as goal

pub loop-position-init : goal.loop-position-init
loop-position-init c = lists_none (finite.get (map_at 0 c.self.inside.slots)) c.self.inside.slots c.new-texts.result c.new-texts.ensures.empty

pub loop-position-preserved : goal.loop-position-preserved
loop-position-preserved c =
    lists_next (finite.get (map_at 0 c.self.inside.slots)) c.self.inside.slots c.loop-position.position c.loop-position.texts c.note.new.texts c.name-name.result.now _ (omega arith) c.name-name.ensures c.text.ensures c.in_ok-note.ensures c.loop-position.invariant

pub returns : goal.returns
returns c = subst (λ s. IfOk c.sorted.result (λ pairs. Lists (finite.get (map_at 0 s)) pairs.items)) c.self.view_is (table_listed c.self.inside.slots c.loop-position.position c.loop-position.texts c.sorted.result (omega arith) c.loop-position.invariant c.sorted.ensures)
