use Rattle.gk_world.proofs.Common.{IfOk, ◌∙◌, arith, ap, sym, subst, see, state_at, Lists}
use Rattle.gk_world.proofs.ListingLemmas.{lists_none, lists_next, values_listed}
use Rattle.gk_world.proofs.values.Values.listing.Goals as goal

pub loop-position-init : goal.loop-position-init
loop-position-init c = lists_none (see (state_at c.args.layers c.self.inside.slots)) c.self.inside.slots c.new-texts.result c.new-texts.ensures.empty

pub loop-position-preserved : goal.loop-position-preserved
loop-position-preserved c =
    lists_next (see (state_at c.args.layers c.self.inside.slots)) c.self.inside.slots c.loop-position.position c.loop-position.texts c.note.new.texts c.name-name.result.now _ (omega arith) c.name-name.ensures (c.get.ensures ∙ ap (λ s. see (state_at c.args.layers s) c.name-name.result.now) (sym c.self.view_is)) c.in_ok-note.ensures c.loop-position.invariant

pub returns : goal.returns
returns c = subst (λ s. IfOk c.sorted.result (λ pairs. Lists (see (state_at c.args.layers s)) pairs.items)) c.self.view_is (values_listed c.args.layers c.self.inside.slots c.loop-position.position c.loop-position.texts c.sorted.result (omega arith) c.loop-position.invariant c.sorted.ensures)
