use Rattle.gk_steps.proofs.Common.{◌∙◌, ap, arith, sym, map, subst, Entry, piece_value, Lists}
use Rattle.gk_steps.proofs.EntryIndexLemmas.{listed_more}
use Rattle.gk_steps.proofs.entry_index.Index.list.Goals as goal

pub loop-self-preserved : goal.loop-self-preserved
loop-self-preserved c =
    let index = c.loop-self.self in
    record {
      lengths = omega (arith, c.in_ok-add.ensures.lengths, c.loop-self.invariant.lengths);
      positions = omega (arith, c.in_ok-add.ensures.positions, c.loop-self.invariant.positions);
      index = listed_more index c.add.new.self c.args.entries.now c.index-entries-position.result c.loop-self-test.true c.index-entries-position.is c.in_ok-add.ensures.kept
          (subst (λ q. Lists c.add.new.self index.listed (map piece_value q)) (c.deref.ensures.value ∙ ap (λ (x : Entry). x.pattern.pieces.items) (sym c.index-entries-position.is)) c.in_ok-add.ensures.added) c.loop-self.invariant.index.listed;
    }
