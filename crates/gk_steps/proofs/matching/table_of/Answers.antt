use Rattle.gk_steps.proofs.Common.{◌∙◌, ◌+◌, ◌-◌, ◌++◌, ◌∷◌, [], ap, sym, subst, length, map, drop, arith, piece_value, IsRow}
use Rattle.gk_steps.proofs.FilledCellsLemmas.{row_more}
use Rattle.gk_steps.proofs.TableReadLemmas.{table_first, table_more, row_at}
use Rattle.gk_steps.proofs.matching.table_of.Goals as goal

pub loop-below-init : goal.loop-below-init
loop-below-init c = record {
  table = table_first (map piece_value c.args.pieces.now) c.args.text.now c.args.boundaries.now c.push.new.self.items c.in_ok-first.first (c.in_ok-push.ensures.items ∙ ap (λ rows. rows ++ c.in_ok-first.first ∷ []) c.new-rows.ensures.items) (c.in_ok-first.ensures.row c.args.text.now c.requires);
  most = omega (arith, c.in_ok-first.ensures.most);
  least = c.in_ok-first.ensures.least;
  filled = λ fits. omega (arith, c.in_ok-first.ensures.filled (omega (arith, fits)));
}

pub loop-below-preserved : goal.loop-below-preserved
loop-below-preserved c =
    let ps = map piece_value c.args.pieces.now in
    record {
      table = table_more c.args.pieces.now c.args.text.now c.args.boundaries.now c.loop-below.rows.items c.push-in-loop-below.new.self.items c.in_ok-row.row c.loop-below.below c.index-pieces-pieces.result c.loop-below-test.true c.index-pieces-pieces.is c.in_ok-push-2.ensures.items c.loop-below.invariant.table
          (c.in_ok-row.ensures.row (drop (length ps - c.loop-below.below) ps) (subst (IsRow (drop (length ps - c.loop-below.below) ps) c.args.text.now c.args.boundaries.now) (sym c.deref.ensures.value)
          (row_at ps c.args.text.now c.args.boundaries.now c.loop-below.rows.items (c.loop-below.below + 1) c.loop-below.below c.index.result.now c.loop-below.invariant.table (omega arith) c.index.ensures)));
      most = omega (arith, c.loop-below.invariant.most, c.in_ok-row.ensures.most);
      least = omega (arith, c.loop-below.invariant.least, c.in_ok-row.ensures.least);
      filled = row_more c.args.cells.now.filled c.loop-below.cells.filled c.row_over.new.cells.filled c.loop-below.below (length c.args.boundaries.now) c.loop-below.invariant.filled c.in_ok-row.ensures.filled;
    }
