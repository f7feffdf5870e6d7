use Rattle.gk_steps.proofs.Common.{None, map, refl, subst, sym, piece_value, IsWholeTable}
use Rattle.gk_steps.proofs.TableReadLemmas.{top_cell, cell_holds, cell_fails}
use Rattle.gk_steps.proofs.matching.match_pieces.Goals as goal

pub returns-then-not-index-clause-found : goal.returns-then-not-index-clause-found
returns-then-not-index-clause-found g c = (
  None,
  tt,
  cell_fails (map piece_value c.args.pieces.now) c.args.text.now c.index-2.result.now
      (top_cell c.args.pieces.now c.args.text.now c.args.boundaries.now c.in_ok-rows.rows.items c.index.result.now c.index-2.result.now c.utf8.text c.requires c.in_ok-rows.ensures.table c.index.ensures c.index-2.ensures) c.if-not-index.true,
)

-- first, what is asked of the lifetimes at a bound that names one
pub read-requires : goal.read-requires
read-requires g c = λ lifetimes. (
  (refl, tt),
  (
    c.requires,
    (
      subst (IsWholeTable c.args.pieces.now c.args.text.now c.args.boundaries.now) (sym c.deref.ensures.value) c.in_ok-rows.ensures.table,
      cell_holds (map piece_value c.args.pieces.now) c.args.text.now c.index-2.result.now
          (top_cell c.args.pieces.now c.args.text.now c.args.boundaries.now c.in_ok-rows.rows.items c.index.result.now c.index-2.result.now c.utf8.text c.requires c.in_ok-rows.ensures.table c.index.ensures c.index-2.ensures) c.if-not-index.false,
    ),
  ),
)
