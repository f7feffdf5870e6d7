use Rattle.gk_world.proofs.Common.{◌∙◌, ap, cell_at}
use Rattle.gk_world.proofs.RowsLemmas.{cells-at-position}
use Rattle.gk_world.proofs.slots.Slots.cell.Goals as goal

pub returns : goal.returns
returns g c =
    c.text.ensures ∙ ap (cell_at c.args.cell) (cells-at-position g.C.Cells.cells c.self.inside.rows.entries c.args.self.now c.args.position c.index.result.now c.self.view_is c.index.ensures)
