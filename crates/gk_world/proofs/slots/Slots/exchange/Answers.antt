use Rattle.gk_world.proofs.Common.{ap, ◌∙◌, arith, common_steps, cell_at}
use Rattle.gk_world.proofs.RowsLemmas.{row-write, differ-written, cells-at-position}
use Rattle.gk_world.proofs.slots.Slots.exchange.Goals as goal

pub invariant_of-self : goal.invariant_of-self
invariant_of-self g c = differ-written g.C.Cells.cells c.self.inside.rows.entries c.args.position c.replace.new.self c.self.invariant

pub returns-clause-within : goal.returns-clause-within
returns-clause-within g c = grind (arith, common_steps, cells-at-position)

pub returns-clause-set : goal.returns-clause-set
returns-clause-set g c = row-write g.C.Cells.cells c.self.inside.rows.entries c.args.self.now c.args.position c.args.cell c.index_mut-cells.result.now c.replace.new.self _ c.self.view_is c.index_mut-cells.ensures.value c.replace.ensures.set

pub returns-clause-old : goal.returns-clause-old
returns-clause-old g c =
    c.replace.ensures.old
    ∙ ap (cell_at c.args.cell) (cells-at-position g.C.Cells.cells c.self.inside.rows.entries c.args.self.now c.args.position c.index_mut-cells.result.now c.self.view_is c.index_mut-cells.ensures.value)
