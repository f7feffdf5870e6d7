use Rattle.gk_gherkin.proofs.Common.{◌∙◌, ap, Ok, arith, common_steps, strip_prefix_char, borrowed_value}
use Rattle.gk_gherkin.proofs.RowParts.{row_cells, no_row}
use Rattle.gk_gherkin.proofs.rows.cells_of.Goals as goal

pub returns-in-Some : goal.returns-in-Some
returns-in-Some c = grind (arith, common_steps, row_cells, strip_prefix_char)

pub returns-in-None : goal.returns-in-None
returns-in-None c =
    ap Ok (no_row (borrowed_value c.args.line.now) (λ rest e. (rw c.in-None.is at (strip_prefix_char 124 c.trim.result.now _ c.strip_prefix.ensures.cases (omega arith))) rest (c.trim.ensures ∙ e)))
