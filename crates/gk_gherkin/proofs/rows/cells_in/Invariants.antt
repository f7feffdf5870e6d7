use Rattle.gk_gherkin.proofs.Common.{◌≡◌, length, Utf8, shadow, texts, parts_of}
use Rattle.gk_gherkin.proofs.RowParts.{cells_all, onto}
use Rattle.gk_gherkin.proofs.rows.cells_in.Given as goal

abbrev pub invariant-parts : goal.invariant-parts
invariant-parts l = shadow (Utf8 l.rest) × (cells_all (parts_of l.text) ≡ onto (texts l.cells.items) (cells_all (parts_of l.rest)))

abbrev pub decreases-parts : goal.decreases-parts
decreases-parts l = length l.rest
