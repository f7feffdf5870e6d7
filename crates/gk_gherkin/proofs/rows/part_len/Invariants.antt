use Rattle.gk_gherkin.proofs.Common.{◌≡◌, ◌-◌, ◌≤◌, length, take, drop, parts_of}
use Rattle.gk_gherkin.proofs.RowParts.{into_all}
use Rattle.gk_gherkin.proofs.rows.part_len.Given as goal

abbrev pub invariant-escapes : goal.invariant-escapes
invariant-escapes l = (l.at ≤ length l.text) × (parts_of l.text ≡ into_all (take l.at l.text) (parts_of (drop l.at l.text)))

abbrev pub decreases-escapes : goal.decreases-escapes
decreases-escapes l = length l.text - l.at
