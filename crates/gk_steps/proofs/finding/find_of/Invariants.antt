use Rattle.gk_steps.proofs.Common.{◌≤◌, ◌+◌, ◌-◌, length, map, drop, NoneBefore, entry_value, cells_of_type}
use Rattle.gk_steps.proofs.finding.find_of.Given as goal

abbrev pub invariant-loop-position : goal.invariant-loop-position
invariant-loop-position g l = NoneBefore l.position (map entry_value l.entries) l.step_type l.text
    × (l.cells.filled + cells_of_type (map entry_value (drop l.position l.entries)) l.step_type l.text ≤ l.fn.cells.filled + cells_of_type (map entry_value l.entries) l.step_type l.text)
    × (l.fn.cells.filled ≤ l.cells.filled)

abbrev pub decreases-loop-position : goal.decreases-loop-position
decreases-loop-position g l = length l.entries - l.position
