use Rattle.gk_steps.proofs.Common.{◌≡◌, map, drop, texts, are_pairs}
use Rattle.gk_steps.proofs.files_table.are_pairs.Given as goal

abbrev pub invariant-loop-row : goal.invariant-loop-row
invariant-loop-row l = are_pairs (map (λ row. texts row.items) (drop l.row-index l.rows)) ≡ are_pairs (map (λ row. texts row.items) l.rows)
