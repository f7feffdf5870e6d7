use Rattle.gk_explain.proofs.Common.{◌≡◌, map, drop, texts, first_refused}
use Rattle.gk_explain.proofs.tables.first_refused.Given as goal

abbrev pub invariant-loop-row : goal.invariant-loop-row
invariant-loop-row l = first_refused (map (λ row. texts row.items) (drop l.row-index l.rows)) ≡ first_refused (map (λ row. texts row.items) l.rows)
