use Rattle.gk_cli.proofs.Common.{◌≡◌, map, drop, list_any, found_of, rows_of, option_value}
use Rattle.gk_cli.specs.Arguments as spec
use Rattle.gk_cli.proofs.arguments.first_excluded.Given as goal

-- the rows that are left have an excluded option exactly if all rows have one
abbrev pub invariant-loop-row : goal.invariant-loop-row
invariant-loop-row l = let p = spec.is_excluded (rows_of (found_of l.matches)) in list_any p (map option_value (drop l.row-index l.rows)) ≡ list_any p (map option_value l.rows)
