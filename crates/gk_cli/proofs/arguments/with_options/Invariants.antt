use Rattle.gk_cli.proofs.Common.{◌≡◌, fold, map, drop, App, with_rule, IsCommand, option_value, rule_of_option}
use Rattle.gk_cli.specs.Arguments as spec
use Rattle.gk_cli.proofs.arguments.with_options.Given as goal

-- the command so far with the rows that are left is the whole command
abbrev pub invariant-loop-row : goal.invariant-loop-row
invariant-loop-row l = (app : App) × IsCommand app l.command × (fold with_rule app (map rule_of_option (map option_value (drop l.row-index l.rows))) ≡ fold with_rule spec.command_of_files (map rule_of_option (map option_value l.rows)))
