use Rattle.gk_cli.proofs.Common.{string_bytes, arith, first_value-rows, common_steps}
use Rattle.gk_cli.proofs.arguments.words_of.Goals as goal

pub returns : goal.returns
returns c = grind (arith, common_steps, first_value-rows)

pub returns-in-Err-2 : goal.returns-in-Err-2
returns-in-Err-2 c = grind (arith, common_steps, string_bytes)
