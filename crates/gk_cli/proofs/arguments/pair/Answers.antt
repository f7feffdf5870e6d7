use Rattle.gk_cli.proofs.Common.{None, arith, split_parts, list_any-Lacks, common_steps}
use Rattle.gk_cli.proofs.ArgumentsLemmas.{split_there}
use Rattle.gk_cli.proofs.arguments.pair.Goals as goal

pub returns-in-None : goal.returns-in-None
returns-in-None c = list_any-Lacks 61 c.args.text.now (split_parts 61 c.args.text.now None c.in-None.ensures.cases (omega arith))

pub returns-in_ok-from_str-in-Some-2 : goal.returns-in_ok-from_str-in-Some-2
returns-in_ok-from_str-in-Some-2 c = grind (arith, common_steps, split_parts, split_there)
