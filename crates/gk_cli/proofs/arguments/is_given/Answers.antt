use Rattle.gk_cli.proofs.Common.{found_of}
use Rattle.gk_cli.proofs.ArgumentsLemmas.{some_read}
use Rattle.gk_cli.proofs.arguments.is_given.Goals as goal

pub returns : goal.returns
returns c = some_read (found_of c.args.matches.now) c.args.name.now c.get_str.result c.is_some.result c.is_some.ensures c.get_str.ensures
