use Rattle.gk_explain.proofs.Common.{rules, chars_from_encodes}
use Rattle.gk_explain.proofs.shown.count_of.Goals as goal

pub returns : goal.returns
returns c = search (rules, chars_from_encodes)
