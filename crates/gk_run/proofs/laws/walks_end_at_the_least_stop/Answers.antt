use Rattle.gk_run.proofs.WordsLemmas.{walks_in_words}
use Rattle.gk_run.proofs.laws.walks_end_at_the_least_stop.Goals as goal

pub returns : goal.returns
returns c = walks_in_words
