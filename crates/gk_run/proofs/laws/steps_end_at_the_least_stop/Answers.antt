use Rattle.gk_run.proofs.WordsLemmas.{steps_in_words}
use Rattle.gk_run.proofs.laws.steps_end_at_the_least_stop.Goals as goal

pub returns : goal.returns
returns c = steps_in_words
