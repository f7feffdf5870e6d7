use Rattle.gk_select.proofs.Common.{arith, common_steps, nat_tests}
use Rattle.gk_select.proofs.TagStopLemmas.{goes_on, stops_here, stops_at_end, at_word, at_blank}
use Rattle.gk_select.proofs.TagTextWords.{Turn, turned}
use Rattle.gk_select.proofs.tag_stops.stop_in_words.Goals as goal
use Rattle.gk_select.proofs.tag_stops.stop_in_words.Goals.{else-not-is_blank}

pub words-preserved : goal.words-preserved
words-preserved c = grind (arith, common_steps, Turn, turned, goes_on, at_word, else-not-is_blank, at_blank)

pub returns-in-None : goal.returns-in-None
returns-in-None c = grind (arith, common_steps, Turn, turned, stops_here, at_word)

pub returns : goal.returns
returns c = grind (arith, common_steps, nat_tests, stops_at_end)
