use Rattle.gk_select.proofs.Common.{◌≡◌, ◌≤◌, length, map, drop, Some, word_value, measure_of, built_value}
use Rattle.gk_select.proofs.tag_grammar.check_words.Given as goal

abbrev pub invariant-loop-at : goal.invariant-loop-at
invariant-loop-at l = record { within : l.at ≤ length l.words; built : measure_of (map word_value (drop l.at l.words)) ≡ Some (built_value l.built) }

abbrev pub decreases-loop-at : goal.decreases-loop-at
decreases-loop-at l = l.at
