use Rattle.gk_select.proofs.Common.{map, length, Utf8, shadow, word_value}
use Rattle.gk_select.proofs.TagTextWords.{Reads}
use Rattle.gk_select.proofs.tag_words.words_of.Given as goal

abbrev pub invariant-words : goal.invariant-words
invariant-words l = shadow (Utf8 l.rest) × Reads l.text (map word_value l.words.items) l.rest

abbrev pub decreases-words : goal.decreases-words
decreases-words l = length l.rest
