use Rattle.gk_select.proofs.Common.{◌≡◌, ◌+◌, ◌≤◌, length, Utf8, shadow, stop_in, first_place, words_of_text}
use Rattle.gk_select.proofs.tag_stops.stop_in_words.Given as goal

abbrev pub invariant-words : goal.invariant-words
invariant-words l = shadow (Utf8 l.rest) × (l.place.groups + length l.rest ≤ length l.text) × (stop_in l.place (words_of_text l.rest) ≡ stop_in first_place (words_of_text l.text))

abbrev pub decreases-words : goal.decreases-words
decreases-words l = length l.rest
