use Rattle.gk_gherkin.proofs.Common.{◌≡◌, ◌⊎◌, length, Utf8, shadow, prefix_len, borrowed_value, is_blank, trim_front, texts, BeginsWithTag, tags_of, words_of}
use Rattle.gk_gherkin.proofs.TagWords.{onto_tags, tags_by}
use Rattle.gk_gherkin.proofs.tags.tags_of.Given as goal

abbrev pub invariant-words : goal.invariant-words
invariant-words l = shadow (Utf8 l.rest) × (tags_of (borrowed_value l.line) ≡ onto_tags (texts l.tags.items) (tags_by (words_of l.rest))) × (prefix_len is_blank l.rest ≡ 0) × (BeginsWithTag (borrowed_value l.line) ⊎ (l.rest ≡ trim_front (borrowed_value l.line).text))

abbrev pub decreases-words : goal.decreases-words
decreases-words l = length l.rest
