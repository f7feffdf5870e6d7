use Rattle.gk_select.proofs.Common.{◌≡◌, ◌++◌, map, drop, word_value, tags_among}
use Rattle.gk_select.proofs.tag_values.push_tags.Given as goal

abbrev pub invariant-loop-word : goal.invariant-loop-word
invariant-loop-word l = map (λ t. t.now) l.all.items ++ tags_among (map word_value (drop l.word-index l.words)) ≡ map (λ t. t.now) l.fn.all.items ++ tags_among (map word_value l.words)
