use Rattle.gk_select.proofs.Common.{◌≡◌, ◌≤◌, length, map, drop, tags_of, word_value, seen_of}
use Rattle.gk_select.proofs.tag_values.TagRule.holds_for.Given as goal

abbrev pub invariant-loop-at : goal.invariant-loop-at
invariant-loop-at l = record { within : l.at ≤ length l.words; seen : l.seen ≡ seen_of (tags_of l.tags) (map word_value (drop l.at l.words)) }

abbrev pub decreases-loop-at : goal.decreases-loop-at
decreases-loop-at l = l.at
