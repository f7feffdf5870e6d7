use Rattle.gk_select.proofs.Common.{map, word_value}
use Rattle.gk_select.proofs.AlternativeWords.{ReadSo}
use Rattle.gk_select.proofs.alternatives.words_of_alternatives.Given as goal

abbrev pub invariant-loop-piece : goal.invariant-loop-piece
invariant-loop-piece l =
    (goal.iterator-loop-piece).can_next l.piece-iterator ×
    (goal.iterator-loop-piece).is_finite l.piece-iterator ×
    ReadSo (map (λ x. x.now) l.yielded) (map word_value l.words.items)
