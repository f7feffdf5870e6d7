use Rattle.gk_lint.proofs.Common.{◌≡◌, ◌||◌, ℕ, List, map, drop, in_set, is_one_of}
use Rattle.gk_lint.proofs.text_sets.set_of.Given as goal

abbrev pub invariant-loop-text : goal.invariant-loop-text
invariant-loop-text l = (text : List ℕ) → (in_set l.set text || is_one_of (map (λ t. t.now) (drop l.text-index l.texts)) text) ≡ is_one_of (map (λ t. t.now) l.texts) text
