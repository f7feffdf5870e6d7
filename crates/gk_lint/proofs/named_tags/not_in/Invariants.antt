use Rattle.gk_lint.proofs.Common.{◌≡◌, ◌++◌, map, drop, in_set, without}
use Rattle.gk_lint.proofs.named_tags.not_in.Given as goal

abbrev pub invariant-loop-tag : goal.invariant-loop-tag
invariant-loop-tag l = map (λ t. t.now) l.left.items ++ without (in_set l.tags) (map (λ t. t.now) (drop l.tag-index l.named)) ≡ without (in_set l.tags) (map (λ t. t.now) l.named)
