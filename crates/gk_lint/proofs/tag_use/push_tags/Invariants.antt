use Rattle.gk_lint.proofs.Common.{◌≡◌, ◌++◌, map, drop, texts}
use Rattle.gk_lint.proofs.tag_use.push_tags.Given as goal

abbrev pub invariant-loop-tag : goal.invariant-loop-tag
invariant-loop-tag l = map (λ t. t.now) l.all.items ++ texts (drop l.tag-index l.tags) ≡ map (λ t. t.now) l.fn.all.items ++ texts l.tags
