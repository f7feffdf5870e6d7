use Rattle.gk_lint.proofs.Common.{◌≡◌, ◌++◌, map, drop, feature_value, tags_in}
use Rattle.gk_lint.proofs.tag_use.tags_in.Given as goal

abbrev pub invariant-loop-feature : goal.invariant-loop-feature
invariant-loop-feature l = map (λ t. t.now) l.all.items ++ tags_in (map feature_value (drop l.feature-index l.features)) ≡ tags_in (map feature_value l.features)
