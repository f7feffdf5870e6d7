use Rattle.gk_lint.proofs.Common.{◌≡◌, ◌++◌, map, drop, feature_value, lines_of_features}
use Rattle.gk_lint.proofs.scenario_lines.lines_of_features.Given as goal

abbrev pub invariant-loop-feature : goal.invariant-loop-feature
invariant-loop-feature l = l.lines.items ++ lines_of_features (map feature_value (drop l.feature-index l.features)) ≡ lines_of_features (map feature_value l.features)
