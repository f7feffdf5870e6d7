use Rattle.gk_lint.proofs.Common.{◌≡◌, ◌++◌, map, drop, scenario_value, feature_value, tags_of, tags_of_scenarios}
use Rattle.gk_lint.proofs.tag_use.push_feature_tags.Given as goal

abbrev pub invariant-loop-scenario : goal.invariant-loop-scenario
invariant-loop-scenario l = map (λ t. t.now) l.all.items ++ tags_of_scenarios (map (λ s. scenario_value s.now) (drop l.scenario-index l.scenario-items)) ≡ map (λ t. t.now) l.fn.all.items ++ tags_of (feature_value l.feature)
