use Rattle.gk_lint.proofs.Common.{◌≡◌, ◌++◌, map, flat_map, drop, ExamplesValue, examples_value, scenario_value, tags_of_scenario}
use Rattle.gk_lint.proofs.tag_use.push_scenario_tags.Given as goal

abbrev pub invariant-loop-part : goal.invariant-loop-part
invariant-loop-part l = map (λ t. t.now) l.all.items ++ flat_map (λ (e : ExamplesValue). e.tags) (map examples_value (drop l.part-index l.scenario.examples.items)) ≡ map (λ t. t.now) l.fn.all.items ++ tags_of_scenario (scenario_value l.scenario)
