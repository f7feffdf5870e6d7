use Rattle.gk_select.proofs.Common.{◌≡◌, ◌++◌, drop, flat_map, map, examples_value, scenario_value, examples_selected}
use Rattle.gk_select.proofs.selecting.select_outline.Given as goal

abbrev pub invariant-loop-examples : goal.invariant-loop-examples
invariant-loop-examples l = l.selected.items ++ flat_map (examples_selected l.choice (l.feature ++ l.rule) (scenario_value l.scenario).tags) (map examples_value (drop l.examples-index l.scenario.examples.items))
    ≡ l.fn.selected.items ++ flat_map (examples_selected l.choice (l.feature ++ l.rule) (scenario_value l.scenario).tags) (map examples_value l.scenario.examples.items)
