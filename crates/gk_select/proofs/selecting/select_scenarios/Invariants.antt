use Rattle.gk_select.proofs.Common.{◌≡◌, ◌++◌, drop, flat_map, map, scenario_value, scenario_selected}
use Rattle.gk_select.proofs.selecting.select_scenarios.Given as goal

abbrev pub invariant-loop-scenario : goal.invariant-loop-scenario
invariant-loop-scenario l = l.selected.items ++ flat_map (scenario_selected l.choice (l.feature ++ l.rule)) (map scenario_value (drop l.scenario-index l.scenarios))
    ≡ l.fn.selected.items ++ flat_map (scenario_selected l.choice (l.feature ++ l.rule)) (map scenario_value l.scenarios)
