use Rattle.gk_select.proofs.Common.{◌≡◌, ◌++◌, drop, flat_map, map, scenario_value, entry_value, rows_of_scenario}
use Rattle.gk_select.proofs.example_rows.push_scenarios_rows.Given as goal

abbrev pub invariant-loop-scenario : goal.invariant-loop-scenario
invariant-loop-scenario l = map entry_value l.rows.items ++ flat_map rows_of_scenario (map scenario_value (drop l.scenario-index l.scenarios))
    ≡ map entry_value l.fn.rows.items ++ flat_map rows_of_scenario (map scenario_value l.scenarios)
