use Rattle.gk_select.proofs.Common.{◌≡◌, ◌++◌, map, flat_map, into_iter_items, scenario_value, case_value, scenario_cases, RowsFit, inherited_value}
use Rattle.gk_select.proofs.expansion.push_scenarios_cases.Given as goal

abbrev pub invariant-loop-scenario : goal.invariant-loop-scenario
invariant-loop-scenario l = record {
  fit : RowsFit (map scenario_value (into_iter_items l.scenario-iterator));
  built : map case_value l.cases.items ++ flat_map (scenario_cases (inherited_value l.inherited)) (map scenario_value (into_iter_items l.scenario-iterator))
      ≡ map case_value l.fn.cases.items ++ flat_map (scenario_cases (inherited_value l.inherited)) (map scenario_value l.fn.scenarios.items);
}
